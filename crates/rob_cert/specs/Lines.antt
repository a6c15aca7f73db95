-- The lines of a certificate's text, as data, in their order. What is 0 in a list of numbers has no line.
use Rattle.std.specs.Prelude.{ℕ, suc, List, [], ◌∷◌, ◌++◌, map, if◌then◌else◌}
use Rattle.rob_algebra.specs.Fraction.{Fraction}
use Rattle.rob_algebra.specs.FractionOrder.{eq_ℚ}
use Rattle.rob_meaning.specs.Certificates.{Status, optimal, infeasible, unbounded, Cover, Item, Certificate}
use Rattle.rob_meaning.specs.Places.{0ℚ}
use Rattle.rob_cert.specs.declared.kind.Multipliers.{Multipliers}
use Rattle.rob_cert.specs.declared.kind.Multipliers.TheVariants.{Covers, Holds}
use Rattle.rob_cert.specs.declared.kind.Vector.{Vector}
use Rattle.rob_cert.specs.declared.kind.Vector.TheVariants.{Inside, Plan, Move, At}

-- a line; forms, set rows and the places of entries are numbers from 0. `A` is what stands for its fractions:
-- fractions, or the words that spell them
pub data Line (A : Type 0) : Type 0 where
  status_line : Status → Line A
  value_line : A → Line A
  scale_line : A → Line A
  entry_line : Vector → (place : ℕ) → A → Line A
  cover_line : Multipliers → (form set_row : ℕ) → A → Line A
  item_line : (form : ℕ) (weight base : A) → Line A
  end_line : Line A

-- the value and the scale, where there is a plan
abbrev pub bound_lines : Status → Fraction → Fraction → List (Line Fraction)
bound_lines optimal value scale = value_line value ∷ (scale_line scale ∷ [])
bound_lines infeasible value scale = []
bound_lines unbounded value scale = value_line value ∷ (scale_line scale ∷ [])

-- the numbers of a list that aren't 0, the list's first number standing at `place`
abbrev pub entry_lines : Vector → ℕ → List Fraction → List (Line Fraction)
entry_lines v place [] = []
entry_lines v place (q ∷ qs) =
    if eq_ℚ q 0ℚ then entry_lines v (suc place) qs else (entry_line v place q ∷ entry_lines v (suc place) qs)

-- the covers of a list
abbrev pub cover_lines : Multipliers → List Cover → List (Line Fraction)
cover_lines which cs = map (λ (c : Cover). cover_line which c.form c.set_row c.amount) cs

-- the items, each with the entries of its vector behind it
abbrev pub item_lines : List Item → List (Line Fraction)
item_lines [] = []
item_lines (i ∷ is) = (item_line i.form i.weight i.base ∷ entry_lines At 0 i.vector) ++ item_lines is

-- the lines of a certificate
abbrev pub lines_of : Certificate → List (Line Fraction)
lines_of c =
    status_line c.status
    ∷ (bound_lines c.status c.value c.scale
    ++ (entry_lines Inside 0 c.inside
    ++ (entry_lines Plan 0 c.plan
    ++ (entry_lines Move 0 (c.step ++ c.step_bound ∷ [])
    ++ (cover_lines Covers c.covers
    ++ (cover_lines Holds c.holds
    ++ (item_lines c.items
    ++ end_line ∷ [])))))))
