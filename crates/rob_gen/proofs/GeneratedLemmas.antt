-- The model of a number is that of the number's remainder by 12, so that it is well
-- formed is tested of twelve models. That it is within the limits and well named is
-- tested for 2, 3, 4 and 5 periods, since the centres count nothing for it.
use Rattle.std.proofs.Common.{◌≡◌, ℕ, suc, ◌+◌, ◌%◌, ◌^◌, ◌<◌, List, [], ◌∷◌, map, length, ap, sym, ◌∙◌, subst, arith}
use Rattle.std.specs.Fmt.{digits}
use Rattle.std.specs.Prelude.{◌≢◌, Option, Some, codes}
use Rattle.rob_algebra.specs.Fraction.{Fraction, ratio}
use Rattle.rob_meaning.proofs.ByHand.WorkedTests.{found, both, so, test_admits, test_below, test_at_most, test_differ, test_each, test_numbers, test_model}
use Rattle.rob_meaning.specs.Named.{AreDistinct, HasDistinctMembers, IsFree, IsNamed, IsPlain, declared_names}
use Rattle.rob_meaning.specs.Names.{Name}
use Rattle.rob_meaning.specs.RobustModel.{RobustModel, SetLine, line, budget, Member, AdaptiveVariable, column_count}
use Rattle.rob_meaning.specs.SetRows.{lift_count}
use Rattle.rob_meaning.specs.Places.{tabulate}
use Rattle.rob_meaning.specs.UncertaintySet.{Admits, HasScenario}
use Rattle.rob_meaning.specs.WellFormed.{IsModel}
use Rattle.rob_meaning.proofs.ByHand.WorkedDecisions.{either}
use Rattle.rob_model.specs.Limits.{IsWithinLimits, model_size}
use Rattle.rob_gen.specs.Generated.{generated, model_over, periods, centre, whole}
use Rattle.rob_gen.proofs.NumberLemmas.{periods_again, centre_again}

-- the model of a number is that of its remainder by 12
pub generated_again : (n : ℕ) → generated n ≡ generated (n % 12)
generated_again n =
    ap (λ count. model_over count (centre n)) (periods_again n)
    ∙ ap (λ (centres : ℕ → ℕ). model_over (periods (n % 12)) centres) (λ i period. centre_again n period i)

-- what holds of twelve models holds of all
pub by_twelve : (P : RobustModel → Type 0) → ((r : ℕ) → r < 12 → P (generated r)) → (n : ℕ) → P (generated n)
by_twelve P h n = subst P (sym (generated_again n)) (h (n % 12) (let l : n % 12 < 12 = omega arith in l))

-- what holds of a model over 2 to 5 periods, whatever the centres are, holds of the model of each number
by_periods : (P : RobustModel → Type 0) → ((centres : ℕ → ℕ) (r : ℕ) → r < 4 → P (model_over (r + 2) centres))
    → (n : ℕ) → P (generated n)
by_periods P h n = h (centre n) (n % 4) (let l : n % 4 < 4 = omega arith in l)

-- ---- well formed
twelve_formed : (r : ℕ) → r < 12 → IsModel (generated r)
unfolding ratio digits
twelve_formed = found (test_numbers 12 (λ r. IsModel (generated r)) (λ r. test_model (generated r))) tt

pub well_formed : (n : ℕ) → IsModel (generated n)
well_formed = by_twelve IsModel twelve_formed

-- ---- within the limits
abbrev test_limits : (m : RobustModel) → Option (IsWithinLimits m)
test_limits m =
    so (λ h. record {
      parameters = h.0.0;
      sets = h.0.1.0;
      columns = h.0.1.1;
      rows = h.1.0.0;
      set_lines = h.1.0.1;
      members = h.1.1.0;
      size = h.1.1.1;
    })
    (both
    (both (test_at_most (length m.parameters) 96) (both (test_at_most (length m.sets) 8)
    (test_at_most (column_count m) 600)))
    (both (both (test_at_most (length m.rows) 300) (test_at_most (length m.set_lines) 64))
    (both (test_at_most (lift_count m.set_lines) 64) (test_at_most (model_size m) 12000))))

four_limited : (centres : ℕ → ℕ) (r : ℕ) → r < 4 → IsWithinLimits (model_over (r + 2) centres)
unfolding ratio digits
four_limited centres =
    found (test_numbers 4 (λ r. IsWithinLimits (model_over (r + 2) centres))
    (λ r. test_limits (model_over (r + 2) centres))) tt

pub within_limits : (n : ℕ) → IsWithinLimits (generated n)
within_limits = by_periods IsWithinLimits four_limited

-- ---- well named
pub apart : (a b : ℕ) → a < b → a ≢ b
apart a b h e = let l : a < b = h in absurd (omega arith)

-- two numbers differ
abbrev pub test_apart : (a b : ℕ) → Option (a ≢ b)
test_apart a b = either (so (apart a b) (test_below a b)) (so (λ h e. apart b a h (sym e)) (test_below b a))

module _ {A : Type 0} (test : (x y : A) → Option (x ≢ y)) where
  abbrev pub test_distinct : (xs : List A) → Option (AreDistinct xs)
  test_distinct [] = Some tt
  test_distinct (x ∷ xs) = both (test_each (λ y. x ≢ y) (test x) xs) (test_distinct xs)

abbrev test_plain : (name : Name) → Option (IsPlain name)
test_plain name = test_each (λ byte. byte ≢ 46) (λ byte. test_apart byte 46) name

abbrev test_free : (name : Name) → Option (IsFree name)
test_free name =
    so (λ h. (h.0, h.1.0, h.1.1.0, h.1.1.1))
    (both (test_differ name (codes "objective"))
    (both (test_differ name (codes "tau")) (both (test_differ name (codes "set")) (test_differ name (codes "budget")))))

abbrev pub test_members : (c : SetLine) → Option (HasDistinctMembers c)
test_members (line left relation right) = Some tt
test_members (budget limit members) = test_distinct test_apart (map (λ (h : Member). h.parameter) members)

abbrev test_named : (m : RobustModel) → Option (IsNamed m)
test_named m =
    so (λ h. record {
      plain = h.0.0;
      free = h.0.1.0;
      distinct = h.0.1.1;
      lists = h.1.0;
      members = h.1.1.0;
      few = h.1.1.1;
    })
    (both
    (both (test_each IsPlain test_plain (declared_names m))
    (both (test_each IsFree test_free (declared_names m)) (test_distinct test_differ (declared_names m))))
    (both (test_each (λ (y : AdaptiveVariable). AreDistinct y.on) (λ y. test_distinct test_apart y.on) m.adaptives)
    (both (test_each HasDistinctMembers test_members m.set_lines) (test_below (length m.set_lines) (2 ^ 32)))))

four_named : (centres : ℕ → ℕ) (r : ℕ) → r < 4 → IsNamed (model_over (r + 2) centres)
unfolding ratio digits
four_named centres =
    found (test_numbers 4 (λ r. IsNamed (model_over (r + 2) centres)) (λ r. test_named (model_over (r + 2) centres))) tt

pub well_named : (n : ℕ) → IsNamed (generated n)
well_named = by_periods IsNamed four_named

-- ---- a scenario: each demand is at its centre
abbrev central : ℕ → List Fraction
central n = tabulate (periods n) (λ place. whole (centre n (suc place)))

twelve_admitted : (r : ℕ) → r < 12 → HasScenario (generated r)
unfolding ratio digits
twelve_admitted =
    found
    (test_numbers 12 (λ r. HasScenario (generated r))
    (λ r. so (λ (h : Admits (generated r) (central r)). (central r, h))
    (test_admits (generated r) (well_formed r) (central r))))
    tt

pub admitted : (n : ℕ) → HasScenario (generated n)
admitted = by_twelve HasScenario twelve_admitted
