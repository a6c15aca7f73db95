-- Certificates that are read off the numbers of an ending, as functions of whole numbers alone: points, moves, dual
-- values and Farkas weights. The columns of a pair, and a pair of equating rows, count as the difference of their
-- numbers. The parts that a status has no use for are empty, 0, or 1 for the scale.
use Rattle.std.specs.Prelude.{ℕ, Bool, true, ◌&&◌, if◌then◌else◌, List, [], ◌∷◌, ◌++◌}
use Rattle.rob_algebra.specs.Fraction.{Fraction, ◌-ℚ◌}
use Rattle.rob_algebra.specs.FractionOrder.{eq_ℚ}
use Rattle.rob_meaning.specs.Certificates.{optimal, infeasible, unbounded, Cover, Item, Certificate}
use Rattle.rob_meaning.specs.Places.{0ℚ, 1ℚ, tabulate}
use Rattle.rob_counterpart.specs.RobustProgram.{RobustProgram}
use Rattle.rob_counterpart.specs.Splitting.{difference}
use Rattle.rob_counterpart.specs.Reform.{multiplier, positive_row, negative_row, constant_row}

-- ---- lists without the parts that are 0

-- each number of the list is 0
abbrev pub all_zero : List Fraction → Bool
all_zero [] = true
all_zero (x ∷ xs) = eq_ℚ x 0ℚ && all_zero xs

-- the items whose base or vector is not all 0
abbrev pub items_kept : List Item → List Item
items_kept [] = []
items_kept (item ∷ items) = if all_zero (item.base ∷ item.vector) then items_kept items else item ∷ items_kept items

-- the covers whose amount is not 0
abbrev pub covers_kept : List Cover → List Cover
covers_kept [] = []
covers_kept (cover ∷ covers) = if eq_ℚ cover.amount 0ℚ then covers_kept covers else cover ∷ covers_kept covers

-- lists one behind the other
abbrev pub concat : {A : Type 0} → List (List A) → List A
concat [] = []
concat (xs ∷ rest) = xs ++ concat rest

-- ---- parts

-- the first n pairs
abbrev pub differences : ℕ → (ℕ → Fraction) → List Fraction
differences n x = tabulate n (difference x)

-- the certificate of an infeasible model: items alone
abbrev pub infeasible_with : List Fraction → List Item → Certificate
infeasible_with inside items = record {
  status = infeasible;
  value = 0ℚ;
  scale = 1ℚ;
  inside = inside;
  plan = [];
  step = [];
  step_bound = 0ℚ;
  covers = [];
  holds = [];
  items = items;
}

module _ (d : RobustProgram) where
  -- the cover of form i and set row r
  abbrev pub cover_at : (ℕ → Fraction) → ℕ → ℕ → Cover
  cover_at x i r = record { form = i; set_row = r; amount = x (multiplier d i r) }

  -- the covers of form i
  abbrev pub covers_at : (ℕ → Fraction) → ℕ → List Cover
  covers_at x i = tabulate d.set_rows (cover_at x i)

  -- the covers of the first n forms, those that are 0 left out
  abbrev pub covers_to : ℕ → (ℕ → Fraction) → List Cover
  covers_to n x = covers_kept (concat (tabulate n (covers_at x)))

  -- form i's vector
  abbrev pub vector_at : (ℕ → Fraction) → ℕ → List Fraction
  vector_at y i = tabulate d.parameters (λ c. y (negative_row d i c) -ℚ y (positive_row d i c))

  -- form i's item
  abbrev pub item_at : (ℕ → Fraction) → ℕ → Item
  item_at y i = record { form = i; weight = 1ℚ; base = y (constant_row d i); vector = vector_at y i }

  -- the items of the first n forms, those that are 0 left out
  abbrev pub items_to : ℕ → (ℕ → Fraction) → List Item
  items_to n y = items_kept (tabulate n (item_at y))

  -- ---- the three certificates

  -- of an optimal ending with point x and dual values y
  abbrev pub optimal_from : List Fraction → (x y : ℕ → Fraction) → Certificate
  optimal_from inside x y = record {
    status = optimal;
    value = difference x d.decisions;
    scale = 1ℚ;
    inside = inside;
    plan = differences d.decisions x;
    step = [];
    step_bound = 0ℚ;
    covers = covers_to d.forms x;
    holds = [];
    items = items_to d.forms y;
  }

  -- of an infeasible one with Farkas weights w
  abbrev pub infeasible_from : List Fraction → (ℕ → Fraction) → Certificate
  infeasible_from inside w = infeasible_with inside (items_to d.forms w)

  -- of an unbounded one with point x and move r
  abbrev pub unbounded_from : List Fraction → (x r : ℕ → Fraction) → Certificate
  unbounded_from inside x r = record {
    status = unbounded;
    value = difference x d.decisions;
    scale = 1ℚ;
    inside = inside;
    plan = differences d.decisions x;
    step = differences d.decisions r;
    step_bound = difference r d.decisions;
    covers = covers_to d.forms x;
    holds = covers_to d.forms r;
    items = [];
  }
