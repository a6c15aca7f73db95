-- A counterpart worked by hand: minimise y, where y is at least d in every scenario, and d lies between 0 and 1.
-- Forms: y - tau, and d - y. Set rows: -d <= 0, and d <= 1. Columns: y in two,
-- tau in two, two multipliers for each form.
use Rattle.std.proofs.Common.{◌≡◌, ℕ, zero, suc, List, [], ◌∷◌, refl}
use lib.IntN.{ℤ, pos, negsuc}
use Rattle.rob_linear.specs.Programs.{Program}
use Rattle.rob_meaning.specs.Places.{tabulate}
use Rattle.rob_counterpart.specs.Counterpart.{cell}
use Rattle.rob_counterpart.specs.RobustProgram.{RobustProgram}
use Rattle.rob_counterpart.specs.Reform.{reform}
use Rattle.rob_counterpart.specs.SetPrograms.{set_of, search_of}

-- form i's matrix: a row for the constant and for d, a column for the constant, y and tau
abbrev matrix : ℕ → List (List ℤ)
matrix zero = (pos 0 ∷ pos 1 ∷ negsuc 0 ∷ []) ∷ (pos 0 ∷ pos 0 ∷ pos 0 ∷ []) ∷ []
matrix (suc i) = (pos 0 ∷ negsuc 0 ∷ pos 0 ∷ []) ∷ (pos 1 ∷ pos 0 ∷ pos 0 ∷ []) ∷ []

abbrev example : RobustProgram
example = record {
  forms = 2;
  parameters = 1;
  decisions = 1;
  set_rows = 2;
  set_columns = 1;
  form = λ i k j. cell (matrix i) k j;
  left = λ r c. cell ((negsuc 0 ∷ []) ∷ (pos 1 ∷ []) ∷ []) r c;
  right = λ r. cell ((pos 0 ∷ []) ∷ (pos 1 ∷ []) ∷ []) r 0;
  sense = negsuc 0;
}

-- its rows, its right sides and its cost
abbrev rows_of : Program → List (List ℤ)
rows_of P = tabulate P.m (λ t. tabulate P.n (P.a t))

abbrev rights_of : Program → List ℤ
rights_of P = tabulate P.m P.b

abbrev costs_of : Program → List ℤ
costs_of P = tabulate P.n P.c

counterpart_rows : rows_of (reform example) ≡
    (pos 0 ∷ pos 0 ∷ pos 0 ∷ pos 0 ∷ negsuc 0 ∷ pos 1 ∷ pos 0 ∷ pos 0 ∷ [])
    ∷ (pos 0 ∷ pos 0 ∷ pos 0 ∷ pos 0 ∷ pos 1 ∷ negsuc 0 ∷ pos 0 ∷ pos 0 ∷ [])
    ∷ (pos 1 ∷ negsuc 0 ∷ negsuc 0 ∷ pos 1 ∷ pos 0 ∷ pos 1 ∷ pos 0 ∷ pos 0 ∷ [])
    ∷ (pos 0 ∷ pos 0 ∷ pos 0 ∷ pos 0 ∷ pos 0 ∷ pos 0 ∷ negsuc 0 ∷ pos 1 ∷ [])
    ∷ (pos 0 ∷ pos 0 ∷ pos 0 ∷ pos 0 ∷ pos 0 ∷ pos 0 ∷ pos 1 ∷ negsuc 0 ∷ [])
    ∷ (negsuc 0 ∷ pos 1 ∷ pos 0 ∷ pos 0 ∷ pos 0 ∷ pos 0 ∷ pos 0 ∷ pos 1 ∷ [])
    ∷ []
counterpart_rows = refl

-- y is at least the multiplier of d <= 1, which is 1
counterpart_rights : rights_of (reform example) ≡ pos 0 ∷ pos 0 ∷ pos 0 ∷ pos 1 ∷ negsuc 0 ∷ pos 0 ∷ []
counterpart_rights = refl

counterpart_costs : costs_of (reform example) ≡ pos 0 ∷ pos 0 ∷ negsuc 0 ∷ pos 1 ∷ pos 0 ∷ pos 0 ∷ pos 0 ∷ pos 0 ∷ []
counterpart_costs = refl

set_rows : rows_of (set_of example) ≡ (negsuc 0 ∷ pos 1 ∷ []) ∷ (pos 1 ∷ negsuc 0 ∷ []) ∷ []
set_rows = refl

-- the worst case of d - y: its cost is 1 in d, whatever the plan
search_costs : (z : ℕ → ℤ) → z 0 ≡ pos 1 → z 1 ≡ pos 7 → z 2 ≡ pos 7
    → costs_of (search_of example 1 z) ≡ pos 1 ∷ negsuc 0 ∷ []
search_costs z a b c = rw (a, b, c) refl
