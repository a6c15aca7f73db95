-- Programs over the lifted uncertainty set: whether it is empty, and the worst case of a form at a plan (the
-- separation, or pessimisation, problem). Set columns in pairs, the set rows.
use Rattle.rob_linear.specs.Vectors.{Vector}
use Rattle.std.specs.Prelude.{◌≡◌, ℕ, ◌+◌, ◌/◌, ◌<◌, pos, neg_ℤ}
use Rattle.rob_linear.specs.Programs.{Program}
use Rattle.rob_counterpart.specs.RobustProgram.{RobustProgram, number_at}
use Rattle.rob_counterpart.specs.Splitting.{plus, minus, signed_entry}

-- P's rows are the set rows
pub record IsOverSet (d : RobustProgram) (P : Program) : Type 0 where
  pub height : P.m ≡ d.set_rows
  pub width : P.n ≡ d.set_columns + d.set_columns
  pub at_plus : (r c : ℕ) → r < d.set_rows → c < d.set_columns → P.a r (plus c) ≡ d.left r c
  pub at_minus : (r c : ℕ) → r < d.set_rows → c < d.set_columns → P.a r (minus c) ≡ neg_ℤ (d.left r c)
  pub at_right : (r : ℕ) → r < d.set_rows → P.b r ≡ d.right r

-- its cost is f at each set column
pub record HasCost (d : RobustProgram) (f : Vector) (P : Program) : Type 0 where
  pub cost_plus : (c : ℕ) → c < d.set_columns → P.c (plus c) ≡ f c
  pub cost_minus : (c : ℕ) → c < d.set_columns → P.c (minus c) ≡ neg_ℤ (f c)

-- P maximises form i at the plan z over the set
pub record IsSearch (d : RobustProgram) (i : ℕ) (z : Vector) (P : Program) : Type 0 where
  pub over_set : IsOverSet d P
  pub open over_set use *
  pub cost : HasCost d (λ c. number_at d i c z) P
  pub open cost use *

-- the program over the set with cost f
abbrev pub over_set : RobustProgram → Vector → Program
over_set d f = record {
  m = d.set_rows;
  n = d.set_columns + d.set_columns;
  a = λ r k. signed_entry k (d.left r (k / 2));
  b = d.right;
  c = λ k. signed_entry k (f (k / 2));
}

-- the set's rows, with no cost
abbrev pub set_of : RobustProgram → Program
set_of d = over_set d (λ c. pos 0)

-- the greatest of form i at the plan z
abbrev pub search_of : RobustProgram → ℕ → Vector → Program
search_of d i z = over_set d (λ c. number_at d i c z)
