-- The same endings in whole numbers: a point x / s, and a move r / t.
use Rattle.rob_linear.specs.Vectors.{Vector, Matrix, Columns}
use Rattle.std.specs.Prelude.{ℕ, zero, suc, ℤ, ◌-ℤ◌}
use Rattle.rob_linear.specs.Systems.{IsBasis, Point, Move, EndsOptimal, EndsUnbounded}
use Rattle.rob_linear.specs.Programs.{Program, system_of}
use Rattle.rob_counterpart.specs.Splitting.{plus, minus}

-- the number that pair j stands for
abbrev pub pair : Vector → ℕ → ℤ
pair x j = x (plus j) -ℤ x (minus j)

-- the plan with tau, with scale s; a direction has scale 0
abbrev pub plan_of : ℤ → Vector → ℕ → ℤ
plan_of s x zero = s
plan_of s x (suc j) = pair x j

-- an optimal basis, whose basic solution is x / s
pub record OptimalPoint (P : Program) (own : Columns) (rows : Matrix) (s : ℤ) (x : Vector) : Type 0 where
  pub basis : IsBasis (system_of P) own rows
  pub ends : EndsOptimal (system_of P) rows
  pub point : Point (system_of P) own rows s x

-- a basis that is unbounded in the column, whose basic solution is x / s and whose move is r / t
pub record UnboundedMove (P : Program) (own : Columns) (rows : Matrix) (column : ℕ)
    (s : ℤ) (x : Vector) (t : ℤ) (r : Vector) : Type 0 where
  pub basis : IsBasis (system_of P) own rows
  pub ends : EndsUnbounded (system_of P) own rows column
  pub point : Point (system_of P) own rows s x
  pub move : Move (system_of P) own rows column t r
