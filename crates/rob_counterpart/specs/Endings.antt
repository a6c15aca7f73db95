-- How the simplex ends on a program, with what it tells there: points, moves and dual values as fractions.
use Rattle.rob_linear.specs.Vectors.{Matrix, Columns}
use Rattle.std.specs.Prelude.{ℕ, ◌+◌, ℤ}
use Rattle.rob_algebra.specs.Fraction.{Fraction}
use Rattle.rob_linear.specs.Systems.{IsBasis, EndsOptimal, EndsUnbounded}
use Rattle.rob_linear.specs.Programs.{Program, system_of, auxiliary_of, EndsInfeasible}
use Rattle.rob_linear.specs.Optimality.{IsScaled, IsBasicPoint, IsBasicMove}

-- row m's entries in the slack columns: dual values, times its objective entry; or Farkas weights
abbrev pub slack_entries : Program → Matrix → ℕ → ℤ
slack_entries P rows t = rows P.m (P.n + t)

-- row m's entry in the objective's column
abbrev pub objective_entry : Program → Matrix → ℤ
objective_entry P rows = rows P.m (P.n + P.m)

-- an optimal basis, with its basic solution x and its dual values y
pub record OptimalEnding (P : Program) (own : Columns) (rows : Matrix) (x y : ℕ → Fraction) : Type 0 where
  pub basis : IsBasis (system_of P) own rows
  pub ends : EndsOptimal (system_of P) rows
  pub point : IsBasicPoint (system_of P) own rows x
  pub duals : IsScaled P.m y (objective_entry P rows) (slack_entries P rows)

-- a basis of the auxiliary form that shows the program to be infeasible
pub record InfeasibleEnding (P : Program) (own : Columns) (rows : Matrix) : Type 0 where
  pub basis : IsBasis (auxiliary_of P) own rows
  pub ends : EndsInfeasible P rows

-- a basis that is unbounded in the column, with its basic solution x and its move r
pub record UnboundedEnding (P : Program) (own : Columns) (rows : Matrix) (column : ℕ)
    (x r : ℕ → Fraction) : Type 0 where
  pub basis : IsBasis (system_of P) own rows
  pub ends : EndsUnbounded (system_of P) own rows column
  pub point : IsBasicPoint (system_of P) own rows x
  pub move : IsBasicMove (system_of P) own rows column r
