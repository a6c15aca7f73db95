-- The objective's row made column by column, as a new cost is put on a basis that stands.
-- Each stage is a row of the objective's position, for a cost that is 0 from
-- some column on. Dantzig (parametric costs).
use Rattle.std.specs.Prelude.{ℕ, suc, ◌+◌, nat_lt, nat_eq, cond, ℤ, pos, ◌*ℤ◌}
use Rattle.rob_linear.specs.Vectors.{Columns, Vector}
use Rattle.rob_linear.specs.Systems.{right, RowOf, IsCombined}
use Rattle.rob_linear.specs.Programs.{Program, with_cost, system_of}

-- the cost, but 0 from column j on
abbrev pub cost_before : Program → ℕ → Vector
cost_before P j k = cond (nat_lt k j) (P.c k) (pos 0)

-- the program with that cost
abbrev pub truncated : Program → ℕ → Program
truncated P j = with_cost P (cost_before P j)

-- stage j: the objective's row for that cost
abbrev pub IsStage : Program → Columns → ℕ → Vector → Type 0
IsStage P own j r = RowOf (system_of (truncated P j)) own P.m r

-- 1 at column j, and 0 elsewhere
abbrev pub unit_row : ℕ → ℕ → ℤ
unit_row j k = cond (nat_eq k j) (pos 1) (pos 0)

-- between stage j and stage j + 1: c j times the objective entry is subtracted
-- in column j, which isn't cleared yet where it is basic
pub record IsHalfStage (P : Program) (own : Columns) (j : ℕ) (r : Vector) : Type 0 where
  pub stage : Vector
  pub is_stage : IsStage P own j stage
  pub put_in : IsCombined (suc (right (system_of P))) (pos 1) stage (P.c j *ℤ stage (P.n + P.m)) (unit_row j) r
