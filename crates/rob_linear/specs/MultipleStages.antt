-- The objective's row of a new cost, made column by column up to positive factors.
use Rattle.std.specs.Prelude.{◌≡◌, ℕ, suc, ◌+◌, ◌<◌, ℤ, pos, ◌-ℤ◌, ◌*ℤ◌, ◌<ℤ◌}
use Rattle.rob_linear.specs.Vectors.{Columns, Vector}
use Rattle.rob_linear.specs.Systems.{right}
use Rattle.rob_linear.specs.Programs.{Program, system_of}
use Rattle.rob_linear.specs.Stages.{truncated, unit_row}
use Rattle.rob_linear.specs.Multiples.{IsMultipleRow}

-- a positive multiple of stage j
abbrev pub IsMultipleStage : Program → Columns → ℕ → Vector → Type 0
IsMultipleStage P own j r = IsMultipleRow (system_of (truncated P j)) own P.m r

-- a positive multiple of what stands between stage j and stage j + 1
pub record IsMultipleHalf (P : Program) (own : Columns) (j : ℕ) (r : Vector) : Type 0 where
  pub stage : Vector
  pub is_stage : IsMultipleStage P own j stage
  pub divisor : ℤ
  pub p : ℤ
  pub divides : pos 0 <ℤ divisor
  pub positive : pos 0 <ℤ p
  pub entries :
      (k : ℕ) → k < suc (right (system_of P))
      → divisor *ℤ r k ≡ p *ℤ (stage k -ℤ ((P.c j *ℤ stage (P.n + P.m)) *ℤ unit_row j k))
