-- In a basis of the counterpart the columns of a pair are never basic together,
-- and of two equating rows one slack is basic.
use Rattle.rob_linear.specs.Vectors.{Columns}
use Rattle.std.specs.Prelude.{◌≡◌, ◌≢◌, ℕ, ◌+◌, ◌<◌, ◌≤◌, ◌⊎◌}
use Rattle.rob_linear.specs.Programs.{Program}
use Rattle.rob_counterpart.specs.RobustProgram.{RobustProgram}
use Rattle.rob_counterpart.specs.Splitting.{plus, minus}
use Rattle.rob_counterpart.specs.Reform.{positive_row, negative_row}

-- column k is basic at one of the m positions
abbrev pub IsBasic : ℕ → Columns → ℕ → Type 0
IsBasic m own k = (i : ℕ) × (i < m) × (k ≡ own i)

-- it is basic at none
abbrev pub IsNonbasic : ℕ → Columns → ℕ → Type 0
IsNonbasic m own k = (i : ℕ) → i < m → k ≢ own i

-- one column of pair j is not basic
abbrev pub KeepsPair : ℕ → Columns → ℕ → Type 0
KeepsPair m own j = IsNonbasic m own (plus j) ⊎ IsNonbasic m own (minus j)

-- so it is with each pair of the plan; and of each pair of equating rows one slack is basic
pub record KeepsPairs (d : RobustProgram) (P : Program) (own : Columns) : Type 0 where
  pub columns : (j : ℕ) → j ≤ d.decisions → KeepsPair P.m own j
  pub rows : (i c : ℕ) → i < d.forms → c < d.set_columns
      → IsBasic P.m own (P.n + positive_row d i c) ⊎ IsBasic P.m own (P.n + negative_row d i c)
