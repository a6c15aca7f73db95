-- The size of a program's numbers.
use Rattle.std.specs.Prelude.{ℕ, ◌<◌, ◌≤◌}
use Rattle.rob_rows.specs.declared.program.Lp.{Lp}
use Rattle.rob_rows.specs.LinearPrograms.{HasNumbersWithin}

-- a is the greatest size of a number of the program, or 1 where that is less: the least number, at least 1, that none
-- exceeds
pub record IsGreatest (a : ℕ) (lp : Lp) : Type 0 where
  pub positive : 0 < a
  pub within : HasNumbersWithin a lp
  pub least : (h : ℕ) → 0 < h → HasNumbersWithin h lp → a ≤ h
