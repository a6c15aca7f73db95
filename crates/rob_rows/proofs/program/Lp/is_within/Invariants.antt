-- The rows before the index are within the limit.
use Rattle.std.proofs.Common.{ℕ, ℤ, ◌<◌, List, get_or}
use Rattle.rob_rows.specs.PrimitiveParts.{IsWithin}
use Rattle.rob_rows.proofs.program.Lp.is_within.Given as goal

abbrev pub invariant-loop-row : goal.invariant-loop-row
invariant-loop-row l = (k : ℕ) (d : List ℤ) → k < l.row-index → IsWithin l.limit (get_or l.row-items k d)
