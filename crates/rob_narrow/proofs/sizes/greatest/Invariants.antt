-- No number of the rows before row i is over it, and no more than 1 and the program's numbers make it so.
use Rattle.std.proofs.Common.{ℕ, ◌<◌, ◌≤◌}
use Rattle.rob_rows.specs.LinearPrograms.{HasNumbersWithin}
use Rattle.rob_narrow.proofs.Numbers.{AreWithin}
use Rattle.rob_narrow.proofs.sizes.greatest.Given as goal

abbrev pub invariant-loop-i : goal.invariant-loop-i
invariant-loop-i g l = record {
  positive : 0 < l.greatest;
  within : AreWithin l.greatest l.i (g.R.Rows.lp l.source);
  least : (h : ℕ) → 0 < h → HasNumbersWithin h (g.R.Rows.lp l.source) → l.greatest ≤ h;
}
