-- Where none is on so far, the marks before k are off.
use Rattle.std.specs.Prelude.{◌≡◌, ℕ, ◌<◌, true, false, IsFalse}
use Rattle.std.proofs.Common.{get_or}
use Rattle.rob_simplex.proofs.known_rows.is_any_known.Given as goal

abbrev pub invariant-loop-k : goal.invariant-loop-k
invariant-loop-k l = IsFalse l.some → (j : ℕ) → j < l.k → get_or l.fn.known j true ≡ false
