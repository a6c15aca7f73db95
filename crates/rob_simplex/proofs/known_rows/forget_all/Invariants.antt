-- The marks before k are off.
use Rattle.std.specs.Prelude.{◌≡◌, ℕ, ◌<◌, false}
use Rattle.std.proofs.Common.{get_or}
use Rattle.rob_simplex.proofs.known_rows.forget_all.Given as goal

abbrev pub invariant-loop-k : goal.invariant-loop-k
invariant-loop-k l = (j : ℕ) → j < l.k → get_or l.known j false ≡ false
