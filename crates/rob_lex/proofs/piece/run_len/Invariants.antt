use Rattle.std.proofs.Common.{◌≡◌, ℕ, ◌<◌, true, get_or}
use Rattle.rob_lex.specs.Found.{passes}
use Rattle.rob_lex.proofs.piece.run_len.Given as goal

abbrev pub invariant-loop-i : goal.invariant-loop-i
invariant-loop-i l = (k : ℕ) → k < l.i → passes l.class (get_or l.bytes k 0) ≡ true
