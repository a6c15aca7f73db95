use Rattle.std.proofs.Common.{◌≡◌, ℕ, ◌<◌, ◌≤◌}
use Rattle.rob_cert.specs.Spelling.{name_at}
use Rattle.rob_cert.proofs.find.find_from.Given as goal

abbrev pub invariant-loop-k : goal.invariant-loop-k
invariant-loop-k l = (j : ℕ) → l.least ≤ j → j < l.k → name_at l.names j ≡ l.name → ⊥
