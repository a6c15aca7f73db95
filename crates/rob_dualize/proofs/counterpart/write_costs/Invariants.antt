-- The costs of the columns before k are written.
use Rattle.std.specs.Prelude.{◌≡◌, ℕ, ◌<◌}
use Rattle.rob_linear.specs.Vectors.{at}
use Rattle.rob_dualize.specs.Wholes.{cost_of}
use Rattle.rob_dualize.proofs.counterpart.write_costs.Given as goal

abbrev pub invariant-loop-k : goal.invariant-loop-k
invariant-loop-k l = (j : ℕ) → j < l.k → at l.numbers j ≡ cost_of l.forms j
