use Rattle.std.specs.Prelude.{◌≡◌, ◌≤◌, nat_abs}
use Rattle.rob_meaning.specs.Places.{Each, tabulate}
use Rattle.rob_simplex.specs.Solutions.{weights_of}
use Rattle.rob_dualize.proofs.numbers.weights.Given as goal

-- the weights so far
abbrev pub invariant-loop-i : goal.invariant-loop-i
invariant-loop-i g l = record {
  told : l.numbers ≡ tabulate l.i (weights_of l.solver);
  within : Each (λ weight. nat_abs weight ≤ g.N.Exact.limit) l.numbers;
}
