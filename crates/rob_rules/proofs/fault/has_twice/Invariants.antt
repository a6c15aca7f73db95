use Rattle.std.proofs.Common.{◌≡◌, drop}
use Rattle.rob_rules.specs.Faults.{has_twice}
use Rattle.rob_rules.proofs.Judging.TwiceLemmas.{comes_again}
use Rattle.rob_rules.proofs.fault.has_twice.Given as goal

abbrev pub invariant-loop-leaf : goal.invariant-loop-leaf
invariant-loop-leaf l = comes_again l.seen.keys (drop l.leaf-index l.leaves) ≡ has_twice l.leaves
