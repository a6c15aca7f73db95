use Rattle.rob_reach.proofs.GrowingLemmas.{length-leaves, leaves-branches, nodes-branches}
use Rattle.rob_reach.proofs.TreeLemmas.{tree_true}
use Rattle.rob_reach.proofs.VerdictLemmas.{conditions_law, fault_refuses, one_fault}
use Rattle.rob_reach.proofs.trees.tree_laws.Goals as goal

pub returns : goal.returns
returns c = record {
  true_of = λ m names t model bounded on h. tree_true m model names bounded t on h;
  conditions = λ m names t h. conditions_law m names t h.closed h.best;
  one_fault = one_fault;
  refused = fault_refuses;
  leaves = length-leaves;
  branches = leaves-branches;
  nodes = nodes-branches;
}
