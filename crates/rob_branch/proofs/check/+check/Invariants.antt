use Rattle.std.proofs.Common.{◌+◌, ◌*◌}
use Rattle.rob_reach.specs.Trees.{node_count}
use Rattle.rob_tree.specs.View.{node_of}
use Rattle.rob_branch.proofs.check.+check.Given as goal

-- the number of nodes falls from a node to those behind its branch
abbrev pub decreases-check_node : goal.decreases-check_node
decreases-check_node g l = 2 * node_count (node_of g.N.Exact.value l.node.now)

abbrev pub decreases-check_side : goal.decreases-check_side
decreases-check_side g l = 2 * node_count (node_of g.N.Exact.value l.node.now) + 1
