use Rattle.rob_reach.specs.Trees.{node_count}
use Rattle.rob_tree.specs.View.{node_of}
use Rattle.rob_tree.proofs.walk.+leaf_of.Given as goal

-- the number of nodes falls from a node to those behind its branch
abbrev pub decreases-leaf_of : goal.decreases-leaf_of
decreases-leaf_of g l = node_count (node_of g.N.Exact.value l.node.now)
