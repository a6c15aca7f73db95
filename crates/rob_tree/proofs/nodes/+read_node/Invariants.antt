use Rattle.std.proofs.Common.{length}
use Rattle.rob_tree.proofs.nodes.+read_node.Given as goal

-- what is left of the text is shorter for each node
abbrev pub decreases-read_node : goal.decreases-read_node
decreases-read_node g l = length l.at.rest.now
