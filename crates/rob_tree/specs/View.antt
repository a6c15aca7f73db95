-- What the program's trees stand for: trees over fractions of any size. `value` tells the fraction of a number.
use Rattle.rob_algebra.specs.Fraction.{Fraction}
use Rattle.rob_cert.specs.View.{certificate_of, status_of}
use Rattle.rob_reach.specs.Boxes as boxes
use Rattle.rob_reach.specs.Trees as trees
use Rattle.rob_tree.specs.declared.tree.Branch.{Branch}
use Rattle.rob_tree.specs.declared.tree.Node.{Node, Leaf, Split', Open}
use Rattle.rob_tree.specs.declared.tree.Tree.{Tree}

-- the branch that a `Branch` is
abbrev pub branch_of : Branch → boxes.Branch
branch_of b = record { variable = b.column; is_upper = b.at_most; bound = b.k }

module _ {N : Type 0} (value : N → Fraction) where
  -- the node that a `Node` is
  abbrev pub node_of : Node N → trees.Node
  node_of (Leaf cert) = trees.leaf (certificate_of value cert)
  node_of (Split' column k p below q above) = trees.split column k (node_of below) (node_of above)
  node_of Open = trees.left_open

  -- the tree that a `Tree` is
  abbrev pub tree_of : Tree N → trees.Tree
  tree_of t = record {
    status = status_of t.status;
    value = value t.value;
    best = t.best;
    root = node_of t.root;
  }
