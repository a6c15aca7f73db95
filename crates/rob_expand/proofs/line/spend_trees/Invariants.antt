use Rattle.std.proofs.Common.{◌≡◌, drop, map}
use Rattle.rob_expand.specs.Lines.{trees_left}
use Rattle.rob_expand.specs.Placed.{placed_of}
use Rattle.rob_expand.proofs.line.spend_trees.Given as goal

abbrev pub invariant-loop-tree : goal.invariant-loop-tree
invariant-loop-tree l =
    trees_left l.limit (map placed_of (drop l.tree-index l.trees)) l.values l.left
    ≡ trees_left l.limit (map placed_of l.trees) l.values l.room
