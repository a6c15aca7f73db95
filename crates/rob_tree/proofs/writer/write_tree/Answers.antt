use Rattle.rob_model.specs.View.{robust}
use Rattle.rob_tree.proofs.BoxShapes.SpelledLemmas.{tree_spelled}
use Rattle.rob_tree.specs.View.{tree_of}
use Rattle.rob_tree.proofs.writer.write_tree.Goals as goal

pub put_node-requires-clause-spelled : goal.put_node-requires-clause-spelled
put_node-requires-clause-spelled g c =
    let value = g.N.Exact.value in
    tree_spelled g.N.Exact.limit (robust value c.args.model.now) (tree_of value c.args.tree.now) c.requires.shape
