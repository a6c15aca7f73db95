use Rattle.rob_model.specs.View.{robust}
use Rattle.rob_tree.specs.View.{tree_of}
use Rattle.rob_commands.proofs.ShownLemmas.{nodes_few, report_told}
use Rattle.rob_commands.proofs.trees.report.Goals as goal

pub count_nodes-requires : goal.count_nodes-requires
count_nodes-requires g c = record {
  few = nodes_few (tree_of g.N.Exact.value c.args.tree.now).root c.requires.shape.tree.few;
}

pub returns : goal.returns
returns g c = record {
  report = report_told (robust g.N.Exact.value c.args.model.now) c.args.numbers.now
      (tree_of g.N.Exact.value c.args.tree.now) _ _ c.count_nodes.result
      c.in_ok-text.ensures.plan c.count_nodes.ensures.count c.in_ok-put_nodes.ensures.appended;
}
