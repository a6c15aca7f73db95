use Rattle.rob_model.specs.View.{robust}
use Rattle.rob_tree.specs.View.{tree_of}
use Rattle.rob_top.proofs.Meaning.BranchingLemmas.{report_printed, tree_printed}
use Rattle.rob_top.proofs.branching.printed.Goals as goal

pub write_tree-requires-clause-shape : goal.write_tree-requires-clause-shape
write_tree-requires-clause-shape g c = record {
  names = c.args.numbers.now;
  bounded = c.requires.bounded;
  shape = c.requires.shape;
}

pub returns-in-Whole : goal.returns-in-Whole
returns-in-Whole g c = record {
  printed = report_printed (robust g.N.Exact.value c.args.model.now) c.args.numbers.now
      (tree_of g.N.Exact.value c.args.tree.now) c.args.verb c.report.result
      c.in-Whole.is c.report.ensures.report;
}

pub returns-in-Tree : goal.returns-in-Tree
returns-in-Tree g c = record {
  printed = tree_printed (robust g.N.Exact.value c.args.model.now) c.args.numbers.now
      (tree_of g.N.Exact.value c.args.tree.now) c.args.verb c.write_tree.result
      c.in-Tree.is c.write_tree.ensures.text;
}
