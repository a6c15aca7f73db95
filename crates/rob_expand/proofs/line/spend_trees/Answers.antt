use Rattle.std.proofs.Common.{sym, ◌∙◌}
use Rattle.std.proofs.lemmas.Result.{err_from_is_err_and}
use Rattle.rob_expand.specs.Placed.{placed_of}
use Rattle.rob_expand.specs.Count.{tree_left}
use Rattle.rob_settings.proofs.AnswerLemmas.{refused}
use Rattle.rob_expand.proofs.Walks.LineLemmas.{trees_from, trees_more, trees_stop, trees_end}
use Rattle.rob_expand.proofs.line.spend_trees.Goals as goal

pub loop-tree-preserved : goal.loop-tree-preserved
loop-tree-preserved c =
    trees_more c.args.limit c.args.values.now c.args.trees.now c.loop-tree.tree-index c.loop-tree.left
    c.tree-item.result
    c.in_ok-counted.counted c.loop-tree-test.true c.tree-item.is c.in_ok-counted.ensures.counted c.loop-tree.invariant

pub returns-in_err-counted : goal.returns-in_err-counted
returns-in_err-counted c = record {
  left =
      let p = err_from_is_err_and c.from_residual.result c.from_residual.ensures.1 in
      refused c.from_residual.result _
      (tree_left c.args.limit (placed_of c.tree-item.result) c.args.values.now c.loop-tree.left)
      (trees_from c.args.limit c.args.values.now c.args.trees.now c.args.room)
      c.in_err-counted.field-0.0 p.0 p.1 p.2
      (λ none. trees_stop c.args.limit c.args.values.now c.args.trees.now c.loop-tree.tree-index c.loop-tree.left
      c.tree-item.result c.loop-tree-test.true c.tree-item.is c.loop-tree.invariant none)
      c.in_err-counted.ensures.counted;
}

pub returns : goal.returns
returns c = record {
  left =
      sym c.loop-tree.invariant
      ∙ trees_end c.args.limit c.args.values.now c.args.trees.now c.loop-tree.tree-index c.loop-tree.left
      c.loop-tree-test.false;
}
