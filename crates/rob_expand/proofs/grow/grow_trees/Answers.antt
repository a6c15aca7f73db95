use Rattle.rob_algebra.proofs.ListLemmas.{drop_at, drop_all}
use Rattle.rob_syntax.specs.Known.{texts}
use Rattle.rob_expand.proofs.Expanding.NameLemmas.{factor_names_at}
use Rattle.rob_expand.proofs.Walks.WalkLemmas.{words_more, words_all, long_more, long_all}
use Rattle.rob_expand.proofs.grow.grow_trees.Goals as goal

pub loop-tree-preserved : goal.loop-tree-preserved
loop-tree-preserved c =
    let f = factor_names_at (texts c.args.own.now.keys) c.args.values.now in
    let step = drop_at c.args.trees.now c.loop-tree.tree-index c.tree-item.result c.loop-tree-test.true c.tree-item.is
    in
    record {
      words = words_more f (texts c.loop-tree.words.keys) _ _ _ c.tree-item.result step c.in_ok-here.ensures.words
          c.loop-tree.invariant.words;
      long =
          long_more f c.loop-tree.long c.in_ok-here.here _ _ _ c.tree-item.result step c.in_ok-here.ensures.long
          c.either-long.ensures.either c.loop-tree.invariant.long;
    }

pub returns : goal.returns
returns c =
    let f = factor_names_at (texts c.args.own.now.keys) c.args.values.now in
    let none = drop_all c.loop-tree.tree-index c.args.trees.now c.loop-tree-test.false in
    record {
      words = words_all f _ _ none c.loop-tree.invariant.words;
      long = long_all f c.loop-tree.long _ none c.loop-tree.invariant.long;
    }
