use Rattle.rob_model.specs.View.{robust}
use Rattle.rob_tree.specs.View.{tree_of}
use Rattle.rob_top.proofs.Meaning.BranchingLemmas.{kept_bounds}
use Rattle.rob_top.proofs.Meaning.TreeCheckLemmas.{verdict_answers}
use Rattle.rob_top.proofs.Meaning.TreePlaceLemmas.{verdict_named}
use Rattle.rob_top.proofs.tree_checking.on_tree.Goals as goal

pub judged-requires-clause-named : goal.judged-requires-clause-named
judged-requires-clause-named g c =
    verdict_named g.N.Exact.limit (robust g.N.Exact.value c.args.model.now) c.args.numbers.now
    (tree_of g.N.Exact.value c.args.tree.now) c.requires.shape
    (kept_bounds (robust g.N.Exact.value c.args.model.now) c.args.numbers.now c.requires.rule)
    c.check_tree-verdict.result c.check_tree-verdict.ensures.verdict

pub returns-clause-answers : goal.returns-clause-answers
returns-clause-answers g c =
    verdict_answers _ _ c.args.numbers.now (tree_of g.N.Exact.value c.args.tree.now) _ _ c.check_tree-verdict.result
    c.judged.result c.check_tree-verdict.ensures.verdict c.check_tree-verdict.ensures.true_of
    c.check_tree-verdict.ensures.counted.refused c.judged.ensures.verdict
