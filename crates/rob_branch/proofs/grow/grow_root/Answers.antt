use Rattle.rob_model.specs.View.{robust}
use Rattle.rob_reach.proofs.GrownLemmas.{grown_true}
use Rattle.rob_reach.proofs.RuleLemmas.{rules_kept}
use Rattle.rob_reach.specs.Growing as growing
use Rattle.rob_tree.specs.View.{tree_of}
use Rattle.rob_branch.proofs.GrowSteps.{cause_at_root, cause_of_root, root_grows, solved_by}
use Rattle.rob_branch.proofs.GrownTreeLemmas.{tree_of_root}
use Rattle.rob_branch.specs.Growth.{HasCauseBehind}
use Rattle.rob_branch.specs.View.{search_of}
use Rattle.std.proofs.Common.{[], ap, subst}
use Rattle.rob_branch.proofs.grow.grow_root.Goals as goal

-- ---- what is asked of the root
pub grow_from-requires-clause-ready : goal.grow_from-requires-clause-ready
grow_from-requires-clause-ready g c =
    root_grows (robust g.N.Exact.value c.args.model.now) c.args.names.now (search_of g.N.Exact.value c.start.result)
    c.start.ensures.start c.requires.kept

pub grow_from-requires-clause-going : goal.grow_from-requires-clause-going
grow_from-requires-clause-going g c = ap (λ (s : growing.Search). s.endless) c.start.ensures.start

pub grow_from-requires-clause-solved : goal.grow_from-requires-clause-solved
grow_from-requires-clause-solved g c = solved_by g.N.Exact.limit c.in-Ok.ensures.solved c.in-Ok.ensures.written

-- ---- why no tree grows
pub returns-in-Err-clause-cause : goal.returns-in-Err-clause-cause
returns-in-Err-clause-cause g c =
    cause_at_root g.N.Exact.limit (robust g.N.Exact.value c.args.model.now) c.args.names.now c.in-Err.stop
    c.stopped.result c.in-Err.ensures.cause c.stopped.ensures.told

pub returns-in-Err-grow_from-clause-cause : goal.returns-in-Err-grow_from-clause-cause
returns-in-Err-grow_from-clause-cause g c =
    let m = robust g.N.Exact.value c.args.model.now in
    let names = c.args.names.now in
    cause_of_root g.N.Exact.limit m names c.in-Err-grow_from.stop
    (subst (λ s. HasCauseBehind g.N.Exact.limit m names s [] c.in-Err-grow_from.stop) c.start.ensures.start
    c.in-Err-grow_from.ensures.cause)

-- ---- the tree
pub returns-in-Ok-grow_from-clause-tree : goal.returns-in-Ok-grow_from-clause-tree
returns-in-Ok-grow_from-clause-tree g c =
    tree_of_root c.tree_by.result c.in-Ok-grow_from.ensures.grown c.start.ensures.start c.requires.valid.well_formed
    c.requires.kept g.met.N.Exact.fits c.tree_by.ensures.tree

pub returns-in-Ok-grow_from-clause-true_of : goal.returns-in-Ok-grow_from-clause-true_of
returns-in-Ok-grow_from-clause-true_of g c =
    let m = robust g.N.Exact.value c.args.model.now in
    let names = c.args.names.now in
    let model = c.requires.valid.well_formed in
    let tree = tree_of_root c.tree_by.result c.in-Ok-grow_from.ensures.grown c.start.ensures.start model c.requires.kept
    g.met.N.Exact.fits c.tree_by.ensures.tree in
    grown_true m names (tree_of g.N.Exact.value c.tree_by.result) tree.grown model
    ((rules_kept m names).0 c.requires.kept).0
