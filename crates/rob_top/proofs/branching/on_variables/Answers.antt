use Rattle.rob_model.specs.View.{robust}
use Rattle.rob_reach.proofs.GrownLemmas.{grown_proves}
use Rattle.rob_tree.specs.View.{tree_of}
use Rattle.rob_top.proofs.Meaning.BranchingLemmas.{grown_keeps, kept_bounds, stop_named, stop_told, stopped_answers, tree_answers}
use Rattle.rob_top.proofs.branching.on_variables.Goals as goal

pub grown-requires-clause-bounded : goal.grown-requires-clause-bounded
grown-requires-clause-bounded g c =
    kept_bounds (robust g.N.Exact.value c.args.model.now) c.args.numbers.now
    (grown_keeps (robust g.N.Exact.value c.args.model.now) c.args.numbers.now c.grow_tree.result c.in-Ok.tree c.in-Ok.is
    c.grow_tree.ensures.rule)

pub grown-requires-clause-proves : goal.grown-requires-clause-proves
grown-requires-clause-proves g c =
    grown_proves (robust g.N.Exact.value c.args.model.now) c.args.numbers.now
    (tree_of g.N.Exact.value c.in-Ok.tree) c.in-Ok.ensures.tree.grown

pub grown-requires-clause-shape : goal.grown-requires-clause-shape
grown-requires-clause-shape g c = c.in-Ok.ensures.tree.shape

pub returns-in-Ok-clause-answers : goal.returns-in-Ok-clause-answers
returns-in-Ok-clause-answers g c =
    tree_answers g.N.Exact.limit (robust g.N.Exact.value c.args.model.now) c.args.verb
    c.args.numbers.now c.requires.branches _
    (tree_of g.N.Exact.value c.in-Ok.tree) c.grown.result
    (grown_keeps (robust g.N.Exact.value c.args.model.now) c.args.numbers.now c.grow_tree.result c.in-Ok.tree c.in-Ok.is
    c.grow_tree.ensures.rule)
    c.in-Ok.ensures.tree.grown c.in-Ok.ensures.true_of c.in-Ok.ensures.tree.shape c.in-Ok.ensures.tree.fits
    c.in-Ok.ensures.written c.in-Ok.ensures.tree.boxes
    c.grown.ensures.status c.grown.ensures.printed

pub ungrown-requires-clause-named : goal.ungrown-requires-clause-named
ungrown-requires-clause-named g c =
    stop_named g.N.Exact.limit (robust g.N.Exact.value c.args.model.now) c.args.numbers.now c.in-Err.stop
    (stop_told (robust g.N.Exact.value c.args.model.now) c.args.numbers.now c.grow_tree.result c.in-Err.stop c.in-Err.is
    c.grow_tree.ensures.rule)
    c.in-Err.ensures.cause

pub returns-in-Err-clause-answers : goal.returns-in-Err-clause-answers
returns-in-Err-clause-answers g c =
    stopped_answers g.N.Exact.limit (robust g.N.Exact.value c.args.model.now) c.args.verb
    c.args.numbers.now c.requires.branches
    (g.L.Ledger.wides c.args.ledger.now) (g.L.Ledger.wides c.grow_tree.new.ledger) c.in-Err.stop
    c.ungrown.result c.in-Err.ensures.cause
    c.in-Err.ensures.counted.refused
    (stop_told (robust g.N.Exact.value c.args.model.now) c.args.numbers.now c.grow_tree.result c.in-Err.stop c.in-Err.is
    c.grow_tree.ensures.rule)
    c.ungrown.ensures.stop
