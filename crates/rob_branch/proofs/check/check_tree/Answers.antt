use Rattle.std.proofs.Common.{arith}
use Rattle.rob_model.specs.View.{robust}
use Rattle.rob_reach.proofs.GrowingLemmas.{leaves-branches}
use Rattle.rob_reach.proofs.RuleLemmas.{rules_kept}
use Rattle.rob_reach.specs.Trees.{leaves}
use Rattle.rob_reach.specs.WholeStatus.{HasWholeStatus}
use Rattle.rob_tree.specs.View.{node_of, tree_of}
use Rattle.rob_branch.proofs.OneVerdictLemmas.{one_verdict}
use Rattle.rob_branch.proofs.VerdictLemmas.{accepted_claims, ended_rose, ended_verdict, stopped_claims, stopped_verdict}
use Rattle.rob_branch.proofs.check.check_tree.Goals as goal

-- ---- what is asked of the root
pub check_node-requires-clause-bounded : goal.check_node-requires-clause-bounded
check_node-requires-clause-bounded g c =
    ((rules_kept (robust g.N.Exact.value c.args.model.now) c.args.names.now).0 c.requires.rule).0

pub check_node-requires-clause-node : goal.check_node-requires-clause-node
check_node-requires-clause-node g c =
    let shape = c.requires.shape in
    record { on_names = shape.tree.on_names; numbers = shape.numbers; shaped = shape.shaped }

pub check_node-requires-clause-few : goal.check_node-requires-clause-few
check_node-requires-clause-few g c =
    omega (arith, c.requires.shape.tree.few, leaves-branches (node_of g.N.Exact.value c.args.tree.now.root))

-- ---- the verdict
pub returns-in-Err-clause-verdict : goal.returns-in-Err-clause-verdict
returns-in-Err-clause-verdict g c =
    let value = g.N.Exact.value in
    stopped_verdict g.N.Exact.limit (robust value c.args.model.now) c.args.names.now (tree_of value c.args.tree.now)
    c.requires.valid.well_formed c.requires.shape c.in-Err.verdict c.in-Err.ensures.stopped

pub returns-in-Err-clause-true_of : goal.returns-in-Err-clause-true_of
returns-in-Err-clause-true_of g c =
    let value = g.N.Exact.value in
    let m = robust value c.args.model.now in
    let t = tree_of value c.args.tree.now in
    stopped_claims g.N.Exact.limit m c.args.names.now t c.requires.valid.well_formed c.requires.shape
    (HasWholeStatus m c.args.names.now t.status t.value) c.in-Err.verdict c.in-Err.ensures.stopped

pub returns-in-Ok-clause-verdict : goal.returns-in-Ok-clause-verdict
returns-in-Ok-clause-verdict g c =
    let value = g.N.Exact.value in
    let m = robust value c.args.model.now in
    ended_verdict g.N.Exact.limit m c.args.names.now (tree_of value c.args.tree.now) c.requires.valid.well_formed
    c.requires.shape c.in-Ok.ensures.passed.passed c.last_verdict.result (c.last_verdict.ensures.ended m)

pub returns-in-Ok-clause-true_of : goal.returns-in-Ok-clause-true_of
returns-in-Ok-clause-true_of g c =
    let value = g.N.Exact.value in
    let m = robust value c.args.model.now in
    let t = tree_of value c.args.tree.now in
    accepted_claims g.N.Exact.limit m c.args.names.now t c.requires.valid.well_formed c.requires.shape
    ((rules_kept m c.args.names.now).0 c.requires.rule).0 c.last_verdict.result
    (ended_verdict g.N.Exact.limit m c.args.names.now t c.requires.valid.well_formed c.requires.shape
    c.in-Ok.ensures.passed.passed c.last_verdict.result (c.last_verdict.ensures.ended m))

pub returns-in-Ok-clause-counted : goal.returns-in-Ok-clause-counted
returns-in-Ok-clause-counted g c =
    let value = g.N.Exact.value in
    let m = robust value c.args.model.now in
    let t = tree_of value c.args.tree.now in
    record {
      never_fell = c.in-Ok.ensures.counted.never_fell;
      refused = ended_rose t.status c.args.names.now t.value t.best (leaves m t.root)
          (g.L.Ledger.wides c.args.ledger.now)
          (g.L.Ledger.wides c.check_node.new.ledger) c.last_verdict.result (c.last_verdict.ensures.ended m);
    }

-- ---- no other verdict is the tree's
pub returns-in-Err-clause-exact : goal.returns-in-Err-clause-exact
returns-in-Err-clause-exact g c v is =
    let value = g.N.Exact.value in
    let m = robust value c.args.model.now in
    let t = tree_of value c.args.tree.now in
    one_verdict g.N.Exact.limit m c.args.names.now t c.requires.valid.well_formed c.requires.shape c.in-Err.verdict v
    (stopped_verdict g.N.Exact.limit m c.args.names.now t c.requires.valid.well_formed c.requires.shape c.in-Err.verdict
    c.in-Err.ensures.stopped)
    is

pub returns-in-Ok-clause-exact : goal.returns-in-Ok-clause-exact
returns-in-Ok-clause-exact g c v is =
    let value = g.N.Exact.value in
    let m = robust value c.args.model.now in
    let t = tree_of value c.args.tree.now in
    one_verdict g.N.Exact.limit m c.args.names.now t c.requires.valid.well_formed
    c.requires.shape c.last_verdict.result v
    (ended_verdict g.N.Exact.limit m c.args.names.now t c.requires.valid.well_formed c.requires.shape
    c.in-Ok.ensures.passed.passed c.last_verdict.result (c.last_verdict.ensures.ended m))
    is
