use Rattle.rob_cert.specs.NamesView.{naming}
use Rattle.rob_cert.specs.View.{status_of}
use Rattle.rob_model.specs.View.{robust}
use Rattle.rob_tree.proofs.Readers.LineLemmas.{head_read, node_cause, node_missing}
use Rattle.rob_tree.proofs.nodes.read_head.Goals as goal

pub returns-in-None-clause-head : goal.returns-in-None-clause-head
returns-in-None-clause-head g c =
    node_missing g.N.Exact.limit (robust g.N.Exact.value c.args.scene.model.now) c.args.scene.named.now
    (status_of c.args.scene.status)
    c.args.at.branches c.args.at.rest.now c.in-None.ensures.cut

pub returns-in-Err-clause-head : goal.returns-in-Err-clause-head
returns-in-Err-clause-head g c =
    node_cause g.N.Exact.limit (robust g.N.Exact.value c.args.scene.model.now) c.args.scene.named.now
    (status_of c.args.scene.status)
    c.args.at.branches c.args.at.rest.now c.in-Some.split.front.now c.in-Some.split.back.now c.in-Err.offence
    c.in-Some.ensures.cut.0 c.in-Some.ensures.cut.1 c.in-Err.ensures.head

pub returns-in-Ok-clause-head : goal.returns-in-Ok-clause-head
returns-in-Ok-clause-head g c =
    head_read g.N.Exact.limit c.args.scene.named.now (naming c.args.scene.names.now).columns
    (status_of c.args.scene.status)
    c.args.at.rest.now c.in-Some.split.front.now c.in-Some.split.back.now c.args.at.line c.args.at.branches c.in-Ok.head
    c.in-Some.ensures.cut.0 c.in-Some.ensures.cut.1 c.in-Ok.ensures.head
