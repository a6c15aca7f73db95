use mir.Val.{to_z, of_z}
use Rattle.std.proofs.Common.{◌<◌, ◌^◌, arith, subst, w64}
use Rattle.std.specs.Prelude.{nat_abs}
use Rattle.rob_cert.specs.View.{status_of}
use Rattle.rob_model.specs.View.{robust}
use Rattle.rob_number.proofs.CastLemmas.{seen}
use Rattle.rob_tree.proofs.Readers.ReaderLemmas.{root_cause_node, roots_cause, roots_read}
use Rattle.rob_tree.specs.Parts.{HasNodeCause, IsNodeRead}
use Rattle.rob_tree.specs.View.{node_of}
use Rattle.rob_tree.proofs.reader.read_root.Goals as goal

pub returns-in-Err-clause-fault : goal.returns-in-Err-clause-fault
returns-in-Err-clause-fault g c =
    let limit = g.N.Exact.limit in
    let m = robust g.N.Exact.value c.args.scene.model.now in
    let names = c.args.scene.named.now in
    let status = status_of c.args.claim.status in
    let best = c.args.shown.best in
    let text = c.args.shown.rest.now in
    let line = c.args.shown.line in
    root_cause_node limit m names status best text line c.in-Err.error
    (subst (λ s. HasNodeCause limit m names (status_of s) text line 0 c.in-Err.error)
    c.requires.same c.in-Err.ensures.fault)

pub returns-in-Ok-clause-read : goal.returns-in-Ok-clause-read
returns-in-Ok-clause-read g c =
    let limit = g.N.Exact.limit in
    let m = robust g.N.Exact.value c.args.scene.model.now in
    let names = c.args.scene.named.now in
    let status = status_of c.args.claim.status in
    let best = c.args.shown.best in
    let text = c.args.shown.rest.now in
    let line = c.args.shown.line in
    let small : nat_abs best < 2 ^ 62 = omega (arith, c.requires.best) in
    let root = c.in-Ok.root in
    let node = node_of g.N.Exact.value root.node in
    let read = subst (λ s. IsNodeRead limit m names (status_of s) text line 0 node root.at.rest.now
    root.at.line root.at.branches)
    c.requires.same c.in-Ok.ensures.read in
    roots_read g.N.Exact.value limit m names status best text line node root.at.rest.now root.at.line
    root.at.branches read c.finished.result
    (to_z w64 (of_z w64 best)) (seen best small) (g.N.Exact.value c.args.claim.value)
    c.finished.ensures.ended c.finished.ensures.tree

pub returns-in-Ok-clause-fault : goal.returns-in-Ok-clause-fault
returns-in-Ok-clause-fault g c =
    let limit = g.N.Exact.limit in
    let m = robust g.N.Exact.value c.args.scene.model.now in
    let names = c.args.scene.named.now in
    let status = status_of c.args.claim.status in
    let best = c.args.shown.best in
    let text = c.args.shown.rest.now in
    let line = c.args.shown.line in
    let small : nat_abs best < 2 ^ 62 = omega (arith, c.requires.best) in
    let root = c.in-Ok.root in
    let node = node_of g.N.Exact.value root.node in
    let read = subst (λ s. IsNodeRead limit m names (status_of s) text line 0 node root.at.rest.now
    root.at.line root.at.branches)
    c.requires.same c.in-Ok.ensures.read in
    roots_cause g.N.Exact.value limit m names status best text line node root.at.rest.now root.at.line
    root.at.branches read c.finished.result
    (to_z w64 (of_z w64 best)) (seen best small) c.finished.ensures.fault
