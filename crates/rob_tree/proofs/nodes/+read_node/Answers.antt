use Rattle.std.proofs.Common.{arith}
use Rattle.rob_cert.specs.View.{status_of}
use Rattle.rob_model.specs.View.{robust}
use Rattle.rob_tree.proofs.Readers.NodeSteps.{above_cause, below_cause, both_joined, branch_read, head_told, leaf_told, second_shorter, second_small}
use Rattle.rob_tree.proofs.nodes.+read_node.Goals as goal

pub returns-in-Err-clause-fault : goal.returns-in-Err-clause-fault
returns-in-Err-clause-fault g t c =
    head_told g.N.Exact.limit (robust g.N.Exact.value c.args.scene.model.now) c.args.scene.named.now
    (status_of c.args.scene.status) c.args.at.rest.now c.args.at.line c.args.at.branches c.in-Err.offence
    c.rule.ensures.rule c.in-Err.ensures.head

pub returns-in-Leaf-clause-fault : goal.returns-in-Leaf-clause-fault
returns-in-Leaf-clause-fault g t c =
    leaf_told (robust g.N.Exact.value c.args.scene.model.now) c.read_leaf.result c.in-Ok.ensures.head c.in-Leaf.is
    c.read_leaf.ensures.fault

pub returns-in-Err-read_node-clause-fault : goal.returns-in-Err-read_node-clause-fault
returns-in-Err-read_node-clause-fault g t c =
    let l = branch_read c.requires.ready.scene c.in-Ok.ensures.head c.in-Branch.is in
    below_cause l c.in-Err-read_node.error c.in-Err-read_node.ensures.fault

pub read_node-requires-in-Ok-read_node : goal.read_node-requires-in-Ok-read_node
read_node-requires-in-Ok-read_node g t c κs within =
    let r = c.requires in
    let l = branch_read r.ready.scene c.in-Ok.ensures.head c.in-Branch.is in
    let first = c.in-Ok-read_node.ensures.read in
    let small = second_small l first r.small in
    let less = second_shorter l first in
    (omega (arith, c.decreases, less), (within.0, (within.1, (r.valid, (r.ready, (first.few, small))))))

pub returns-in-Err-read_node-2-clause-fault : goal.returns-in-Err-read_node-2-clause-fault
returns-in-Err-read_node-2-clause-fault g t c =
    let l = branch_read c.requires.ready.scene c.in-Ok.ensures.head c.in-Branch.is in
    above_cause l c.in-Ok-read_node.ensures.read c.in-Err-read_node-2.error c.in-Err-read_node-2.ensures.fault

pub returns-clause-read : goal.returns-clause-read
returns-clause-read g t c =
    let l = branch_read c.requires.ready.scene c.in-Ok.ensures.head c.in-Branch.is in
    both_joined l c.in-Ok-read_node.ensures.read g.N.Exact.value c.joined.result c.in-Ok-read_node-2.above.at
    g.met.N.Exact.limit_high c.in-Ok-read_node-2.ensures.read c.joined.ensures.joined
