use Rattle.std.proofs.Common.{◌≡◌, ◌∙◌, rules, arith, ap, map, refl}
use Rattle.rob_cert.specs.View.{status_of}
use Rattle.rob_model.specs.View.{robust}
use Rattle.rob_reach.proofs.RangeLemmas.{bounded_in}
use Rattle.rob_tree.specs.View.{branch_of, node_of}
use Rattle.rob_branch.proofs.CheckSteps.{above_checks, below_checks, few_of_above, few_of_below, fewer_above, fewer_below, passed_told, side_checks, split_above, split_below, split_passed, split_small, split_told, stopped_told}
use Rattle.rob_branch.proofs.check.+check.Goals as goal

-- ---- the node behind a branch
pub check_side-behind-requires-clause-bounded : goal.check_side-behind-requires-clause-bounded
check_side-behind-requires-clause-bounded g t c =
    let m = robust g.N.Exact.value c.args.area.model.now in
    bounded_in m.variables c.args.area.names.now c.args.branch.column c.requires.may.named c.requires.bounded

pub check_side-check_node-requires : goal.check_side-check_node-requires
check_side-check_node-requires g t c κs within =
    let r = c.requires in
    let side = side_checks r.may c.in_ok-model.ensures.tightened r.bounded in
    (omega (arith, c.decreases), (within.0, (within.1, (c.in_ok-model.ensures.valid, (side.0, (side.1, r.few))))))

pub check_side-returns-clause-passed : goal.check_side-returns-clause-passed
check_side-returns-clause-passed g t c =
    let p = c.args.progress in
    passed_told g.N.Exact.limit (status_of p.claim.status) (g.N.Exact.value p.claim.value)
    (node_of g.N.Exact.value c.args.node.now) p.number c.check_node.result c.in_ok-model.ensures.tightened
    c.check_node.ensures.passed

pub check_side-returns-clause-stopped : goal.check_side-returns-clause-stopped
check_side-returns-clause-stopped g t c =
    let p = c.args.progress in
    stopped_told g.N.Exact.limit (status_of p.claim.status) (g.N.Exact.value p.claim.value)
    (node_of g.N.Exact.value c.args.node.now) p.number c.check_node.result c.items.result.now c.args.area.path.now
    c.args.branch c.in_ok-model.ensures.tightened (c.items.ensures.list ∙ c.in_ok-path.ensures.path)
    c.check_node.ensures.stopped

-- ---- a node
pub check_node-branch_below-at_most-requires : goal.check_node-branch_below-at_most-requires
check_node-branch_below-at_most-requires g t c =
    record { small = split_small (ap (node_of g.N.Exact.value) c.in-Split.is) c.requires.node g.met.N.Exact.limit_high }

pub check_node-branch_above-at_least-requires : goal.check_node-branch_above-at_least-requires
check_node-branch_above-at_least-requires g t c =
    record { small = split_small (ap (node_of g.N.Exact.value) c.in-Split.is) c.requires.node g.met.N.Exact.limit_high }

pub check_node-check_side-requires : goal.check_node-check_side-requires
check_node-check_side-requires g t c κs within =
    let value = g.N.Exact.value in
    let r = c.requires in
    let first : c.deref.result.now ≡ c.in-Split.below.value = search rules in
    let is = split_told (ap (node_of value) c.in-Split.is) (ap (node_of value) first) refl in
    let may = below_checks is r.node g.met.N.Exact.limit_high c.branch_below-at_most.ensures.branch in
    let few = few_of_below is c.args.progress.number r.few in
    (omega (arith, c.decreases, fewer_below is), (within.0, (within.1, (r.valid, (r.bounded, (may, few))))))

pub check_node-check_side-requires-in-Ok : goal.check_node-check_side-requires-in-Ok
check_node-check_side-requires-in-Ok g t c κs within =
    let value = g.N.Exact.value in
    let r = c.requires in
    let first : c.deref.result.now ≡ c.in-Split.below.value = search rules in
    let second : c.deref-in-Ok.result.now ≡ c.in-Split.above.value = search rules in
    let is = split_told (ap (node_of value) c.in-Split.is) (ap (node_of value) first) (ap (node_of value) second) in
    let may = above_checks is r.node g.met.N.Exact.limit_high c.branch_above-at_least.ensures.branch in
    let few = few_of_above is c.args.progress.number c.in-Ok.number r.few c.in-Ok.ensures.passed.number in
    (omega (arith, c.decreases, fewer_above is), (within.0, (within.1, (r.valid, (r.bounded, (may, few))))))

pub check_node-returns-in-Err-clause-stopped : goal.check_node-returns-in-Err-clause-stopped
check_node-returns-in-Err-clause-stopped g t c =
    let value = g.N.Exact.value in
    let p = c.args.progress in
    let first : c.deref.result.now ≡ c.in-Split.below.value = search rules in
    let is = split_told (ap (node_of value) c.in-Split.is) (ap (node_of value) first) refl in
    split_below is c.requires.node g.met.N.Exact.limit_high (status_of p.claim.status) (value p.claim.value)
    (map branch_of c.args.area.path.now) p.number c.in-Err.verdict c.branch_below-at_most.ensures.branch
    c.in-Err.ensures.stopped

pub check_node-returns-in-Ok-clause-stopped : goal.check_node-returns-in-Ok-clause-stopped
check_node-returns-in-Ok-clause-stopped g t c =
    let value = g.N.Exact.value in
    let p = c.args.progress in
    let first : c.deref.result.now ≡ c.in-Split.below.value = search rules in
    let second : c.deref-in-Ok.result.now ≡ c.in-Split.above.value = search rules in
    let is = split_told (ap (node_of value) c.in-Split.is) (ap (node_of value) first) (ap (node_of value) second) in
    split_above is c.requires.node g.met.N.Exact.limit_high (status_of p.claim.status) (value p.claim.value)
    (map branch_of c.args.area.path.now) p.number c.in-Ok.number c.check_side-in-Ok.result
    c.branch_below-at_most.ensures.branch c.branch_above-at_least.ensures.branch c.in-Ok.ensures.passed
    c.check_side-in-Ok.ensures.stopped

pub check_node-returns-in-Ok-clause-passed : goal.check_node-returns-in-Ok-clause-passed
check_node-returns-in-Ok-clause-passed g t c =
    let value = g.N.Exact.value in
    let p = c.args.progress in
    let first : c.deref.result.now ≡ c.in-Split.below.value = search rules in
    let second : c.deref-in-Ok.result.now ≡ c.in-Split.above.value = search rules in
    let is = split_told (ap (node_of value) c.in-Split.is) (ap (node_of value) first) (ap (node_of value) second) in
    split_passed is c.requires.node g.met.N.Exact.limit_high (status_of p.claim.status) (value p.claim.value) p.number
    c.in-Ok.number c.check_side-in-Ok.result c.branch_below-at_most.ensures.branch
    c.branch_above-at_least.ensures.branch c.in-Ok.ensures.passed c.check_side-in-Ok.ensures.passed
