use Rattle.std.proofs.Common.{◌∙◌, rules, arith, map, sym}
use Rattle.rob_model.specs.View.{robust}
use Rattle.rob_tree.specs.View.{branch_of}
use Rattle.rob_branch.proofs.GrowSteps.{branched_admits, branched_at, cause_here, cause_told, counts_behind, may_bounded, one_free, side_grows, solved_by}
use Rattle.rob_branch.proofs.SideLemmas.{above_may, below_may, joined_grown, small_read, stopped_above, stopped_below}
use Rattle.rob_branch.specs.View.{search_of}
use Rattle.rob_branch.proofs.grow.+grow.Goals as goal

-- ---- a box
pub grow-counted-requires : goal.grow-counted-requires
grow-counted-requires g t c = record { few = one_free c.requires.ready }

pub grow-grow_from-requires : goal.grow-grow_from-requires
grow-grow_from-requires g t c κs within =
    let r = c.requires in
    let solved = solved_by g.N.Exact.limit c.in-Ok.ensures.solved c.in-Ok.ensures.written in
    (omega (arith, c.decreases), (within.0, (within.1, (r.valid, (r.ready, (search rules, solved))))))

pub grow-returns-in-Err-clause-cause : goal.grow-returns-in-Err-clause-cause
grow-returns-in-Err-clause-cause g t c =
    cause_here g.N.Exact.limit (robust g.N.Exact.value c.args.area.model.now) c.args.area.names.now
    (search_of g.N.Exact.value c.args.before) c.args.area.path.now c.in-Err.stop c.stopped.result (search rules)
    c.requires.admitted c.in-Err.ensures.cause c.stopped.ensures.told

pub grow-returns-in-Ok-clause-counted : goal.grow-returns-in-Ok-clause-counted
grow-returns-in-Ok-clause-counted g t c =
    counts_behind g.L.Ledger.ops g.L.Ledger.wides c.args.ledger.now c.solve_model.new.ledger c.grow_from.new.ledger
    c.grow_from.result c.in-Ok.ensures.counted.never_fell c.grow_from.ensures.counted

-- ---- a box with its certificate
pub grow_from-comes_of-requires : goal.grow_from-comes_of-requires
grow_from-comes_of-requires g t c = record { few = one_free c.requires.ready }

pub grow_from-grow_branch-requires : goal.grow_from-grow_branch-requires
grow_from-grow_branch-requires g t c κs within =
    let r = c.requires in
    let b = c.in-Branches in
    let asked = branched_at c.args.area.names.now (search_of g.N.Exact.value c.args.before) b.column b.k
    g.met.N.Exact.limit_high r.going r.solved (sym b.ensures.outcome) b.ensures.within in
    (omega (arith, c.decreases), (within.0, (within.1, (r.valid, (r.ready, asked)))))

-- ---- a branch
pub grow_branch-branch_below-at_most-requires : goal.grow_branch-branch_below-at_most-requires
grow_branch-branch_below-at_most-requires g t c =
    record { small = small_read c.requires.branched g.met.N.Exact.limit_high }

pub grow_branch-branch_above-at_least-requires : goal.grow_branch-branch_above-at_least-requires
grow_branch-branch_above-at_least-requires g t c =
    record { small = small_read c.requires.branched g.met.N.Exact.limit_high }

pub grow_branch-grow_side-requires : goal.grow_branch-grow_side-requires
grow_branch-grow_side-requires g t c κs within =
    let r = c.requires in
    let may = below_may r.branched g.met.N.Exact.limit_high r.valid.well_formed r.ready
    c.branch_below-at_most.ensures.branch in
    let some = branched_admits r.branched in
    (omega (arith, c.decreases), (within.0, (within.1, (r.valid, (r.ready.bounded, (some, may))))))

pub grow_branch-grow_side-requires-in-Ok : goal.grow_branch-grow_side-requires-in-Ok
grow_branch-grow_side-requires-in-Ok g t c κs within =
    let r = c.requires in
    let may = above_may r.branched g.met.N.Exact.limit_high r.valid.well_formed r.ready
    c.branch_below-at_most.ensures.branch c.branch_above-at_least.ensures.branch c.in-Ok.ensures.grown in
    let some = branched_admits r.branched in
    (omega (arith, c.decreases), (within.0, (within.1, (r.valid, (r.ready.bounded, (some, may))))))

pub grow_branch-returns-in-Ok-grow_side-clause-grown : goal.grow_branch-returns-in-Ok-grow_side-clause-grown
grow_branch-returns-in-Ok-grow_side-clause-grown g t c =
    joined_grown c.requires.branched g.met.N.Exact.limit_high c.joined.result c.branch_below-at_most.ensures.branch
    c.branch_above-at_least.ensures.branch c.in-Ok.ensures.grown c.in-Ok-grow_side.ensures.grown
    c.joined.ensures.joined

pub grow_branch-returns-in-Err-clause-cause : goal.grow_branch-returns-in-Err-clause-cause
grow_branch-returns-in-Err-clause-cause g t c =
    stopped_below c.requires.branched g.met.N.Exact.limit_high (map branch_of c.args.area.path.now) c.in-Err.stop
    c.branch_below-at_most.ensures.branch c.in-Err.ensures.cause

pub grow_branch-returns-in-Err-grow_side-clause-cause : goal.grow_branch-returns-in-Err-grow_side-clause-cause
grow_branch-returns-in-Err-grow_side-clause-cause g t c =
    stopped_above c.requires.branched g.met.N.Exact.limit_high (map branch_of c.args.area.path.now)
    c.in-Err-grow_side.stop c.branch_below-at_most.ensures.branch c.branch_above-at_least.ensures.branch
    c.in-Ok.ensures.grown c.in-Err-grow_side.ensures.cause

-- ---- one side of it
pub grow_side-behind-requires-clause-bounded : goal.grow_side-behind-requires-clause-bounded
grow_side-behind-requires-clause-bounded g t c = may_bounded c.requires.may c.requires.bounded

pub grow_side-grow-requires : goal.grow_side-grow-requires
grow_side-grow-requires g t c κs within =
    let r = c.requires in
    let side = side_grows (search_of g.N.Exact.value c.args.before) r.may c.in_ok-model.ensures.tightened
    r.valid.well_formed r.bounded r.admitted in
    (omega (arith, c.decreases, side.0), (within.0, (within.1, (c.in_ok-model.ensures.valid, (side.1, side.2)))))

pub grow_side-returns-clause-cause : goal.grow_side-returns-clause-cause
grow_side-returns-clause-cause g t c =
    cause_told g.N.Exact.limit c.args.area.names.now (search_of g.N.Exact.value c.args.before) c.items.result.now
    c.args.area.path.now c.args.branch c.grow.result c.in_ok-model.ensures.tightened
    (c.items.ensures.list ∙ c.in_ok-path.ensures.path) c.grow.ensures.cause
