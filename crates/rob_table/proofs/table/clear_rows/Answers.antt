use Rattle.std.proofs.Common.{◌-◌, ◌≤◌, ◌∙◌, ap, subst, sym, arith, List, length}
use lib.IntN.{ℤ, pos}
use lib.Signed.{◌<ℤ◌}
use Rattle.rob_linear.specs.Vectors.{at}
use Rattle.rob_entries.specs.Updates.{AreOwn, Clearing, IsWideCleared}
use Rattle.rob_table.specs.Tables.{row_at, IsStopped}
use Rattle.rob_table.proofs.Clearing.{wide_at}
use Rattle.rob_table.proofs.table.clear_rows.Goals as goal

pub returns-in-Err-clause-stopped : goal.returns-in-Err-clause-stopped
returns-in-Err-clause-stopped g c =
    subst (λ (rows : List ℤ).
    IsStopped g.E.Entry.top c.args.count c.args.pivot.width c.args.pivot.row c.args.pivot.place
    (at c.args.pivot_row.now.entries) (row_at c.args.rows.now c.args.pivot.width) (row_at rows c.args.pivot.width)
    c.loop-i.i)
    (sym c.in-Err.ensures.unchanged)
    (wide_at c.args.pivot.width c.args.pivot.row c.args.pivot.place (at c.args.pivot_row.now.entries)
    c.requires.ready.place_in (row_at c.args.rows.now c.args.pivot.width) g.E.Entry.top c.args.count c.loop-i.i
    (row_at c.loop-i.rows c.args.pivot.width) c.loop-i-test.true c.in-Err.ensures.wide.0
    (subst (λ (v : Clearing).
    IsWideCleared g.E.Entry.top c.args.pivot.width c.args.pivot.place
    (row_at c.loop-i.rows c.args.pivot.width c.loop-i.i) (at v.entries)) c.loop-i.invariant.same
    c.in-Err.ensures.wide.1)
    c.loop-i.invariant.cleared)

pub clear_other-requires-clause-ready : goal.clear_other-requires-clause-ready
clear_other-requires-clause-ready g c =
    let a = c.requires.ready in
    let same = c.loop-i.invariant.same in
    record {
      bounded = c.loop-i.invariant.bounded;
      inside = omega (arith, c.loop-i.auto.bounds, a.inside, c.loop-i-test.true);
      width = ap (λ (v : Clearing). length v.entries) same ∙ a.width;
      place_in = a.place_in;
      low = subst (λ (v : Clearing). v.bound ≤ g.E.Entry.top) (sym same) a.low;
      positive = subst (λ (v : Clearing). pos 0 <ℤ at v.entries c.args.pivot.place) (sym same) a.positive;
    }

pub clear_other-requires-clause-own : goal.clear_other-requires-clause-own
clear_other-requires-clause-own g c d =
    let w = c.args.pivot.width in
    let i = c.loop-i.i in
    let before = c.requires.own i c.loop-i-test.true d in
    let inside = c.requires.ready.place_in in
    let stays = c.loop-i.invariant.cleared.others i (w - 1) (omega (arith)) (omega (arith, inside)) in
    subst (λ (v : Clearing). AreOwn (row_at c.loop-i.rows w i) (at v.entries) (w - 1)) (sym c.loop-i.invariant.same)
    (record { zero = before.zero; some = λ e. before.some (sym stays ∙ e) })
