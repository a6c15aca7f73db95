use Rattle.std.proofs.Common.{◌≡◌, ◌∙◌, ◌<◌, ◌+◌, ◌-◌, sym, ap, subst, arith, inr, to_z, of_z, w64}
use Rattle.std.proofs.lemmas.Int.{ints, to_z-of_z}
use lib.IntN.{pos}
use lib.Signed.{◌<ℤ◌}
use Rattle.rob_linear.specs.Vectors.{at}
use Rattle.rob_rows.proofs.Reductions.{on_err}
use Rattle.rob_table.specs.Tables.{row_at}
use Rattle.rob_table.proofs.ClearingTops.{cleared_whole, wide_whole, part_positive, part_zero}
use Rattle.rob_table.proofs.LoweredRows.{step_behind, row_beside, way_lowers, way_wide, step_one, step_else}
use Rattle.rob_table.proofs.lowering.lower_row.Goals as goal

pub clear_row-requires-clause-ready : goal.clear_row-requires-clause-ready
clear_row-requires-clause-ready g c =
    let a = c.requires.ready in
    let n = c.args.there.n in
    let way = c.args.there.way in
    let place = c.args.there.place in
    let wl : c.args.there.way < c.args.there.n + 4 = omega (arith, a.way_in) in
    let steps =
    step_behind c.write_factor.ensures.others place c.write_step.ensures.row c.get-own.ensures.entry in
    record {
      bounded = c.write_factor.ensures.bounded c.write_step.ensures.bounded;
      inside = omega (arith, a.inside, c.write_factor.auto.bounds, c.write_step.auto.bounds);
      width = c.load_row.ensures.size;
      place_in = wl;
      low = c.load_row.ensures.bound;
      positive =
          part_positive c.load_row.ensures.entries way wl
          (subst (λ z. pos 0 <ℤ z)
          (sym (steps way wl ∙ step_one way place (row_at c.args.rows.now (n + 4) c.args.there.row (n + 3))))
          (omega (arith, ints)));
    }

pub clear_row-requires-clause-own : goal.clear_row-requires-clause-own
clear_row-requires-clause-own g c =
    let a = c.requires.ready in
    let n = c.args.there.n in
    let r = c.args.there.row in
    let way = c.args.there.way in
    let place = c.args.there.place in
    let steps =
    step_behind c.write_factor.ensures.others place c.write_step.ensures.row c.get-own.ensures.entry in
    let beside = row_beside c.write_factor.ensures.others c.write_step.ensures.others in
    let e : c.args.there.n + 4 - 1 ≡ c.args.there.n + 3 = omega arith in
    record {
      zero = ap (at c.load_row.new.pivot_row.entries) e
          ∙ part_zero c.load_row.ensures.entries (n + 3) (omega arith)
          (steps (n + 3) (omega arith)
          ∙ step_else way place (row_at c.args.rows.now (n + 4) r (n + 3)) (n + 3)
          (λ s. absurd (omega (arith, a.way_in))) (λ s. absurd (omega (arith, a.place_in))));
      some =
          λ z. a.own
          (sym (beside (n + 3) (omega arith) (λ s. absurd (omega (arith, a.way_in))))
          ∙ ap (row_at c.write_factor.new.rows (n + 4) r) (sym e) ∙ z);
    }

pub returns-clause-lowered : goal.returns-clause-lowered
returns-clause-lowered g c =
    let a = c.requires.ready in
    let w = c.args.there.n + 4 in
    let r = c.args.there.row in
    let wl : c.args.there.way < c.args.there.n + 4 = omega (arith, a.way_in) in
    let steps =
    step_behind c.write_factor.ensures.others c.args.there.place c.write_step.ensures.row c.get-own.ensures.entry in
    let seen : to_z w64 (of_z w64 c.args.factor) ≡ c.args.factor = to_z-of_z w64 c.args.factor c.ranges.factor in
    let beside = row_beside c.write_factor.ensures.others c.write_step.ensures.others in
    way_lowers (row_at c.args.rows.now w r (c.args.there.n + 3)) wl a.apart a.zero
    (c.write_factor.ensures.here ∙ seen) beside steps (row_at c.clear_row.new.rows w r)
    (cleared_whole c.load_row.ensures.entries c.args.there.way (row_at c.write_factor.new.rows w r)
    (row_at c.clear_row.new.rows w r) c.in_ok-clear_row.ensures.cleared)

pub returns-in_err-clear_row-clause-wide : goal.returns-in_err-clear_row-clause-wide
returns-in_err-clear_row-clause-wide g c =
    let a = c.requires.ready in
    let w = c.args.there.n + 4 in
    let r = c.args.there.row in
    let wl : c.args.there.way < c.args.there.n + 4 = omega (arith, a.way_in) in
    let steps =
    step_behind c.write_factor.ensures.others c.args.there.place c.write_step.ensures.row c.get-own.ensures.entry in
    let seen : to_z w64 (of_z w64 c.args.factor) ≡ c.args.factor = to_z-of_z w64 c.args.factor c.ranges.factor in
    let beside = row_beside c.write_factor.ensures.others c.write_step.ensures.others in
    on_err c.from_residual.result
    (way_wide (row_at c.args.rows.now w r (c.args.there.n + 3)) wl a.apart a.zero
    (c.write_factor.ensures.here ∙ seen) beside steps g.E.Entry.top
    (wide_whole c.load_row.ensures.entries g.E.Entry.top c.args.there.way (row_at c.write_factor.new.rows w r)
    c.in_err-clear_row.ensures.wide))

pub returns-clause-others : goal.returns-clause-others
returns-clause-others g c j k d e l =
    c.clear_row.ensures.others j k d l ∙ c.write_factor.ensures.others j k l (inr d)
    ∙ c.write_step.ensures.others j k (λ f. e (omega (arith, f))) l

pub load_row-requires-clause-bounded : goal.load_row-requires-clause-bounded
load_row-requires-clause-bounded g c = c.write_factor.ensures.bounded c.write_step.ensures.bounded
