use Rattle.std.proofs.Common.{◌≡◌, ◌<◌, ◌/◌, ◌∙◌, ap, sym, subst, arith, rules, ◌*ℤ◌, pos, nat_abs, get_or, length, ◌≤◌, to_z, of_z}
use mir.Syntax.{w64}
use mir.Val.{SFits}
use Rattle.std.specs.Int.{◌∣◌}
use Rattle.rob_rows.specs.PrimitiveParts.{content}
use Rattle.rob_rows.proofs.Contents.{content-divides}
use Rattle.rob_rows.proofs.PrimitivePartLemmas.{part_over_content, scaled_is, wide_part}
use Rattle.rob_rows.proofs.Reductions.{seen, fits_from_size, on_err, divided_more, within_more, kept_more, within_all}
use Rattle.rob_rows.proofs.reduction.divide.Goals as goal
use Rattle.rob_number.proofs.CastLemmas.{seen_up}

pub quotient_within-requires-clause-divides : goal.quotient_within-requires-clause-divides
quotient_within-requires-clause-divides c =
    let i = c.loop-entry.entry-index in
    let fits : SFits w64 (get_or c.loop-entry.row i (pos 0)) = search rules in
    let here : get_or c.loop-entry.row i (pos 0) ≡ get_or c.args.row.now i (pos 0) =
    c.loop-entry.invariant.kept i (omega arith) in
    let same : c.args.common.value ≡ content c.args.row.now = c.requires.content in
    subst (λ t. c.args.common.value ∣ nat_abs t) (sym (seen_up (get_or c.loop-entry.row i (pos 0)) fits ∙ here))
    (subst (λ t. t ∣ nat_abs (get_or c.args.row.now i (pos 0))) (sym same)
    (content-divides c.args.row.now i (omega arith)))

pub returns-in_err-entry-clause-wide : goal.returns-in_err-entry-clause-wide
returns-in_err-entry-clause-wide c =
    let i = c.loop-entry.entry-index in
    let fits : SFits w64 (get_or c.loop-entry.row i (pos 0)) = search rules in
    let here : get_or c.loop-entry.row i (pos 0) ≡ get_or c.args.row.now i (pos 0) =
    c.loop-entry.invariant.kept i (omega arith) in
    let over : c.args.limit < nat_abs (get_or c.args.row.now i (pos 0)) / c.args.common.value =
    subst (λ t. c.args.limit < nat_abs t / c.args.common.value)
    (seen_up (get_or c.loop-entry.row i (pos 0)) fits ∙ here) c.in_err-entry.ensures.wide in
    on_err c.from_residual.result
    (wide_part c.args.row.now c.args.common.value c.args.limit i (omega arith) c.requires.content (omega arith) over)

pub loop-entry-preserved : goal.loop-entry-preserved
loop-entry-preserved c =
    let i = c.loop-entry.entry-index in
    let g = c.args.common.value in
    let fits : SFits w64 (get_or c.loop-entry.row i (pos 0)) = search rules in
    let here : get_or c.loop-entry.row i (pos 0) ≡ get_or c.args.row.now i (pos 0) =
    c.loop-entry.invariant.kept i (omega arith) in
    let w = c.in_ok-entry.field-0 in
    let stored : to_z w64 (of_z w64 w) ≡ w =
    seen w (fits_from_size w c.args.limit c.in_ok-entry.ensures.within c.requires.limit) in
    let times : pos g *ℤ w ≡ get_or c.args.row.now i (pos 0) =
    c.in_ok-entry.ensures.quotient ∙ seen_up (get_or c.loop-entry.row i (pos 0)) fits ∙ here in
    let inside : i < length c.loop-entry.row = omega arith in
    record {
      divided = divided_more g c.loop-entry.row c.args.row.now i (to_z w64 (of_z w64 w)) inside
          c.loop-entry.invariant.divided (ap (λ t. pos g *ℤ t) stored ∙ times);
      within =
          within_more c.args.limit c.loop-entry.row i (to_z w64 (of_z w64 w)) inside c.loop-entry.invariant.within
          (subst (λ t. nat_abs t ≤ c.args.limit) (sym stored) c.in_ok-entry.ensures.within);
      kept = kept_more c.loop-entry.row c.args.row.now i (to_z w64 (of_z w64 w)) c.loop-entry.invariant.kept;
    }

pub returns-clause-part : goal.returns-clause-part
returns-clause-part c =
    let n : length c.loop-entry.row ≡ length c.args.row.now = c.loop-entry.auto.row in
    part_over_content c.loop-entry.row c.args.row.now c.args.common.value (omega arith) c.requires.content
    (scaled_is c.args.common.value c.loop-entry.row c.args.row.now n
    (λ k l. c.loop-entry.invariant.divided k (omega arith)))

pub returns-clause-within : goal.returns-clause-within
returns-clause-within c =
    within_all c.args.limit c.loop-entry.row c.loop-entry.entry-index (omega arith) c.loop-entry.invariant.within
