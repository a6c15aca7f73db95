use Rattle.std.proofs.Common.{◌≡◌, ◌<◌, ◌/◌, ◌∙◌, ap, sym, subst, arith, rules, ◌*ℤ◌, pos, nat_abs, get_or, length, ◌≤◌}
use mir.Syntax.{w128}
use mir.Val.{SFits}
use Rattle.std.specs.Int.{◌∣◌}
use Rattle.rob_rows.specs.PrimitiveParts.{content}
use Rattle.rob_rows.proofs.Contents.{content-divides}
use Rattle.rob_rows.proofs.PrimitivePartLemmas.{part_itself, part_over_content, scaled_is, wide_part}
use Rattle.rob_rows.proofs.Reductions.{on_err, divided_more, within_more, kept_more, within_all}
use Rattle.rob_deep.specs.Bigs.{value_of}
use Rattle.rob_deep.proofs.Words.{read, seen}
use Rattle.rob_deep.proofs.Entries.{fits_from_size}
use Rattle.rob_deep.proofs.reduction.reduce.Goals as goal

pub returns-then-is_within-clause-part : goal.returns-then-is_within-clause-part
returns-then-is_within-clause-part c = part_itself c.args.row.now (omega arith)

pub returns-else-is_within-clause-wide : goal.returns-else-is_within-clause-wide
returns-else-is_within-clause-wide c =
    (c.args.row.now, part_itself c.args.row.now (omega arith), c.if-is_within.ensures.wide)

pub quotient_within-requires-clause-divides : goal.quotient_within-requires-clause-divides
quotient_within-requires-clause-divides c =
    let i = c.loop-entry.entry-index in
    let g = c.new-divisor.result.value in
    let fits : SFits w128 (get_or c.loop-entry.row i (pos 0)) = search rules in
    let here : get_or c.loop-entry.row i (pos 0) ≡ get_or c.args.row.now i (pos 0) =
    c.loop-entry.invariant.kept i (omega arith) in
    let same : c.new-divisor.result.value ≡ content c.args.row.now =
    c.new-divisor.ensures.value ∙ c.content_of-common.ensures.content in
    let size : value_of c.of.result.size ≡ nat_abs (get_or c.args.row.now i (pos 0)) =
    c.of.ensures.size ∙ ap nat_abs (seen (get_or c.loop-entry.row i (pos 0)) fits ∙ here) in
    subst (λ t. g ∣ t) (sym size)
    (subst (λ t. t ∣ nat_abs (get_or c.args.row.now i (pos 0))) (sym same)
    (content-divides c.args.row.now i (omega arith)))

pub returns-in_err-entry-clause-wide : goal.returns-in_err-entry-clause-wide
returns-in_err-entry-clause-wide c =
    let i = c.loop-entry.entry-index in
    let g = c.new-divisor.result.value in
    let fits : SFits w128 (get_or c.loop-entry.row i (pos 0)) = search rules in
    let here : get_or c.loop-entry.row i (pos 0) ≡ get_or c.args.row.now i (pos 0) =
    c.loop-entry.invariant.kept i (omega arith) in
    let same : c.new-divisor.result.value ≡ content c.args.row.now =
    c.new-divisor.ensures.value ∙ c.content_of-common.ensures.content in
    let size : value_of c.of.result.size ≡ nat_abs (get_or c.args.row.now i (pos 0)) =
    c.of.ensures.size ∙ ap nat_abs (seen (get_or c.loop-entry.row i (pos 0)) fits ∙ here) in
    on_err c.from_residual.result
    (wide_part c.args.row.now g c.args.limit i c.new-divisor.result.positive same (omega arith)
    (subst (λ t. c.args.limit < t / g) size c.in_err-entry.ensures.wide))

pub loop-entry-preserved : goal.loop-entry-preserved
loop-entry-preserved c =
    let i = c.loop-entry.entry-index in
    let g = c.new-divisor.result.value in
    let fits : SFits w128 (get_or c.loop-entry.row i (pos 0)) = search rules in
    let here : get_or c.loop-entry.row i (pos 0) ≡ get_or c.args.row.now i (pos 0) =
    c.loop-entry.invariant.kept i (omega arith) in
    let w = c.in_ok-entry.field-0 in
    let stored : read w ≡ w = seen w (fits_from_size w c.args.limit c.in_ok-entry.ensures.within c.requires.limit) in
    let times : pos g *ℤ w ≡ get_or c.args.row.now i (pos 0) =
    c.in_ok-entry.ensures.quotient ∙ c.of.ensures.value ∙ seen (get_or c.loop-entry.row i (pos 0)) fits ∙ here in
    let inside : i < length c.loop-entry.row = omega arith in
    record {
      divided = divided_more g c.loop-entry.row c.args.row.now i (read w) inside c.loop-entry.invariant.divided
          (ap (λ t. pos g *ℤ t) stored ∙ times);
      within =
          within_more c.args.limit c.loop-entry.row i (read w) inside c.loop-entry.invariant.within
          (subst (λ t. nat_abs t ≤ c.args.limit) (sym stored) c.in_ok-entry.ensures.within);
      kept = kept_more c.loop-entry.row c.args.row.now i (read w) c.loop-entry.invariant.kept;
    }

pub returns-clause-part : goal.returns-clause-part
returns-clause-part c =
    let n : length c.loop-entry.row ≡ length c.args.row.now = c.loop-entry.auto.row in
    let same : c.new-divisor.result.value ≡ content c.args.row.now =
    c.new-divisor.ensures.value ∙ c.content_of-common.ensures.content in
    part_over_content c.loop-entry.row c.args.row.now c.new-divisor.result.value c.new-divisor.result.positive same
    (scaled_is c.new-divisor.result.value c.loop-entry.row c.args.row.now n
    (λ k l. c.loop-entry.invariant.divided k (omega arith)))

pub returns-clause-within : goal.returns-clause-within
returns-clause-within c =
    within_all c.args.limit c.loop-entry.row c.loop-entry.entry-index (omega arith) c.loop-entry.invariant.within
