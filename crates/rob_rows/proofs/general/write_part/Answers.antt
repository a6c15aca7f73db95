use Rattle.std.proofs.Common.{◌≡◌, ◌<◌, ◌≤◌, ◌/◌, ◌∙◌, ap, sym, subst, arith, rules, pos, ◌*ℤ◌, nat_abs, get_or, length, to_z, of_z}
use Rattle.std.specs.Int.{◌∣◌}
use mir.Syntax.{w64, w128}
use mir.Val.{SFits}
use Rattle.rob_rows.specs.PrimitiveParts.{combination}
use Rattle.rob_rows.proofs.Contents.{content-divides}
use Rattle.rob_rows.proofs.Combinations.{length-combination}
use Rattle.rob_rows.proofs.PrimitivePartLemmas.{part_over_content, scaled_is, wide_part, zeros_part}
use Rattle.rob_rows.proofs.Reductions.{seen, fits_from_size, on_err, divided_more, within_more, within_all}
use Rattle.rob_rows.proofs.Entries.{entry_seen}
use Rattle.rob_rows.proofs.general.write_part.Goals as goal

pub returns-then-value-eq0-clause-part : goal.returns-then-value-eq0-clause-part
returns-then-value-eq0-clause-part c =
    let whole = combination c.args.factors.p c.args.top.now c.args.factors.q c.args.low.now in
    let n : length whole ≡ length c.args.top.now =
    length-combination c.args.factors.p c.args.top.now c.args.factors.q c.args.low.now (omega arith) in
    zeros_part c.write_zeros.new.out whole (omega arith) c.write_zeros.ensures.zeros
    (sym c.content_of-common.ensures.content ∙ omega arith)

pub quotient_within-requires-clause-divides : goal.quotient_within-requires-clause-divides
quotient_within-requires-clause-divides c =
    let whole = combination c.args.factors.p c.args.top.now c.args.factors.q c.args.low.now in
    let k = c.loop-k.k in
    let g = c.content_of-common.result.value in
    let n : length whole ≡ length c.args.top.now =
    length-combination c.args.factors.p c.args.top.now c.args.factors.q c.args.low.now (omega arith) in
    let fa : SFits w64 (get_or c.args.top.now k (pos 0)) = search rules in
    let fb : SFits w64 (get_or c.args.low.now k (pos 0)) = search rules in
    let fr : SFits w128 c.entry.result = search rules in
    let here = entry_seen c.args.factors.p c.args.top.now c.args.factors.q c.args.low.now k c.entry.result fa fb fr
    (omega arith) (omega arith) c.entry.ensures.value in
    subst (λ t. g ∣ nat_abs t) (sym here)
    (subst (λ t. t ∣ nat_abs (get_or whole k (pos 0))) (sym c.content_of-common.ensures.content)
    (content-divides whole k (omega arith)))

pub returns-in_err-out-clause-wide : goal.returns-in_err-out-clause-wide
returns-in_err-out-clause-wide c =
    let whole = combination c.args.factors.p c.args.top.now c.args.factors.q c.args.low.now in
    let k = c.loop-k.k in
    let g = c.content_of-common.result.value in
    let n : length whole ≡ length c.args.top.now =
    length-combination c.args.factors.p c.args.top.now c.args.factors.q c.args.low.now (omega arith) in
    let fa : SFits w64 (get_or c.args.top.now k (pos 0)) = search rules in
    let fb : SFits w64 (get_or c.args.low.now k (pos 0)) = search rules in
    let fr : SFits w128 c.entry.result = search rules in
    let here = entry_seen c.args.factors.p c.args.top.now c.args.factors.q c.args.low.now k c.entry.result fa fb fr
    (omega arith) (omega arith) c.entry.ensures.value in
    on_err c.from_residual.result
    (wide_part whole g c.args.limit k (omega arith) c.content_of-common.ensures.content (omega arith)
    (subst (λ t. c.args.limit < nat_abs t / g) here c.in_err-out.ensures.wide))

pub loop-k-preserved : goal.loop-k-preserved
loop-k-preserved c =
    let whole = combination c.args.factors.p c.args.top.now c.args.factors.q c.args.low.now in
    let k = c.loop-k.k in
    let g = c.content_of-common.result.value in
    let fa : SFits w64 (get_or c.args.top.now k (pos 0)) = search rules in
    let fb : SFits w64 (get_or c.args.low.now k (pos 0)) = search rules in
    let fr : SFits w128 c.entry.result = search rules in
    let here = entry_seen c.args.factors.p c.args.top.now c.args.factors.q c.args.low.now k c.entry.result fa fb fr
    (omega arith) (omega arith) c.entry.ensures.value in
    let w = c.in_ok-out.field-0 in
    let stored : to_z w64 (of_z w64 w) ≡ w =
    seen w (fits_from_size w c.args.limit c.in_ok-out.ensures.within c.requires.limit) in
    let inside : k < length c.loop-k.out = omega arith in
    record {
      divided = divided_more g c.loop-k.out whole k (to_z w64 (of_z w64 w)) inside c.loop-k.invariant.divided
          (ap (λ t. pos g *ℤ t) stored ∙ c.in_ok-out.ensures.quotient ∙ here);
      within = within_more c.args.limit c.loop-k.out k (to_z w64 (of_z w64 w)) inside c.loop-k.invariant.within
          (subst (λ t. nat_abs t ≤ c.args.limit) (sym stored) c.in_ok-out.ensures.within);
    }

pub returns-clause-part : goal.returns-clause-part
returns-clause-part c =
    let whole = combination c.args.factors.p c.args.top.now c.args.factors.q c.args.low.now in
    let g = c.content_of-common.result.value in
    let n : length whole ≡ length c.args.top.now =
    length-combination c.args.factors.p c.args.top.now c.args.factors.q c.args.low.now (omega arith) in
    part_over_content c.loop-k.out whole g (omega arith) c.content_of-common.ensures.content
    (scaled_is g c.loop-k.out whole (omega arith) (λ j l. c.loop-k.invariant.divided j (omega arith)))

pub returns-clause-within : goal.returns-clause-within
returns-clause-within c = within_all c.args.limit c.loop-k.out c.loop-k.k (omega arith) c.loop-k.invariant.within
