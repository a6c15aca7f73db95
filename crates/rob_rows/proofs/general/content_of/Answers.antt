use Rattle.std.proofs.Common.{◌≡◌, ◌<◌, ◌∙◌, ap, sym, arith, rules, pos, nat_abs, get_or, take, length}
use Rattle.std.proofs.lemmas.List.{take_all}
use mir.Syntax.{w64, w128}
use mir.Val.{SFits}
use Rattle.rob_algebra.specs.Gcd.{gcd}
use Rattle.rob_rows.specs.PrimitiveParts.{content, combination}
use Rattle.rob_rows.proofs.Contents.{content-take, content_stays_one}
use Rattle.rob_rows.proofs.Combinations.{length-combination}
use Rattle.rob_rows.proofs.Entries.{entry_seen}
use Rattle.rob_rows.proofs.general.content_of.Goals as goal

pub returns-then-value-eq1 : goal.returns-then-value-eq1
returns-then-value-eq1 c =
    let whole = combination c.args.factors.p c.args.top.now c.args.factors.q c.args.low.now in
    let k = c.loop-k.k in
    let fa : SFits w64 (get_or c.args.top.now k (pos 0)) = search rules in
    let fb : SFits w64 (get_or c.args.low.now k (pos 0)) = search rules in
    let fr : SFits w128 c.entry.result = search rules in
    let size : c.unsigned_abs.result ≡ nat_abs (get_or whole k (pos 0)) =
    c.unsigned_abs.ensures.value
    ∙ ap nat_abs
    (entry_seen c.args.factors.p c.args.top.now c.args.factors.q c.args.low.now k c.entry.result fa fb fr
    c.requires.lengths c.loop-k-test.true c.entry.ensures.value) in
    let next : c.common-common.result.value ≡ gcd (content (take k whole)) (nat_abs (get_or whole k (pos 0))) =
    c.common-common.ensures.common ∙ ap (λ t. gcd t c.unsigned_abs.result) c.loop-k.invariant
    ∙ ap (gcd (content (take k whole))) size in
    let one : c.common-common.result.value ≡ 1 = omega arith in
    let inside : k < length whole =
    let n : length whole ≡ length c.args.top.now =
    length-combination c.args.factors.p c.args.top.now c.args.factors.q c.args.low.now c.requires.lengths in
    omega arith in
    record { content = one ∙ content_stays_one whole k inside (sym next ∙ one) }

pub loop-k-preserved : goal.loop-k-preserved
loop-k-preserved c =
    let whole = combination c.args.factors.p c.args.top.now c.args.factors.q c.args.low.now in
    let k = c.loop-k.k in
    let fa : SFits w64 (get_or c.args.top.now k (pos 0)) = search rules in
    let fb : SFits w64 (get_or c.args.low.now k (pos 0)) = search rules in
    let fr : SFits w128 c.entry.result = search rules in
    let size : c.unsigned_abs.result ≡ nat_abs (get_or whole k (pos 0)) =
    c.unsigned_abs.ensures.value
    ∙ ap nat_abs
    (entry_seen c.args.factors.p c.args.top.now c.args.factors.q c.args.low.now k c.entry.result fa fb fr
    c.requires.lengths c.loop-k-test.true c.entry.ensures.value) in
    let inside : k < length whole =
    let n : length whole ≡ length c.args.top.now =
    length-combination c.args.factors.p c.args.top.now c.args.factors.q c.args.low.now c.requires.lengths in
    omega arith in
    c.common-common.ensures.common ∙ ap (λ t. gcd t c.unsigned_abs.result) c.loop-k.invariant
    ∙ ap (gcd (content (take k whole))) size
    ∙ sym (content-take whole k inside)

pub returns : goal.returns
returns c =
    let whole = combination c.args.factors.p c.args.top.now c.args.factors.q c.args.low.now in
    let n : length whole ≡ length c.args.top.now =
    length-combination c.args.factors.p c.args.top.now c.args.factors.q c.args.low.now c.requires.lengths in
    record { content = c.loop-k.invariant ∙ ap content (take_all c.loop-k.k whole (omega arith)) }
