use Rattle.std.proofs.Common.{◌≡◌, ◌∙◌, ap, sym, arith, rules, pos, nat_abs, get_or, take}
use mir.Syntax.{w128}
use mir.Val.{SFits}
use Rattle.rob_algebra.specs.Gcd.{gcd}
use Rattle.rob_rows.specs.PrimitiveParts.{content}
use Rattle.rob_rows.proofs.Contents.{content-take, content_stays_one}
use Rattle.rob_deep.proofs.Words.{seen}
use Rattle.rob_deep.proofs.content.content_of.Goals as goal

pub returns-then-common-eq1 : goal.returns-then-common-eq1
returns-then-common-eq1 c =
    let row = c.args.row.now in
    let i = c.loop-entry.entry-index in
    let fits : SFits w128 (get_or row i (pos 0)) = search rules in
    let size : c.unsigned_abs.result ≡ nat_abs (get_or row i (pos 0)) =
    c.unsigned_abs.ensures.value ∙ ap nat_abs (seen (get_or row i (pos 0)) fits) in
    let next : c.gcd128-common.result ≡ gcd (content (take i row)) (nat_abs (get_or row i (pos 0))) =
    c.gcd128-common.ensures.divisor ∙ ap (λ t. gcd t c.unsigned_abs.result) c.loop-entry.invariant
    ∙ ap (gcd (content (take i row))) size in
    let one : c.gcd128-common.result ≡ 1 = omega arith in
    record { content = one ∙ content_stays_one row i c.loop-entry-test.true (sym next ∙ one) }

pub loop-entry-preserved : goal.loop-entry-preserved
loop-entry-preserved c =
    let row = c.args.row.now in
    let i = c.loop-entry.entry-index in
    let fits : SFits w128 (get_or row i (pos 0)) = search rules in
    let size : c.unsigned_abs.result ≡ nat_abs (get_or row i (pos 0)) =
    c.unsigned_abs.ensures.value ∙ ap nat_abs (seen (get_or row i (pos 0)) fits) in
    c.gcd128-common.ensures.divisor ∙ ap (λ t. gcd t c.unsigned_abs.result) c.loop-entry.invariant
    ∙ ap (gcd (content (take i row))) size
    ∙ sym (content-take row i c.loop-entry-test.true)
