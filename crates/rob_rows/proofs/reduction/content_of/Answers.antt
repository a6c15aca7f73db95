use Rattle.std.proofs.Common.{◌≡◌, ◌∙◌, ap, sym, arith, rules, pos, nat_abs, get_or, take, to_z}
use mir.Syntax.{w64}
use mir.Val.{SFits}
use Rattle.rob_algebra.specs.Gcd.{gcd, gcd-zero}
use Rattle.rob_rows.specs.PrimitiveParts.{content}
use Rattle.rob_rows.proofs.Contents.{content-take, content_stays_one}
use Rattle.rob_rows.proofs.Reductions.{seen}
use Rattle.rob_rows.proofs.reduction.content_of.Goals as goal

pub loop-entry-preserved-then-entry-eq0 : goal.loop-entry-preserved-then-entry-eq0
loop-entry-preserved-then-entry-eq0 c =
    let row = c.args.row.now in
    let i = c.loop-entry.entry-index in
    let fits : SFits w64 (get_or c.args.row.now c.loop-entry.entry-index (pos 0)) = search rules in
    let none : nat_abs (get_or c.args.row.now c.loop-entry.entry-index (pos 0)) ≡ 0 =
    ap nat_abs (sym (seen (get_or row i (pos 0)) fits) ∙ ap (to_z w64) c.if-entry-eq0.true) in
    c.loop-entry.invariant
    ∙ sym (content-take row i c.loop-entry-test.true
    ∙ gcd-zero (content (take i row)) (nat_abs (get_or row i (pos 0))) none)

pub returns-then-value-eq1 : goal.returns-then-value-eq1
returns-then-value-eq1 c =
    let fits : SFits w64 (get_or c.args.row.now c.loop-entry.entry-index (pos 0)) = search rules in
    let size : c.unsigned_abs.result ≡ nat_abs (get_or c.args.row.now c.loop-entry.entry-index (pos 0)) =
    c.unsigned_abs.ensures.value ∙ ap nat_abs (seen (get_or c.args.row.now c.loop-entry.entry-index (pos 0)) fits) in
    let so_far : c.loop-entry.common.value ≡ content (take c.loop-entry.entry-index c.args.row.now) =
    c.loop-entry.invariant in
    let next : c.common-common.result.value
    ≡ gcd (content (take c.loop-entry.entry-index c.args.row.now))
    (nat_abs (get_or c.args.row.now c.loop-entry.entry-index (pos 0))) =
    c.common-common.ensures.common ∙ ap (λ t. gcd t c.unsigned_abs.result) so_far
    ∙ ap (gcd (content (take c.loop-entry.entry-index c.args.row.now))) size in
    let one : c.common-common.result.value ≡ 1 = omega arith in
    record {
      content = one
          ∙ content_stays_one c.args.row.now c.loop-entry.entry-index c.loop-entry-test.true (sym next ∙ one);
    }
