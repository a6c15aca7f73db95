use Rattle.std.proofs.lemmas.Result.{err_from_is_err_and}
use Rattle.std.proofs.Common.{to_z-of_z, ap, ◌∙◌}
use Rattle.rob_algebra.specs.Fraction.{of_pair}
use Rattle.rob_algebra.specs.Width.{kept}
use Rattle.rob_number.proofs.AnswerLaws.{whole_not_refused, whole_answered}
use Rattle.rob_check.proofs.SumLemmas.{nothing_added, zero_bits, product_wide, product_added}
use Rattle.rob_check.proofs.sums.add_product.Goals as goal

pub returns-then-entry-eq0-clause-exact : goal.returns-then-entry-eq0-clause-exact
returns-then-entry-eq0-clause-exact g c =
    let value = g.N.Exact.value in
    nothing_added g.N.Exact.limit (value c.args.so_far) (value c.args.number) c.args.entry
    (zero_bits c.args.entry c.ranges.entry c.if-entry-eq0.true)
    g.met.N.Exact.limit_low (g.met.N.Exact.fits c.args.so_far)

pub returns-in_err-whole-clause-exact : goal.returns-in_err-whole-clause-exact
returns-in_err-whole-clause-exact g c =
    absurd (whole_not_refused g.N.Exact.limit c.args.entry g.met.N.Exact.limit_low c.requires.fits
    (c.in_err-whole.ensures.exact ∙ ap (λ z. kept g.N.Exact.limit (of_pair z 1)) (to_z-of_z c.ranges.entry)))

pub returns-in_err-product-clause-exact : goal.returns-in_err-product-clause-exact
returns-in_err-product-clause-exact g c =
    let value = g.N.Exact.value in
    let p = err_from_is_err_and c.from_residual-in_err-product.result c.from_residual-in_err-product.ensures.1 in
    rw p.1 (product_wide g.N.Exact.limit (value c.args.so_far) (value c.args.number)
    (value c.in_ok-whole.whole) c.args.entry
    (whole_answered g.N.Exact.limit c.args.entry g.met.N.Exact.limit_low c.requires.fits (value c.in_ok-whole.whole)
    (c.in_ok-whole.ensures.exact ∙ ap (λ z. kept g.N.Exact.limit (of_pair z 1)) (to_z-of_z c.ranges.entry)))
    c.in_err-product.ensures.exact)

pub returns-clause-exact : goal.returns-clause-exact
returns-clause-exact g c =
    let value = g.N.Exact.value in
    product_added g.N.Exact.limit (value c.args.so_far) (value c.args.number) (value c.in_ok-whole.whole) c.args.entry
    (whole_answered g.N.Exact.limit c.args.entry g.met.N.Exact.limit_low c.requires.fits (value c.in_ok-whole.whole)
    (c.in_ok-whole.ensures.exact ∙ ap (λ z. kept g.N.Exact.limit (of_pair z 1)) (to_z-of_z c.ranges.entry)))
    (value c.in_ok-product.product) _ c.in_ok-product.ensures.exact c.add.ensures.exact
