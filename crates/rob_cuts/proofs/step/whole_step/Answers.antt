use Rattle.std.proofs.Common.{◌≡◌, map, length, ap, sym, ◌∙◌, subst, arith}
use Rattle.std.proofs.lemmas.List.{length-map}
use Rattle.rob_algebra.specs.Fraction.{◌*ℚ◌}
use Rattle.rob_algebra.specs.Width.{IsWide}
use Rattle.rob_meaning.specs.Places.{at}
use Rattle.rob_dualize.proofs.ReadingLemmas.{told_is}
use Rattle.rob_dualize.proofs.TabulateLemmas.{row_more}
use Rattle.rob_cuts.proofs.step.whole_step.Goals as goal

pub loop-j-preserved : goal.loop-j-preserved
loop-j-preserved g c =
    let value = g.N.Exact.value in
    row_more value c.loop-j.columns c.push.new.self c.in-Some.number c.loop-j.j
    (λ j. value c.args.scale *ℚ at (map value c.args.step.now) j)
    c.loop-j.invariant c.in_ok-push.ensures.appended
    (c.in-Some.ensures.product
    ∙ ap (λ v. value c.args.scale *ℚ v) (sym (told_is value c.args.step.now c.loop-j.j c.index-step-j.result
    (omega (arith, c.loop-j-test.true, c.requires.size)) c.index-step-j.is)))

pub returns-in_default-clause-wide : goal.returns-in_default-clause-wide
returns-in_default-clause-wide g c =
    let value = g.N.Exact.value in
    let n : length (map g.N.Exact.value c.args.step.now) ≡ length c.args.step.now =
    length-map c.args.step.now g.N.Exact.value in (
      c.loop-j.j,
      omega (arith, c.loop-j-test.true, c.requires.size),
      subst (IsWide g.N.Exact.limit)
          (ap (λ v. value c.args.scale *ℚ v) (sym (told_is value c.args.step.now c.loop-j.j c.index-step-j.result
          (omega (arith, c.loop-j-test.true, c.requires.size)) c.index-step-j.is)))
          c.in_default.ensures.product,
    )

pub returns-in-Some-product-clause-bound : goal.returns-in-Some-product-clause-bound
returns-in-Some-product-clause-bound g c =
    let value = g.N.Exact.value in
    c.in-Some-product.ensures.product
    ∙ ap (λ v. value c.args.scale *ℚ v) (sym (told_is value c.args.step.now c.args.decisions
    c.index-step-decisions.result (omega (arith, c.requires.size)) c.index-step-decisions.is))

pub returns-in-None-clause-wide : goal.returns-in-None-clause-wide
returns-in-None-clause-wide g c =
    let value = g.N.Exact.value in
    let n : length (map g.N.Exact.value c.args.step.now) ≡ length c.args.step.now =
    length-map c.args.step.now g.N.Exact.value in (
      c.args.decisions,
      omega (arith, c.requires.size),
      subst (IsWide g.N.Exact.limit)
          (ap (λ v. value c.args.scale *ℚ v) (sym (told_is value c.args.step.now c.args.decisions
          c.index-step-decisions.result (omega (arith, c.requires.size)) c.index-step-decisions.is)))
          c.in-None.ensures.product,
    )
