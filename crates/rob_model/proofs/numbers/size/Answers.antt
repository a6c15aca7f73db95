use Rattle.std.proofs.Common.{arith, ◌∙◌, subst, ℤ, pos, ◌<ℤ◌, ◌≤ℤ◌}
use Rattle.std.proofs.lemmas.Int.{ints}
use Rattle.rob_model.proofs.SmallLemmas.{size_of_negative, size_of_other}
use Rattle.rob_model.proofs.numbers.size.Goals as goal

pub returns-then-sign-lt0 : goal.returns-then-sign-lt0
returns-then-sign-lt0 g c =
    let below : c.sign.result <ℤ pos 0 = omega (arith, ints) in
    record {
      value = c.neg.ensures.negation
          ∙ size_of_negative (g.N.Exact.value c.args.number) (subst (λ (z : ℤ). z <ℤ pos 0) c.sign.ensures.sign below);
    }

pub returns-else-sign-lt0 : goal.returns-else-sign-lt0
returns-else-sign-lt0 g c =
    let other : pos 0 ≤ℤ c.sign.result = omega (arith, ints) in
    record {
      value = size_of_other (g.N.Exact.value c.args.number) (subst (λ (z : ℤ). pos 0 ≤ℤ z) c.sign.ensures.sign other);
    }
