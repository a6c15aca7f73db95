use Rattle.std.proofs.Common.{◌<◌, ◌^◌, arith, ap, ◌∙◌}
use Rattle.std.specs.Prelude.{nat_abs}
use Rattle.rob_number.proofs.CastLemmas.{seen}
use Rattle.rob_cert.proofs.Words.NumberLemmas.{spells_none, spells_some}
use Rattle.rob_cert.proofs.number.spells.Goals as goal

pub returns-in-None : goal.returns-in-None
returns-in-None g c =
    let small : nat_abs c.num.result < 2 ^ 62 = omega (arith, c.num.ensures.within, g.met.N.Exact.limit_high) in
    record {
      spells = (
        λ t. cc t,
        λ e. absurd
            (spells_none (g.N.Exact.value c.args.number) c.args.word.now _
            (seen c.num.result small ∙ c.num.ensures.numerator) c.in-None.ensures.found e),
      );
    }

pub returns-in-Some : goal.returns-in-Some
returns-in-Some g c =
    let small : nat_abs c.num.result < 2 ^ 62 = omega (arith, c.num.ensures.within, g.met.N.Exact.limit_high) in
    let small_den : nat_abs c.den.result < 2 ^ 62 = omega (arith, c.den.ensures.within, g.met.N.Exact.limit_high) in
    record {
      spells = spells_some (g.N.Exact.value c.args.number) c.args.word.now c.in-Some.rest.now _ _
          c.spells_denominator.result
          (seen c.num.result small ∙ c.num.ensures.numerator)
          (ap nat_abs (seen c.den.result small_den ∙ c.den.ensures.denominator))
          c.in-Some.ensures.found c.spells_denominator.ensures.spells;
    }
