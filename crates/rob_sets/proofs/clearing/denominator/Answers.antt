use Rattle.std.proofs.Common.{arith}
use Rattle.std.specs.Prelude.{[], refl}
use Rattle.rob_algebra.specs.Fraction.{den_pos}
use Rattle.rob_meaning.proofs.Tables.ClearingLemmas.{lcm_pos}
use Rattle.rob_sets.proofs.WholeRows.ClearingSteps.{common_all, common_more, common_wide}
use Rattle.rob_sets.proofs.clearing.denominator.Goals as goal

pub loop-q-init : goal.loop-q-init
loop-q-init g c = record { least = refl; positive = omega arith; within = g.met.N.Exact.limit_low }

pub with_number-requires : goal.with_number-requires
with_number-requires g c = record { positive = c.loop-q.invariant.positive }

pub returns-in-None : goal.returns-in-None
returns-in-None g c = record {
  least = common_wide g.N.Exact.value [] c.args.numbers.now c.loop-q.q-index c.q-item.result c.loop-q.least
      g.N.Exact.limit c.loop-q-test.true c.q-item.is c.loop-q.invariant.least c.in-None.ensures.multiple;
}

pub loop-q-preserved : goal.loop-q-preserved
loop-q-preserved g c =
    let value = g.N.Exact.value in
    let q = c.q-item.result in
    record {
      least = common_more value [] c.args.numbers.now c.loop-q.q-index q c.loop-q.least c.in-Some.multiple
          c.loop-q-test.true c.q-item.is c.loop-q.invariant.least c.in-Some.ensures.multiple.0;
      positive = omega (
        arith,
        c.in-Some.ensures.multiple.0,
        lcm_pos (value q).den c.loop-q.least (den_pos (value q)) c.loop-q.invariant.positive,
      );
      within = c.in-Some.ensures.multiple.1;
    }

pub returns : goal.returns
returns g c = record {
  least = (
    common_all g.N.Exact.value [] c.args.numbers.now c.loop-q.q-index c.loop-q.least c.loop-q-test.false
        c.loop-q.invariant.least,
    c.loop-q.invariant.within,
  );
}
