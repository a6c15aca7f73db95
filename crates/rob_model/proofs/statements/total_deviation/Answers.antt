use Rattle.std.proofs.lemmas.Result.{err_from_is_err_and}
use Rattle.std.proofs.Common.{arith, map, ◌∙◌}
use Rattle.std.specs.Prelude.{None}
use Rattle.rob_meaning.specs.Places.{0ℚ}
use Rattle.rob_algebra.specs.Fraction.{◌<ℚ◌}
use Rattle.rob_model.specs.declared.model.Member.{Member}
use Rattle.rob_model.proofs.PartLemmas.{each_at}
use Rattle.rob_model.proofs.ConditionLemmas.{total_left, total_stops, total_goes, total_goes_on, total_ends}
use Rattle.rob_model.proofs.statements.total_deviation.Goals as goal

pub returns-in_err-part-clause-exact : goal.returns-in_err-part-clause-exact
returns-in_err-part-clause-exact g c m =
    let value = g.N.Exact.value in
    let p = err_from_is_err_and c.from_residual.result c.from_residual.ensures.1 in
    rw p.1 (total_stops g.N.Exact.limit m (value c.args.base) (map value c.args.vector.now) value c.args.members.now
    c.loop-member.member-index (value c.loop-member.sum)
    c.member-item.result c.loop-member-test.true c.member-item.is (c.in_err-part.ensures.exact m)
    ∙ c.loop-member.invariant.rest m)

pub returns-in_err-sum-clause-exact : goal.returns-in_err-sum-clause-exact
returns-in_err-sum-clause-exact g c m =
    let value = g.N.Exact.value in
    let p = err_from_is_err_and c.from_residual-in_err-sum.result c.from_residual-in_err-sum.ensures.1 in
    rw p.1 (total_goes g.N.Exact.limit m (value c.args.base) (map value c.args.vector.now) value c.args.members.now
    c.loop-member.member-index (value c.loop-member.sum)
    c.member-item.result c.loop-member-test.true c.member-item.is (value c.in_ok-part.part) None
    (c.in_ok-part.ensures.exact m) c.in_err-sum.ensures.exact
    ∙ c.loop-member.invariant.rest m)

pub loop-member-preserved : goal.loop-member-preserved
loop-member-preserved g c =
    let value = g.N.Exact.value in
    record {
      rest = λ m. total_goes_on g.N.Exact.limit m (value c.args.base) (map value c.args.vector.now) value
          c.args.members.now c.loop-member.member-index (value c.loop-member.sum)
          c.member-item.result c.loop-member-test.true c.member-item.is (value c.in_ok-part.part)
          (value c.in_ok-sum.sum) (c.in_ok-part.ensures.exact m) c.in_ok-sum.ensures.exact
          (total_left g.N.Exact.limit m (value c.args.base) (map value c.args.vector.now) value c.args.members.now 0 0ℚ)
          (c.loop-member.invariant.rest m);
      positive = (each_at (λ (h : Member g.row.N.Denot). 0ℚ <ℚ value h.deviation) c.args.members.now
          c.loop-member.member-index c.member-item.result c.loop-member-test.true c.member-item.is
          c.loop-member.invariant.positive).1;
      counted = record {
        ops = omega (
          arith,
          c.loop-member.invariant.counted.ops,
          c.in_ok-part.ensures.counted.ops,
          c.in_ok-sum.ensures.counted.ops,
        );
        wides = omega (
          arith,
          c.loop-member.invariant.counted.wides,
          c.in_ok-part.ensures.counted.told.never_fell,
          c.in_ok-sum.ensures.counted.wides,
        );
      };
    }

pub returns-clause-exact : goal.returns-clause-exact
returns-clause-exact g c m =
    let value = g.N.Exact.value in
    total_ends g.N.Exact.limit m (value c.args.base) (map value c.args.vector.now) value c.args.members.now
    c.loop-member.member-index (value c.loop-member.sum) c.loop-member-test.false
    ∙ c.loop-member.invariant.rest m
