use Rattle.std.proofs.lemmas.Result.{err_from_is_err_and}
use Rattle.std.proofs.Common.{arith, ◌+◌, map, ap, ap₂, sym, ◌∙◌}
use Rattle.std.specs.Prelude.{Some}
use Rattle.rob_model.proofs.ConditionLemmas.{bounds_left, few_declared, lower_stops, lower_fails, upper_stops, upper_fails, bounds_hold}
use Rattle.rob_model.proofs.bounds.broken_bound.Goals as goal

pub returns-in_err-keeps_lower-clause-exact : goal.returns-in_err-keeps_lower-clause-exact
returns-in_err-keeps_lower-clause-exact g c m =
    let value = g.N.Exact.value in
    let p = err_from_is_err_and c.from_residual.result c.from_residual.ensures.1 in
    rw p.1 (lower_stops g.N.Exact.limit m (value c.args.base) (map value c.args.vector.now) value c.args.params.now
    c.loop-k.k c.loop-k.index
    c.index-params-k.result c.loop-k-test.true c.index-params-k.is (c.in_err-keeps_lower.ensures.exact m)
    ∙ c.loop-k.invariant.rest m)

pub returns-then-not-branch-clause-exact : goal.returns-then-not-branch-clause-exact
returns-then-not-branch-clause-exact g c m =
    let value = g.N.Exact.value in
    lower_fails g.N.Exact.limit m (value c.args.base) (map value c.args.vector.now) value c.args.params.now
    c.loop-k.k c.loop-k.index
    c.index-params-k.result c.loop-k-test.true c.index-params-k.is
    (ap Some (sym c.if-not-branch.true) ∙ c.in_ok-keeps_lower.ensures.exact m)
    ∙ c.loop-k.invariant.rest m

pub returns-in_err-keeps_upper-clause-exact : goal.returns-in_err-keeps_upper-clause-exact
returns-in_err-keeps_upper-clause-exact g c m =
    let value = g.N.Exact.value in
    let p = err_from_is_err_and c.from_residual-in_err-keeps_upper.result
    c.from_residual-in_err-keeps_upper.ensures.1 in
    rw p.1 (upper_stops g.N.Exact.limit m (value c.args.base) (map value c.args.vector.now) value c.args.params.now
    c.loop-k.k c.loop-k.index
    c.index-params-k.result c.loop-k-test.true c.index-params-k.is
    (ap Some (sym c.if-not-branch.false) ∙ c.in_ok-keeps_lower.ensures.exact m)
    (c.in_err-keeps_upper.ensures.exact m)
    ∙ c.loop-k.invariant.rest m)

pub returns-then-not-branch-2-clause-exact : goal.returns-then-not-branch-2-clause-exact
returns-then-not-branch-2-clause-exact g c m =
    let value = g.N.Exact.value in
    ap (λ n. Some (Some (c.loop-k.index + n))) c.declared.ensures.count
    ∙ upper_fails g.N.Exact.limit m (value c.args.base) (map value c.args.vector.now) value c.args.params.now
    c.loop-k.k c.loop-k.index
    c.index-params-k.result c.loop-k-test.true c.index-params-k.is
    (ap Some (sym c.if-not-branch.false) ∙ c.in_ok-keeps_lower.ensures.exact m)
    (ap Some (sym c.if-not-branch-2.true) ∙ c.in_ok-keeps_upper.ensures.exact m)
    ∙ c.loop-k.invariant.rest m

pub loop-k-preserved : goal.loop-k-preserved
loop-k-preserved g c =
    let value = g.N.Exact.value in
    let d = c.index-params-k.result in
    record {
      rest = λ m.
          ap₂ (λ a b. bounds_left g.N.Exact.limit m (value c.args.base) (map value c.args.vector.now) value
          c.args.params.now (c.loop-k.k + 1) (c.loop-k.index + a + b))
          c.declared.ensures.count c.declared-in-loop-k.ensures.count
          ∙ bounds_hold g.N.Exact.limit m (value c.args.base) (map value c.args.vector.now) value c.args.params.now
          c.loop-k.k c.loop-k.index
          d c.loop-k-test.true c.index-params-k.is
          (ap Some (sym c.if-not-branch.false) ∙ c.in_ok-keeps_lower.ensures.exact m)
          (ap Some (sym c.if-not-branch-2.false) ∙ c.in_ok-keeps_upper.ensures.exact m)
          ∙ c.loop-k.invariant.rest m;
      small = omega (
        arith,
        c.loop-k.invariant.small,
        c.declared.ensures.count,
        c.declared-in-loop-k.ensures.count,
        few_declared d.lower,
        few_declared d.upper,
      );
      counted = record {
        ops = omega (
          arith,
          c.loop-k.invariant.counted.ops,
          c.in_ok-keeps_lower.ensures.counted.ops,
          c.in_ok-keeps_upper.ensures.counted.ops,
        );
        wides = omega (
          arith,
          c.loop-k.invariant.counted.wides,
          c.in_ok-keeps_lower.ensures.counted.told.never_fell,
          c.in_ok-keeps_upper.ensures.counted.told.never_fell,
        );
      };
    }
