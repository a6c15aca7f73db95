use Rattle.std.proofs.lemmas.Result.{err_from_is_err_and}
use Rattle.std.proofs.Common.{arith, map, ◌∙◌}
use Rattle.std.specs.Prelude.{Some, None}
use Rattle.rob_model.specs.View.{robust}
use Rattle.rob_model.proofs.PartLemmas.{sum_stops, sum_goes, product_goes, terms_inside, factors_inside}
use Rattle.rob_model.proofs.value.+evaluate.Goals as goal

pub sum-returns-in_err-part-clause-exact : goal.sum-returns-in_err-part-clause-exact
sum-returns-in_err-part-clause-exact g t c =
    let value = g.N.Exact.value in
    let p = err_from_is_err_and c.from_residual.result c.from_residual.ensures.1 in
    rw p.1 (sum_stops value g.N.Exact.limit (robust value c.args.model.now) (map value c.args.columns.now)
    (map value c.args.values.now)
    c.args.terms.now c.loop-term.term-index c.term-item.result (value c.loop-term.so_far) c.loop-term-test.true
    c.term-item.is c.in_err-part.ensures.exact
    ∙ c.loop-term.invariant.rest)

pub sum-returns-in_err-so_far-clause-exact : goal.sum-returns-in_err-so_far-clause-exact
sum-returns-in_err-so_far-clause-exact g t c =
    let value = g.N.Exact.value in
    let p = err_from_is_err_and c.from_residual-in_err-so_far.result c.from_residual-in_err-so_far.ensures.1 in
    rw p.1 (sum_goes value g.N.Exact.limit (robust value c.args.model.now) (map value c.args.columns.now)
    (map value c.args.values.now)
    c.args.terms.now c.loop-term.term-index c.term-item.result (value c.loop-term.so_far) (value c.in_ok-part.part) None
    c.loop-term-test.true c.term-item.is
    c.in_ok-part.ensures.exact c.in_err-so_far.ensures.exact
    ∙ c.loop-term.invariant.rest)

pub sum-loop-term-preserved : goal.sum-loop-term-preserved
sum-loop-term-preserved g t c =
    let value = g.N.Exact.value in
    let m = robust value c.args.model.now in
    record {
      rest = sum_goes value g.N.Exact.limit m (map value c.args.columns.now) (map value c.args.values.now)
          c.args.terms.now c.loop-term.term-index c.term-item.result (value c.loop-term.so_far)
          (value c.in_ok-part.part) (Some (value c.in_ok-so_far.so_far))
          c.loop-term-test.true c.term-item.is c.in_ok-part.ensures.exact c.in_ok-so_far.ensures.exact
          ∙ c.loop-term.invariant.rest;
      inside = (terms_inside value m c.args.terms.now c.loop-term.term-index c.term-item.result c.loop-term-test.true
          c.term-item.is c.loop-term.invariant.inside).1;
      counted = record {
        ops = omega (
          arith,
          c.loop-term.invariant.counted.ops,
          c.in_ok-part.ensures.counted.ops,
          c.in_ok-so_far.ensures.counted.ops,
        );
        wides = omega (
          arith,
          c.loop-term.invariant.counted.wides,
          c.in_ok-part.ensures.counted.told.never_fell,
          c.in_ok-so_far.ensures.counted.told.never_fell,
        );
      };
    }

pub product-returns-in_err-so_far-clause-exact : goal.product-returns-in_err-so_far-clause-exact
product-returns-in_err-so_far-clause-exact g t c =
    let value = g.N.Exact.value in
    let p = err_from_is_err_and c.from_residual-in_err-so_far.result c.from_residual-in_err-so_far.ensures.1 in
    rw p.1 (product_goes value g.N.Exact.limit (robust value c.args.model.now) (map value c.args.columns.now)
    (map value c.args.values.now)
    c.args.factors.now c.loop-factor.factor-index c.factor-item.result (value c.loop-factor.so_far)
    (value c.in_ok-part.part) None c.loop-factor-test.true c.factor-item.is
    c.in_ok-part.ensures.exact c.in_err-so_far.ensures.exact
    ∙ c.loop-factor.invariant.rest)

pub product-loop-factor-preserved : goal.product-loop-factor-preserved
product-loop-factor-preserved g t c =
    let value = g.N.Exact.value in
    let m = robust value c.args.model.now in
    record {
      rest = product_goes value g.N.Exact.limit m (map value c.args.columns.now) (map value c.args.values.now)
          c.args.factors.now c.loop-factor.factor-index c.factor-item.result (value c.loop-factor.so_far)
          (value c.in_ok-part.part) (Some (value c.in_ok-so_far.so_far))
          c.loop-factor-test.true c.factor-item.is c.in_ok-part.ensures.exact c.in_ok-so_far.ensures.exact
          ∙ c.loop-factor.invariant.rest;
      inside = (factors_inside value m c.args.factors.now c.loop-factor.factor-index c.factor-item.result
          c.loop-factor-test.true c.factor-item.is c.loop-factor.invariant.inside).1;
      counted = record {
        ops = omega (
          arith,
          c.loop-factor.invariant.counted.ops,
          c.in_ok-part.ensures.counted.ops,
          c.in_ok-so_far.ensures.counted.ops,
        );
        wides = omega (
          arith,
          c.loop-factor.invariant.counted.wides,
          c.in_ok-part.ensures.counted.told.never_fell,
          c.in_ok-so_far.ensures.counted.wides,
        );
      };
    }
