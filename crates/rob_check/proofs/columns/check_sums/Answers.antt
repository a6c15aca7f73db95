use Rattle.std.proofs.Common.{◌≡◌, arith, map, ap, suc, ◌+◌, ◌-◌, ◌++◌, ◌∷◌, [], ◌∙◌, refl}
use Rattle.std.specs.Prelude.{option_map}
use Rattle.std.specs.Result.{result_ok}
use Rattle.rob_cert.specs.View.{item_of}
use Rattle.rob_check.specs.Conditions.{sum_test}
use Rattle.rob_check.specs.Sums.{numbers_from}
use Rattle.rob_check.specs.Verdicts.{verdict}
use Rattle.rob_model.specs.View.{sense_of}
use Rattle.rob_model.specs.declared.place.Place.TheVariants as At
use Rattle.rob_check.proofs.VerdictLemmas.{judged_is, column_stops, column_goes}
use Rattle.rob_check.proofs.columns.check_sums.Goals as goal

pub loop-column-init : goal.loop-column-init
loop-column-init g c =
    let value = g.N.Exact.value in
    let test = sum_test g.N.Exact.limit c.args.forms.now.matrices (sense_of c.args.forms.now.sense)
    c.args.forms.now.columns (option_map value c.args.value) (map (item_of value) c.args.items.now) in
    record {
      rest = ap (λ n. verdict (map test (numbers_from 1 n) ++ test 0 ∷ []))
          (let e : (c.args.forms.now.columns + 2) - 1 ≡ suc c.args.forms.now.columns = omega arith in e);
      counted = record { ops = omega arith; wides = omega arith };
    }

pub returns-in_default-clause-exact : goal.returns-in_default-clause-exact
returns-in_default-clause-exact g c =
    let value = g.N.Exact.value in
    let test = sum_test g.N.Exact.limit c.args.forms.now.matrices (sense_of c.args.forms.now.sense)
    c.args.forms.now.columns (option_map value c.args.value) (map (item_of value) c.args.items.now) in
    column_stops test (test 0) c.loop-column.column (c.args.forms.now.columns + 2) c.judge.result
    c.loop-column-test.true c.in_default.not-Accepted
    (judged_is (At.Sum c.loop-column.column) (At.Sum c.loop-column.column) (result_ok c.sum_holds-test.result)
    (test c.loop-column.column).holds
    c.judge.result c.judge.ensures.exact refl c.sum_holds-test.ensures.exact)
    ∙ c.loop-column.invariant.rest

pub loop-column-preserved : goal.loop-column-preserved
loop-column-preserved g c =
    let value = g.N.Exact.value in
    let test = sum_test g.N.Exact.limit c.args.forms.now.matrices (sense_of c.args.forms.now.sense)
    c.args.forms.now.columns (option_map value c.args.value) (map (item_of value) c.args.items.now) in
    record {
      rest = column_goes test (test 0) c.loop-column.column (c.args.forms.now.columns + 2) c.loop-column-test.true
          (judged_is (At.Sum c.loop-column.column) (At.Sum c.loop-column.column) (result_ok c.sum_holds-test.result)
          (test c.loop-column.column).holds
          _ c.in-Accepted.ensures.exact refl c.sum_holds-test.ensures.exact)
          ∙ c.loop-column.invariant.rest;
      counted = record {
        ops = omega (arith, c.loop-column.invariant.counted.ops, c.sum_holds-test.ensures.counted.ops);
        wides = omega (arith, c.loop-column.invariant.counted.wides, c.sum_holds-test.ensures.counted.told.never_fell);
      };
    }
