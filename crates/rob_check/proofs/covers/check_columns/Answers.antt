use Rattle.std.proofs.Common.{arith, map, ap, suc, add-one, ◌∙◌}
use Rattle.std.specs.Result.{result_ok}
use Rattle.rob_cert.specs.View.{cover_of}
use Rattle.rob_check.specs.Covers.{column_test, constant_test, cover_place}
use Rattle.rob_check.specs.LiftedSet.{lifted_of}
use Rattle.rob_check.specs.View.{covering_of}
use Rattle.rob_meaning.specs.Clearing.{fractions}
use Rattle.rob_check.proofs.VerdictLemmas.{judged_is, column_stops, column_goes, columns_end}
use Rattle.rob_check.proofs.covers.check_columns.Goals as goal

pub returns-in_default-clause-exact : goal.returns-in_default-clause-exact
returns-in_default-clause-exact g c =
    let value = g.N.Exact.value in
    let cover = covering_of value c.args.covering.now in
    let mine = map (cover_of value) c.args.mine.now in
    let test = column_test g.N.Exact.limit (lifted_of c.args.set.now) cover c.args.index
    (fractions c.args.form.now) mine in
    let last = constant_test g.N.Exact.limit (lifted_of c.args.set.now) cover c.args.index
    (fractions c.args.form.now) mine in
    column_stops test last c.loop-column.column c.args.set.now.columns c.judge.result c.loop-column-test.true
    c.in_default.not-Accepted
    (judged_is c.sum_at.result (cover_place c.args.covering.now.covered c.args.index (suc c.loop-column.column))
    (result_ok c.column_holds-test.result) (test c.loop-column.column).holds
    c.judge.result c.judge.ensures.exact
    (c.sum_at.ensures.place
    ∙ ap (cover_place c.args.covering.now.covered c.args.index) (add-one c.loop-column.column))
    (c.column_holds-test.ensures.exact c.args.index))
    ∙ c.loop-column.invariant.rest

pub loop-column-preserved : goal.loop-column-preserved
loop-column-preserved g c =
    let value = g.N.Exact.value in
    let cover = covering_of value c.args.covering.now in
    let mine = map (cover_of value) c.args.mine.now in
    let test = column_test g.N.Exact.limit (lifted_of c.args.set.now) cover c.args.index
    (fractions c.args.form.now) mine in
    let last = constant_test g.N.Exact.limit (lifted_of c.args.set.now) cover c.args.index
    (fractions c.args.form.now) mine in
    record {
      rest = column_goes test last c.loop-column.column c.args.set.now.columns c.loop-column-test.true
          (judged_is c.sum_at.result (cover_place c.args.covering.now.covered c.args.index (suc c.loop-column.column))
          (result_ok c.column_holds-test.result) (test c.loop-column.column).holds
          _ c.in-Accepted.ensures.exact (c.sum_at.ensures.place
          ∙ ap (cover_place c.args.covering.now.covered c.args.index) (add-one c.loop-column.column))
          (c.column_holds-test.ensures.exact c.args.index))
          ∙ c.loop-column.invariant.rest;
      counted = record {
        ops = omega (arith, c.loop-column.invariant.counted.ops, c.column_holds-test.ensures.counted.ops);
        wides = omega (
          arith,
          c.loop-column.invariant.counted.wides,
          c.column_holds-test.ensures.counted.told.never_fell,
        );
      };
    }

pub returns-clause-exact : goal.returns-clause-exact
returns-clause-exact g c =
    let value = g.N.Exact.value in
    let cover = covering_of value c.args.covering.now in
    let mine = map (cover_of value) c.args.mine.now in
    let test = column_test g.N.Exact.limit (lifted_of c.args.set.now) cover c.args.index
    (fractions c.args.form.now) mine in
    let last = constant_test g.N.Exact.limit (lifted_of c.args.set.now) cover c.args.index
    (fractions c.args.form.now) mine in
    judged_is c.sum_at-2.result (cover_place c.args.covering.now.covered c.args.index 0)
    (result_ok c.constant_holds-test.result) last.holds
    c.judge-2.result c.judge-2.ensures.exact c.sum_at-2.ensures.place (c.constant_holds-test.ensures.exact c.args.index)
    ∙ columns_end test last c.loop-column.column c.args.set.now.columns c.loop-column-test.false
    ∙ c.loop-column.invariant.rest
