use Rattle.std.proofs.Common.{map, arith, ◌∙◌, get_or, ap, length, refl}
use Rattle.std.specs.Result.{result_ok}
use Rattle.rob_check.specs.Scenario.{taken_place}
use Rattle.rob_check.specs.declared.verdict.Verdict.TheVariants.{Accepted}
use Rattle.rob_check.proofs.ScenarioLemmas.{number_fits, statement_goes, statement_stops}
use Rattle.rob_meaning.specs.WellFormed.{IsSetLine}
use Rattle.rob_model.proofs.PartLemmas.{each_at_map}
use Rattle.rob_model.specs.View.{robust, set_line_of}
use Rattle.rob_check.proofs.scenario.check_statements.Goals as goal

pub returns-in_default-clause-exact : goal.returns-in_default-clause-exact
returns-in_default-clause-exact g c =
    let value = g.N.Exact.value in
    let m = robust value c.args.model.now in
    statement_stops g.N.Exact.limit m (taken_place c.args.taken) (value c.args.point.base)
    (map value c.args.point.vector.now) value
    c.args.model.now.set_lines c.loop-line.line-index c.loop-line.index c.line-item.result
    (omega (arith, c.loop-line-test.true, ap length c.items-line-items.ensures.list))
    (c.line-item.is ∙ ap (λ xs. get_or xs c.loop-line.line-index c.line-item.result) c.items-line-items.ensures.list)
    c.place_of.result (result_ok c.holds-test.result) c.judge.result c.judge.ensures.exact
    c.place_of.ensures.place c.holds-test.ensures.exact c.in_default.not-Accepted
    ∙ c.loop-line.invariant.rest

pub loop-line-preserved : goal.loop-line-preserved
loop-line-preserved g c =
    let value = g.N.Exact.value in
    let m = robust value c.args.model.now in
    let some = c.loop-line-test.true in
    let same = ap length c.items-line-items.ensures.list in
    let here = c.line-item.is
    ∙ ap (λ xs. get_or xs c.loop-line.line-index c.line-item.result) c.items-line-items.ensures.list in
    record {
      rest =
          statement_goes g.N.Exact.limit m (taken_place c.args.taken) (value c.args.point.base)
          (map value c.args.point.vector.now) value
          c.args.model.now.set_lines c.loop-line.line-index c.loop-line.index c.line-item.result
          (omega (arith, some, same)) here
          c.place_of.result (result_ok c.holds-test.result) Accepted c.in-Accepted.ensures.exact
          c.place_of.ensures.place c.holds-test.ensures.exact refl
          ∙ c.loop-line.invariant.rest;
      lines = (each_at_map (IsSetLine m) (set_line_of value) c.args.model.now.set_lines
          c.loop-line.line-index c.line-item.result
          (omega (arith, some, same)) here c.loop-line.invariant.lines).1;
      number = omega (arith, c.loop-line.invariant.number);
      counted = record {
        ops = omega (arith, c.loop-line.invariant.counted.ops, c.holds-test.ensures.counted.ops);
        wides = omega (arith, c.loop-line.invariant.counted.wides, c.holds-test.ensures.counted.told.never_fell);
      };
    }

pub overflow_add-index : goal.overflow_add-index
overflow_add-index g c =
    number_fits c.requires.valid c.items-line-items.ensures.list c.requires.small c.loop-line.invariant.number
    c.loop-line-test.true

pub holds-test-requires-clause-few : goal.holds-test-requires-clause-few
holds-test-requires-clause-few g c = c.requires.valid.limits.columns

pub holds-test-requires-clause-line : goal.holds-test-requires-clause-line
holds-test-requires-clause-line g c =
    let m = robust g.N.Exact.value c.args.model.now in
    (each_at_map (IsSetLine m) (set_line_of g.N.Exact.value) c.args.model.now.set_lines c.loop-line.line-index
    c.line-item.result (omega (arith, c.loop-line-test.true, ap length c.items-line-items.ensures.list))
    (c.line-item.is ∙ ap (λ xs. get_or xs c.loop-line.line-index c.line-item.result) c.items-line-items.ensures.list)
    c.loop-line.invariant.lines).0
