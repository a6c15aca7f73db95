use Rattle.std.proofs.Common.{◌≡◌, List, length, get_or, arith, map, ap, subst, ◌∙◌}
use Rattle.rob_check.specs.Scenario.{taken_place}
use Rattle.rob_meaning.specs.SetConditions.{all_stated}
use Rattle.rob_model.specs.View.{robust, set_line_of}
use Rattle.rob_model.specs.declared.model.Param.{Param}
use Rattle.rob_model.proofs.ConditionLemmas.{few_declared}
use Rattle.rob_check.proofs.ScenarioLemmas.{declared_fits, index_fits, index_small, parameter_goes, parameter_stops, parameters_end}
use Rattle.rob_check.proofs.SumLemmas.{counted_later}
use Rattle.rob_check.proofs.scenario.check_vector.Goals as goal

pub returns-in_default-clause-exact : goal.returns-in_default-clause-exact
returns-in_default-clause-exact g c =
    let value = g.N.Exact.value in
    let m = robust value c.args.model.now in
    let d = c.param-item.result in
    parameter_stops g.N.Exact.limit m (taken_place c.args.taken) (value c.args.base) (map value c.args.vector.now) value
    c.args.model.now.params c.loop-k.k c.loop-k.index
    d (all_stated (map (set_line_of value) c.args.model.now.set_lines))
    (omega (arith, c.loop-k-test.true, ap length c.items-param-items.ensures.list))
    (subst (λ (ps : List (Param g.row.N.Denot)). d ≡ get_or ps c.loop-k.k d)
    c.items-param-items.ensures.list c.param-item.is)
    c.check_bounds.result c.in_default.not-Accepted (c.check_bounds.ensures.exact m)
    ∙ c.loop-k.invariant.rest

pub loop-k-preserved : goal.loop-k-preserved
loop-k-preserved g c =
    let value = g.N.Exact.value in
    let m = robust value c.args.model.now in
    let d = c.param-item.result in
    record {
      rest = parameter_goes g.N.Exact.limit m (taken_place c.args.taken) (value c.args.base)
          (map value c.args.vector.now) value c.args.model.now.params c.loop-k.k c.loop-k.index
          d (all_stated (map (set_line_of value) c.args.model.now.set_lines))
          (omega (arith, c.loop-k-test.true, ap length c.items-param-items.ensures.list))
          (subst (λ (ps : List (Param g.row.N.Denot)). d ≡ get_or ps c.loop-k.k d)
          c.items-param-items.ensures.list c.param-item.is)
          (c.in-Accepted.ensures.exact m) c.declared.result c.declared-in-loop-k.result c.declared.ensures.count
          c.declared-in-loop-k.ensures.count
          ∙ c.loop-k.invariant.rest;
      small = omega (
        arith,
        c.loop-k.invariant.small,
        c.declared.ensures.count,
        c.declared-in-loop-k.ensures.count,
        few_declared d.lower,
        few_declared d.upper,
      );
      counted = record {
        ops = omega (arith, c.loop-k.invariant.counted.ops, c.in-Accepted.ensures.counted.ops);
        wides = omega (arith, c.loop-k.invariant.counted.wides, c.in-Accepted.ensures.counted.wides);
      };
    }

pub overflow_add-index : goal.overflow_add-index
overflow_add-index g c =
    declared_fits c.param-item.result.lower c.param-item.result.upper c.declared.ensures.count
    c.declared-in-loop-k.ensures.count

pub overflow_add-index-in-loop-k : goal.overflow_add-index-in-loop-k
overflow_add-index-in-loop-k g c =
    index_fits c.requires.valid c.items-param-items.ensures.list c.loop-k.invariant.small
    (omega (arith, c.loop-k-test.true)) c.param-item.result.lower c.param-item.result.upper c.declared.ensures.count
    c.declared-in-loop-k.ensures.count

pub check_bounds-requires : goal.check_bounds-requires
check_bounds-requires g c = record {
  small = index_small c.requires.valid c.items-param-items.ensures.list c.loop-k.invariant.small
      (omega (arith, c.loop-k-test.true));
}

pub check_statements-requires-clause-small : goal.check_statements-requires-clause-small
check_statements-requires-clause-small g c =
    index_small c.requires.valid c.items-param-items.ensures.list c.loop-k.invariant.small c.loop-k.auto.k-end

pub returns-in_default-clause-counted : goal.returns-in_default-clause-counted
returns-in_default-clause-counted g c = counted_later c.loop-k.invariant.counted c.check_bounds.ensures.counted

pub returns-clause-exact : goal.returns-clause-exact
returns-clause-exact g c =
    let value = g.N.Exact.value in
    c.check_statements.ensures.exact
    ∙ parameters_end g.N.Exact.limit (robust value c.args.model.now) (taken_place c.args.taken) (value c.args.base)
    (map value c.args.vector.now) value c.args.model.now.params c.loop-k.k c.loop-k.index
    (all_stated (map (set_line_of value) c.args.model.now.set_lines))
    (omega (arith, c.loop-k-test.false, ap length c.items-param-items.ensures.list)) ∙ c.loop-k.invariant.rest

pub returns-clause-counted : goal.returns-clause-counted
returns-clause-counted g c = counted_later c.loop-k.invariant.counted c.check_statements.ensures.counted
