use Rattle.std.proofs.Common.{arith, ap, length, map, refl}
use Rattle.rob_model.specs.View.{parameter_of}
use Rattle.rob_report.proofs.ColumnLemmas.{next_columns}
use Rattle.rob_report.proofs.ReportLemmas.{policies_more}
use Rattle.rob_report.proofs.report.put_policies.Goals as goal

pub put_policy-requires : goal.put_policy-requires
put_policy-requires g c =
    let y = c.rule-item.result in
    record {
      columns = (next_columns g.N.Exact.value c.args.rules.now c.loop-rule.rule-index c.loop-rule.column (length y.on)
          (length c.args.plan.now) y y
          c.loop-rule-test.true c.rule-item.is refl c.loop-rule.invariant.columns).0;
    }

pub overflow_add-column-in-loop-rule : goal.overflow_add-column-in-loop-rule
overflow_add-column-in-loop-rule g c =
    let y = c.rule-item.result in
    let n = ap length c.items.ensures.list in
    let next = next_columns g.N.Exact.value c.args.rules.now c.loop-rule.rule-index c.loop-rule.column (length y.on)
    (length c.args.plan.now) y y
    c.loop-rule-test.true c.rule-item.is refl c.loop-rule.invariant.columns in
    omega (arith, n, next.0, c.requires.few)

pub loop-rule-preserved : goal.loop-rule-preserved
loop-rule-preserved g c =
    let y = c.rule-item.result in
    let n = ap length c.items.ensures.list in
    record {
      rest = policies_more g.N.Exact.value (map g.N.Exact.value c.args.plan.now)
          (map (parameter_of g.N.Exact.value) c.args.params.now) c.args.rules.now
          c.loop-rule.rule-index c.loop-rule.column (length c.items.result.now) y y
          c.loop-rule.out c.put_policy.new.out _
          c.loop-rule-test.true c.rule-item.is n c.in_ok-put_policy.ensures.appended c.loop-rule.invariant.rest;
      columns = (next_columns g.N.Exact.value c.args.rules.now c.loop-rule.rule-index c.loop-rule.column
          (length c.items.result.now) (length c.args.plan.now) y y
          c.loop-rule-test.true c.rule-item.is n c.loop-rule.invariant.columns).1;
    }
