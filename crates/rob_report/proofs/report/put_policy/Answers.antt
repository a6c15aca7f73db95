use Rattle.std.proofs.Common.{arith, map}
use Rattle.std.proofs.lemmas.Result.{on_ok_weaker}
use Rattle.rob_model.proofs.SmallLemmas.{at_map}
use Rattle.rob_model.specs.View.{adaptive_of, parameter_of}
use Rattle.rob_report.proofs.ReportLemmas.{policy_written}
use Rattle.rob_report.proofs.report.put_policy.Goals as goal

pub returns : goal.returns
returns g c =
    let value = g.N.Exact.value in
    let plan = map value c.args.plan.now in
    let ps = map (parameter_of value) c.args.params.now in
    record {
      appended = on_ok_weaker c.push-4.result
          (policy_written value plan ps c.args.column (adaptive_of value c.args.rule.now) c.bytes.result.now
          (value c.index-plan-column.result) c.items.result.now
          c.args.out.now _ _ _ _ _ _
          c.bytes.ensures.list
          (at_map value c.args.plan.now c.args.column c.index-plan-column.result
          (omega (arith, c.requires.columns)) c.index-plan-column.is)
          c.items.ensures.list
          c.in_ok-push.ensures.appended c.in_ok-push-2.ensures.appended c.in_ok-push-3.ensures.appended
          c.in_ok-put_number.ensures.appended c.in_ok-put_coefficients.ensures.appended)
          c.push-4.ensures.appended;
    }
