use Rattle.rob_model.specs.View.{robust}
use Rattle.rob_report.proofs.PlaceAnswers.{sum_last}
use Rattle.rob_report.proofs.places.put_sum.Goals as goal

pub returns : goal.returns
returns g c = record {
  appended = sum_last (robust g.N.Exact.value c.args.model.now) c.args.form c.args.column c.put_set_column.result
      c.args.out.now c.put_form.new.out
      c.push-2.new.self c.put_set_column.new.out c.if-column-eq0.false c.in_ok-put_form.ensures.appended
      c.in_ok-push.ensures.appended c.put_set_column.ensures.appended;
}
