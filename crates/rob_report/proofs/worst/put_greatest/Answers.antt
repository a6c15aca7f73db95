use Rattle.std.proofs.Common.{List, map, ap, ◌∙◌, ◌++◌}
use Rattle.std.proofs.lemmas.Result.{on_ok_weaker}
use Rattle.rob_cert.specs.Spelling.{number_text}
use Rattle.rob_model.specs.View.{parameter_of, robust}
use Rattle.rob_model.specs.declared.model.Param.{Param}
use Rattle.rob_report.specs.Spots.{form_name}
use Rattle.rob_report.specs.Worst.{at_lines}
use Rattle.rob_report.proofs.WorstLemmas.{greatest_written}
use Rattle.rob_report.proofs.worst.put_greatest.Goals as goal

pub returns : goal.returns
returns g c =
    let value = g.N.Exact.value in
    let m = robust value c.args.model.now in
    record {
      appended = on_ok_weaker c.put_entries.result
          (λ e. greatest_written c.args.out.now _ _ _ _ _ _ (form_name m c.args.form) (number_text (value c.args.slack))
          (at_lines (map value c.args.scenario.now) m.parameters)
          c.in_ok-push.ensures.appended c.in_ok-put_form.ensures.appended c.in_ok-push-2.ensures.appended
          c.in_ok-put_number.ensures.appended c.in_ok-push-3.ensures.appended
          (e ∙ ap (λ (ps : List (Param g.row.N.Denot)).
          c.push-3.new.self ++ at_lines (map value c.args.scenario.now) (map (parameter_of value) ps))
          c.items.ensures.list))
          c.put_entries.ensures.appended;
    }
