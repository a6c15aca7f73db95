use Rattle.std.proofs.Common.{ap, of_z, rules, SFits, w64, ◌∙◌}
use Rattle.std.proofs.lemmas.Int.{to_z-of_z}
use Rattle.std.specs.Fmt.{signed_decimal}
use Rattle.rob_cert.specs.Spelling.{name_at}
use Rattle.rob_meaning.specs.Names.{set_row_names}
use Rattle.rob_model.specs.View.{robust}
use Rattle.rob_report.proofs.PlaceAnswers.{weight_last}
use Rattle.rob_report.proofs.empty_set.put_weight.Goals as goal

pub returns : goal.returns
returns g c =
    let fits : SFits w64 c.args.weight = search rules in record {
      appended = weight_last c.push-3.result c.args.weight
          (name_at (set_row_names (robust g.N.Exact.value c.args.model.now)) c.args.index) c.args.out.now _ _ _
          c.push-3.new.self _ (λ e. c.if-weight-eq0.false (ap (of_z w64) e)) c.in_ok-put_set_row.ensures.appended
          c.in_ok-push.ensures.appended c.in_ok-push-2.ensures.appended
          (c.as_bytes.ensures.value ∙ c.format.ensures.text ∙ ap signed_decimal (to_z-of_z w64 c.args.weight fits))
          c.push-3.ensures.appended;
    }
