use Rattle.std.proofs.Common.{List, ◌++◌, ap, ap₂, map, rules, SFits, w64, ◌∙◌}
use Rattle.std.proofs.lemmas.Int.{to_z-of_z}
use Rattle.std.proofs.lemmas.Result.{on_ok_weaker}
use Rattle.std.specs.Fmt.{signed_decimal}
use Rattle.rob_model.specs.View.{parameter_of, robust}
use Rattle.rob_model.specs.declared.model.Param.{Param}
use Rattle.rob_report.proofs.RoundLemmas.{cut_written}
use Rattle.rob_report.specs.Rounds.{entries_words}
use Rattle.rob_report.proofs.rounds.put_cut.Goals as goal

pub returns : goal.returns
returns g c =
    let round = c.args.round.now in
    let fits : SFits w64 round.base = search rules in
    record {
      appended = on_ok_weaker c.put_entries.result
          (λ e. cut_written (robust g.N.Exact.value c.args.model.now) round c.args.out.now
          c.in_ok-push.ensures.appended c.in_ok-put_form.ensures.appended c.in_ok-push-2.ensures.appended
          (c.in_ok-put_whole.ensures.appended
          ∙ ap (λ b. c.push-2.new.self ++ signed_decimal b) (to_z-of_z w64 round.base fits))
          (e ∙ ap₂ (λ (ps : List (Param g.row.N.Denot)) ns. c.put_whole.new.out
          ++ entries_words (map (parameter_of g.N.Exact.value) ps) ns) c.items.ensures.list c.items-2.ensures.list))
          c.put_entries.ensures.appended;
    }
