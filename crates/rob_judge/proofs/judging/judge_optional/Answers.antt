use Rattle.std.proofs.Common.{List, sym, ap, ◌∙◌}
use Rattle.std.specs.Prelude.{Option}
use Rattle.std.proofs.lemmas.Result.{IfOk-weaker}
use Rattle.rob_index.specs.Forms.{Form}
use Rattle.rob_settings.specs.declared.item.Named.{Named}
use Rattle.rob_expand.specs.Judging.{indices_found, optional_found}
use Rattle.rob_judge.proofs.judging.judge_optional.Goals as goal

pub returns-in-Some : goal.returns-in-Some
returns-in-Some c =
    let vs = c.args.values.now in
    record {
      found =
          IfOk-weaker c.judge_indices.result _ _
          (λ b e. e ∙ ap (λ (fs : List Form). indices_found fs vs) c.items.ensures.list
          ∙ ap (λ (o : Option Named). optional_found o vs) (sym c.in-Some.is)) c.judge_indices.ensures.found;
    }
