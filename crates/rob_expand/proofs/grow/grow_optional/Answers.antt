use Rattle.std.proofs.Common.{◌≡◌, [], ◌∷◌, sym, ap, ◌∙◌}
use Rattle.std.specs.Prelude.{Option, fold, option_to_list}
use Rattle.std.specs.List.{list_any}
use Rattle.std.proofs.lemmas.Result.{IfOk-weaker, on_ok_weaker}
use Rattle.rob_index.specs.Rules.{is_long_name}
use Rattle.rob_syntax.specs.Known.{texts}
use Rattle.rob_settings.specs.declared.item.Named.{Named}
use Rattle.rob_expand.specs.Growing.{add_name, named_at, over_at}
use Rattle.rob_expand.proofs.grow.grow_optional.Goals as goal

pub returns-in-Some : goal.returns-in-Some
returns-in-Some c =
    let own = texts c.args.own.now.keys in
    let vs = c.args.values.now in
    let same : (named_at own c.in-Some.name vs ∷ []) ≡ option_to_list (over_at own c.args.name.now vs) =
    ap (λ (o : Option Named). option_to_list (over_at own o vs)) (sym c.in-Some.is) in
    record {
      words =
          on_ok_weaker c.add_name.result
          (λ e. e ∙ ap (fold add_name (texts c.args.words.now.keys)) same) c.add_name.ensures.words;
      long = IfOk-weaker c.add_name.result _ _ (λ b e. e ∙ ap (list_any is_long_name) same) c.add_name.ensures.long;
    }
