use Rattle.std.proofs.Common.{[], ◌∷◌, ◌++◌, ap, refl, take, ◌∙◌}
use Rattle.std.specs.Prelude.{codes}
use Rattle.rob_cert.proofs.Words.NameListLemmas.{named_more}
use Rattle.rob_meaning.specs.Names.{column_names}
use Rattle.rob_model.specs.View.{robust}
use Rattle.rob_report.proofs.labels.form_columns.Goals as goal

pub loop-index-preserved : goal.loop-index-preserved
loop-index-preserved g c =
    let names = column_names (robust g.N.Exact.value c.args.model.now) in
    c.in_ok-push-2.ensures.appended
    ∙ ap (λ xs. xs ++ c.put_column_name.new.out ∷ []) c.loop-index.invariant
    ∙ ap (λ xs. codes "1" ∷ xs)
    (named_more names (take c.loop-index.index names) c.loop-index.index c.new-name.result c.put_column_name.new.out
    refl c.new-name.ensures.empty c.in_ok-put_column_name.ensures.appended)
