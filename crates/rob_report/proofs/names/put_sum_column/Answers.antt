use Rattle.std.proofs.Common.{◌++◌, [], ◌∷◌, arith, ap, sym, ◌∙◌}
use Rattle.std.specs.Prelude.{codes}
use Rattle.std.proofs.lemmas.Result.{on_ok_weaker}
use Rattle.rob_meaning.proofs.Naming.NameLemmas.{length-column_names}
use Rattle.rob_meaning.specs.Names.{column_names}
use Rattle.rob_model.specs.View.{robust}
use Rattle.rob_report.proofs.NameLemmas.{at_back}
use Rattle.rob_report.proofs.names.put_sum_column.Goals as goal

pub returns-else-index-column_count : goal.returns-else-index-column_count
returns-else-index-column_count g c =
    let m = robust g.N.Exact.value c.args.model.now in
    record {
      appended = on_ok_weaker c.push-else-index-column_count.result
          (λ e. e ∙ ap (λ n. c.args.out.now ++ n)
          (sym (at_back (codes "constant" ∷ column_names m) (codes "tau" ∷ []) c.args.index 0
          (omega (
            arith,
            c.if-index-column_count.false,
            c.requires.inside,
            c.column_count.ensures.count,
            length-column_names m,
          )))))
          c.push-else-index-column_count.ensures.appended;
    }
