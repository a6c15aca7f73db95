use Rattle.std.proofs.Common.{[], ◌++◌, ap, length, sym, ◌∙◌, rules, SFits, w64}
use Rattle.std.proofs.lemmas.Int.{to_z-of_z}
use Rattle.std.specs.Prelude.{codes}
use Rattle.std.proofs.lemmas.Result.{on_ok_weaker}
use Rattle.rob_cert.specs.Spelling.{name_at}
use Rattle.rob_meaning.specs.Names.{set_row_names}
use Rattle.rob_model.specs.View.{robust}
use Rattle.rob_report.proofs.TermLemmas.{row_written}
use Rattle.rob_report.specs.Lines.{line}
use Rattle.rob_report.specs.Rows.{limit_text, or_zero, terms_text}
use Rattle.rob_report.proofs.rows.put_row.Goals as goal

pub returns : goal.returns
returns g c =
    let row = c.args.row.now in
    let columns = c.args.columns.now in
    let before = c.push-2.new.self in
    let fits : SFits w64 row.h = search rules in
    record {
      appended = on_ok_weaker c.put_limit.result
          (λ e. row_written (codes "set ")
          (name_at (set_row_names (robust g.N.Exact.value c.args.model.now)) c.args.index)
          (or_zero (terms_text [] row.g columns)) (limit_text row.h)
          c.args.out.now _ _ _ _ _
          c.in_ok-push.ensures.appended c.in_ok-put_set_row.ensures.appended c.in_ok-push-2.ensures.appended
          (c.in_ok-put_zero.ensures.appended before (terms_text [] row.g columns)
          (sym (ap length c.bytes-before.ensures.list))
          (c.in_ok-put_terms.ensures.appended ∙ ap (λ ns. before ++ terms_text [] ns columns) c.items.ensures.list))
          (e ∙ ap (λ z. c.put_zero.new.out ++ line (limit_text z)) (to_z-of_z w64 row.h fits)))
          c.put_limit.ensures.appended;
    }
