use Rattle.std.proofs.Common.{◌++◌, ap, sym, ◌∙◌}
use Rattle.std.proofs.lemmas.Result.{on_ok_weaker}
use Rattle.rob_cert.proofs.Writing.WriterLemmas.{behind, entries_text-push}
use Rattle.rob_cert.specs.declared.kind.Vector.TheVariants.{Move}
use Rattle.rob_cert.specs.NamesView.{naming}
use Rattle.rob_cert.proofs.writer.put_move.Goals as goal

pub returns : goal.returns
returns g c = record {
  appended = on_ok_weaker c.put_entry.result
      (λ e. behind c.args.out.now _ _ _ _ c.in_ok-put_entries.ensures.appended e
      ∙ ap (λ t. c.args.out.now ++ t)
      (sym (entries_text-push (naming c.args.names.now) g.N.Exact.value Move c.args.step.now c.args.bound)))
      c.put_entry.ensures.appended;
}
