use Rattle.std.proofs.Common.{◌++◌, ap, sym, ◌∙◌}
use Rattle.std.specs.Prelude.{codes}
use Rattle.std.proofs.lemmas.Result.{on_ok_weaker}
use Rattle.rob_cert.proofs.Writing.WriterLemmas.{behind}
use Rattle.rob_model.specs.View.{robust}
use Rattle.rob_report.specs.Spots.{spot_words, where_words}
use Rattle.rob_report.proofs.spots.put_spot.Goals as goal

pub returns-in_ok-push-in-Coefficient : goal.returns-in_ok-push-in-Coefficient
returns-in_ok-push-in-Coefficient g c =
    let m = robust g.N.Exact.value c.args.model.now in
    record {
      appended = on_ok_weaker c.put_where.result
          (λ e. behind c.args.out.now c.push.new.self c.put_where.new.out (codes "coefficient ")
          (where_words m c.in-Coefficient.place) c.in_ok-push-in-Coefficient.ensures.appended e
          ∙ ap (λ s. c.args.out.now ++ spot_words m s) (sym c.in-Coefficient.is))
          c.put_where.ensures.appended;
    }
