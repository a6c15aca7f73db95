use Rattle.std.proofs.Common.{◌++◌, ap, sym, ◌∙◌, List}
use Rattle.std.proofs.lemmas.List.Elements.{All-same}
use Rattle.std.proofs.lemmas.Result.{on_ok_weaker}
use Rattle.rob_cert.specs.declared.trace.Round.{Round}
use Rattle.rob_model.specs.View.{robust}
use Rattle.rob_report.specs.Rounds.{IsRoundOf, rounds_text}
use Rattle.rob_top.specs.Routes.{with_rounds}
use Rattle.rob_words.specs.declared.route.Route.{Route}
use Rattle.rob_top.proofs.solving.put_told_rounds.Goals as goal

pub put_rounds-requires-clause-named : goal.put_rounds-requires-clause-named
put_rounds-requires-clause-named g c =
    All-same (IsRoundOf (robust g.N.Exact.value c.args.model.now)) c.items.result.now c.args.trace.now.rounds
    c.items.ensures.list c.requires.rounds

pub returns-in-Dual : goal.returns-in-Dual
returns-in-Dual g c =
    let m = robust g.N.Exact.value c.args.model.now in
    record { appended = sym (ap (λ (w : Route). with_rounds w m c.args.trace.now.rounds c.args.out.now) c.in-Dual.is) }

pub returns-in-Cuts : goal.returns-in-Cuts
returns-in-Cuts g c =
    let m = robust g.N.Exact.value c.args.model.now in
    record {
      appended = on_ok_weaker c.put_rounds.result
          (λ e. e ∙ ap (λ (rounds : List Round). c.args.out.now ++ rounds_text m rounds) c.items.ensures.list
          ∙ sym (ap (λ (w : Route). with_rounds w m c.args.trace.now.rounds c.args.out.now) c.in-Cuts.is))
          c.put_rounds.ensures.appended;
    }
