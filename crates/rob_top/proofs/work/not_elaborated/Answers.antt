use Rattle.rob_model.specs.View.{robust}
use Rattle.rob_top.proofs.Meaning.RouteLemmas.{no_rounds}
use Rattle.rob_top.proofs.Meaning.WorkLemmas.{refused_alone}
use Rattle.rob_top.proofs.work.not_elaborated.Goals as goal

pub wide_on_way-requires-clause-rounds : goal.wide_on_way-requires-clause-rounds
wide_on_way-requires-clause-rounds g c =
    no_rounds (robust g.N.Exact.value c.args.model.now) _ c.new-rounds.ensures.empty

pub returns-in-Wide : goal.returns-in-Wide
returns-in-Wide g c = record {
  refused = refused_alone g.N.Exact.limit (robust g.N.Exact.value c.args.model.now) c.args.route c.args.error
      c.in-Wide.spot _ c.wide_on_way.result c.in-Wide.is
      c.new-rounds.ensures.empty c.wide_on_way.ensures.spot;
}
