use Rattle.std.proofs.Common.{◌++◌, ap, ◌∙◌}
use Rattle.rob_model.specs.View.{robust}
use Rattle.rob_report.proofs.RoundLemmas.{rounds_begun, rounds_more}
use Rattle.rob_report.proofs.rounds.put_rounds.Goals as goal

pub loop-index-init : goal.loop-index-init
loop-index-init g c =
    rounds_begun (robust g.N.Exact.value c.args.model.now) c.args.rounds.now c.args.out.now c.push.new.self
    c.push-2.new.self c.push-3.new.self c.in_ok-push.ensures.appended
    (c.in_ok-push-2.ensures.appended
    ∙ ap (λ t. c.push.new.self ++ t) (c.as_bytes.ensures.value ∙ c.format.ensures.text))
    c.in_ok-push-3.ensures.appended

pub loop-index-preserved : goal.loop-index-preserved
loop-index-preserved g c =
    let round = c.index-rounds-index.result in
    rounds_more (robust g.N.Exact.value c.args.model.now) c.args.rounds.now c.loop-index.index round round
    c.loop-index.out c.put_round.new.out _ c.loop-index-test.true c.index-rounds-index.is
    c.in_ok-put_round.ensures.appended c.loop-index.invariant
