use Rattle.std.proofs.Common.{ap, [], ◌∷◌, ◌++◌, ◌∙◌}
use Rattle.rob_meaning.specs.RobustModel.{AdaptiveVariable}
use Rattle.rob_model.specs.View.{adaptive_of}
use Rattle.rob_report.proofs.TableLemmas.{items_more}
use Rattle.rob_report.proofs.table.adaptive_names.Goals as goal

pub loop-adaptive-preserved : goal.loop-adaptive-preserved
loop-adaptive-preserved g c =
    let y = c.adaptive-item.result in
    items_more (adaptive_of g.N.Exact.value) (λ (y : AdaptiveVariable). y.name) c.args.adaptives.now
    c.loop-adaptive.adaptive-index y y
    c.loop-adaptive.names c.push.new.self _ c.loop-adaptive-test.true c.adaptive-item.is
    (c.in_ok-push.ensures.appended
    ∙ ap (λ text. c.loop-adaptive.names ++ text ∷ []) (c.in_ok-word.ensures.equal ∙ c.bytes.ensures.list))
    c.loop-adaptive.invariant
