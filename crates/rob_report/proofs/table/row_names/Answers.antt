use Rattle.std.proofs.Common.{ap, [], ◌∷◌, ◌++◌, ◌∙◌}
use Rattle.rob_meaning.specs.RobustModel.{Row}
use Rattle.rob_model.specs.View.{row_of}
use Rattle.rob_report.proofs.TableLemmas.{items_more}
use Rattle.rob_report.proofs.table.row_names.Goals as goal

pub loop-row-preserved : goal.loop-row-preserved
loop-row-preserved g c =
    let r = c.row-item.result in
    items_more (row_of g.N.Exact.value) (λ (r : Row). r.name) c.args.rows.now c.loop-row.row-index r r
    c.loop-row.names c.push.new.self _ c.loop-row-test.true c.row-item.is
    (c.in_ok-push.ensures.appended
    ∙ ap (λ text. c.loop-row.names ++ text ∷ []) (c.in_ok-word.ensures.equal ∙ c.bytes.ensures.list))
    c.loop-row.invariant
