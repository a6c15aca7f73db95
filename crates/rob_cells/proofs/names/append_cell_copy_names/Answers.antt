use Rattle.std.proofs.Common.{◌∙◌, ℕ, List, ap, map, refl}
use Rattle.rob_cells.proofs.ListLemmas.{appended_all, appended_more}
use Rattle.rob_cells.proofs.NameLemmas.{copy_name}
use Rattle.rob_model.specs.View.{adaptive_of}
use Rattle.rob_model.specs.declared.model.Adaptive.{Adaptive}
use Rattle.rob_pieces.specs.SplitModel.{numbered}
use Rattle.rob_cells.proofs.names.append_cell_copy_names.Goals as goal

pub loop-adaptive-preserved : goal.loop-adaptive-preserved
loop-adaptive-preserved g c =
    let of = adaptive_of g.N.Exact.value in
    appended_more (λ (ys : List (Adaptive g.row.N.Denot)). map (copy_name c.args.c) (map of ys)) c.args.adaptives.now
    c.loop-adaptive.names c.loop-adaptive.adaptive-index (λ (y : Adaptive g.row.N.Denot). numbered y.name c.args.c)
    (λ x xs. refl) c.loop-adaptive-test.true c.adaptive-item.is
    (c.in_ok-name.ensures.numbered ∙ ap (λ (word : List ℕ). numbered word c.args.c) c.in_ok-copy_text.ensures.equal)
    c.in_ok-push.ensures.appended c.loop-adaptive.invariant

pub returns : goal.returns
returns g c =
    let of = adaptive_of g.N.Exact.value in
    record {
      appended = appended_all (λ (ys : List (Adaptive g.row.N.Denot)). map (copy_name c.args.c) (map of ys))
          c.args.adaptives.now c.loop-adaptive.names c.loop-adaptive.adaptive-index refl c.loop-adaptive-test.false
          c.loop-adaptive.invariant;
    }
