use Rattle.std.proofs.Common.{◌∙◌, ℕ, List, ap, map, refl}
use Rattle.rob_cells.proofs.ListLemmas.{appended_all, appended_more}
use Rattle.rob_cells.proofs.NameLemmas.{row_name}
use Rattle.rob_model.specs.View.{row_of}
use Rattle.rob_model.specs.declared.model.RowDef.{RowDef}
use Rattle.rob_pieces.specs.SplitModel.{numbered}
use Rattle.rob_cells.proofs.names.append_own_row_names.Goals as goal

pub loop-row-preserved : goal.loop-row-preserved
loop-row-preserved g c =
    let of = row_of g.N.Exact.value in
    appended_more (λ (rs : List (RowDef g.row.N.Denot)). map (row_name c.args.c) (map of rs)) c.args.rows.now
    c.loop-row.names c.loop-row.row-index (λ (r : RowDef g.row.N.Denot). numbered r.name c.args.c) (λ x xs. refl)
    c.loop-row-test.true c.row-item.is
    (c.in_ok-name.ensures.numbered ∙ ap (λ (word : List ℕ). numbered word c.args.c) c.in_ok-copy_text.ensures.equal)
    c.in_ok-push.ensures.appended c.loop-row.invariant

pub returns : goal.returns
returns g c =
    let of = row_of g.N.Exact.value in
    record {
      appended = appended_all (λ (rs : List (RowDef g.row.N.Denot)). map (row_name c.args.c) (map of rs))
          c.args.rows.now c.loop-row.names c.loop-row.row-index refl c.loop-row-test.false c.loop-row.invariant;
    }
