use Rattle.std.proofs.Common.{arith, subst}
use Rattle.std.specs.Prelude.{length, ◌∷◌, [], refl}
use Rattle.rob_meaning.specs.Forms.{difference}
use Rattle.rob_meaning.specs.SetRows as lifted
use Rattle.rob_meaning.specs.SetRows.{expression_row}
use Rattle.rob_model.specs.View.{robust, expression_of}
use Rattle.rob_model.specs.declared.place.Spot.TheVariants.{Coefficient}
use Rattle.rob_model.specs.declared.place.Where.TheVariants.{SetLine}
use Rattle.rob_sets.specs.Appending.{Appends}
use Rattle.rob_sets.specs.FirstWide as judge
use Rattle.rob_sets.specs.SetForm.{judged_row}
use Rattle.rob_sets.specs.Subexpressions.{subexpressions, HasWideCoefficient}
use Rattle.rob_sets.specs.Tables.{numbers_of}
use Rattle.rob_sets.proofs.Expressions.DifferenceLemmas.{side_row}
use Rattle.rob_sets.proofs.Cells.ListLemmas.{each_none}
use Rattle.rob_sets.proofs.Judging.JudgedLemmas.{stops_here}
use Rattle.rob_sets.proofs.Judging.AppendingLemmas.{appends_nothing, appends_then}
use Rattle.rob_sets.proofs.line.append_side.Goals as goal

pub returns-in-Ok-clause-row : goal.returns-in-Ok-clause-row
returns-in-Ok-clause-row g c =
    let value = g.N.Exact.value in
    let m = robust value c.args.model.now in
    let l = expression_of value c.args.sides.left.now in
    let r = expression_of value c.args.sides.right.now in
    let f = numbers_of value c.in-Ok.table in
    appends_then (expression_row m (difference l r) ∷ [])
    (judged_row m (length c.args.rows.now) (expression_row m (difference l r)) ∷ []) c.append_row.new.rows
    (g.L.Ledger.wides c.args.ledger.now) (g.L.Ledger.wides c.difference_table.new.ledger)
    (g.L.Ledger.wides c.append_row.new.ledger) c.append_row.result
    (appends_nothing {judged = judge.coefficients (SetLine c.args.number) (difference l r) ∷ []} c.args.rows.now (
      each_none (HasWideCoefficient g.N.Exact.limit m) (subexpressions (difference l r))
          c.in-Ok.ensures.table.none_wide,
      tt,
    ))
    c.difference_table.ensures.counted.wides
    (subst (λ (row : lifted.SetRow).
    Appends g.N.Exact.limit m (row ∷ []) (judged_row m (length c.args.rows.now) row ∷ [])
    c.args.rows.now c.append_row.new.rows
    (g.L.Ledger.wides c.difference_table.new.ledger) (g.L.Ledger.wides c.append_row.new.ledger) c.append_row.result)
    (side_row m l r f c.in-Ok.ensures.table.coefficients c.requires.left.1 c.requires.right.1) c.append_row.ensures.row)

pub returns-in-Err-clause-row : goal.returns-in-Err-clause-row
returns-in-Err-clause-row g c =
    let value = g.N.Exact.value in
    let m = robust value c.args.model.now in
    let e = difference (expression_of value c.args.sides.left.now) (expression_of value c.args.sides.right.now) in
    stops_here g.N.Exact.limit m (judge.coefficients (SetLine c.args.number) e)
    (judged_row m (length c.args.rows.now) (expression_row m e) ∷ [])
    c.in-Err.stop c.stopped.result (Coefficient (SetLine c.args.number)) (g.L.Ledger.wides c.args.ledger.now)
    (g.L.Ledger.wides c.args.ledger.now)
    (g.L.Ledger.wides c.difference_table.new.ledger) c.stopped.ensures.error refl (omega arith) c.in-Err.ensures.table
