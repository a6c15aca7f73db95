use Rattle.std.proofs.Common.{arith, ap, sym}
use Rattle.std.specs.Prelude.{◌∷◌, [], length, List, ℤ}
use Rattle.rob_meaning.specs.Clearing.{entries}
use Rattle.rob_meaning.specs.Coefficients.{table}
use Rattle.rob_meaning.specs.Forms.{difference, entries_of}
use Rattle.rob_model.specs.View.{robust, expression_of}
use Rattle.rob_model.specs.declared.place.Spot.TheVariants.{Coefficient}
use Rattle.rob_model.specs.declared.place.Where.TheVariants.{Form}
use Rattle.rob_sets.specs.FirstWide as judge
use Rattle.rob_sets.proofs.Judging.JudgedLemmas.{stops_here}
use Rattle.rob_elab.proofs.AppendLemmas.{form_appends}
use Rattle.rob_elab.proofs.rows.append_difference.Goals as goal

pub returns-in-Ok-clause-form : goal.returns-in-Ok-clause-form
returns-in-Ok-clause-form g c =
    let value = g.N.Exact.value in
    let m = robust value c.args.model.now in
    let e = difference (expression_of value c.args.left.now) (expression_of value c.args.right.now) in
    form_appends g.N.Exact.limit m value c.in-Ok.table e c.args.matrices.now c.append_form.new.matrices
    (g.L.Ledger.wides c.args.ledger.now) (g.L.Ledger.wides c.difference_table.new.ledger)
    (g.L.Ledger.wides c.append_form.new.ledger) c.append_form.result c.in-Ok.ensures.table
    c.difference_table.ensures.counted.wides c.append_form.ensures.matrix

pub returns-in-Err-clause-form : goal.returns-in-Err-clause-form
returns-in-Err-clause-form g c =
    let value = g.N.Exact.value in
    let m = robust value c.args.model.now in
    let i = length c.args.matrices.now in
    let e = difference (expression_of value c.args.left.now) (expression_of value c.args.right.now) in
    stops_here g.N.Exact.limit m (judge.coefficients (Form i) e)
    (judge.clearing (Form i) (entries (entries_of m (table m e))) ∷ [])
    c.in-Err.stop c.stopped.result (Coefficient (Form (length c.items.result.now))) (g.L.Ledger.wides c.args.ledger.now)
    (g.L.Ledger.wides c.args.ledger.now)
    (g.L.Ledger.wides c.difference_table.new.ledger) c.stopped.ensures.error
    (ap (λ (xs : List (List (List ℤ))). Coefficient (Form (length xs))) (sym c.items.ensures.list))
    (omega arith) c.in-Err.ensures.table
