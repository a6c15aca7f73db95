use Rattle.std.proofs.Common.{arith, ap, sym}
use Rattle.std.specs.Prelude.{◌∷◌, [], length, List, ℤ}
use Rattle.rob_meaning.specs.Clearing.{entries}
use Rattle.rob_meaning.specs.Coefficients.{table}
use Rattle.rob_meaning.specs.Forms.{entries_of, objective_form, tau_column}
use Rattle.rob_model.specs.View.{robust}
use Rattle.rob_model.specs.declared.place.Spot.TheVariants.{Coefficient}
use Rattle.rob_model.specs.declared.place.Where.TheVariants.{Form}
use Rattle.rob_sets.specs.FirstWide as judge
use Rattle.rob_sets.proofs.Judging.JudgedLemmas.{stops_here}
use Rattle.rob_elab.proofs.AppendLemmas.{form_appends}
use Rattle.rob_elab.proofs.objective.append_objective.Goals as goal

pub returns-in-Ok-clause-form : goal.returns-in-Ok-clause-form
returns-in-Ok-clause-form g c =
    let value = g.N.Exact.value in
    let m = robust value c.args.model.now in
    let e = objective_form m.sense m.objective (tau_column m) in
    form_appends g.N.Exact.limit m value c.in-Ok.table e c.args.matrices.now c.append_form.new.matrices
    (g.L.Ledger.wides c.args.ledger.now) (g.L.Ledger.wides c.objective_table.new.ledger)
    (g.L.Ledger.wides c.append_form.new.ledger) c.append_form.result c.in-Ok.ensures.table
    c.objective_table.ensures.counted.wides c.append_form.ensures.matrix

pub returns-in-Err-clause-form : goal.returns-in-Err-clause-form
returns-in-Err-clause-form g c =
    let value = g.N.Exact.value in
    let m = robust value c.args.model.now in
    let i = length c.args.matrices.now in
    let e = objective_form m.sense m.objective (tau_column m) in
    stops_here g.N.Exact.limit m (judge.coefficients (Form i) e)
    (judge.clearing (Form i) (entries (entries_of m (table m e))) ∷ [])
    c.in-Err.stop c.stopped.result (Coefficient (Form (length c.items.result.now))) (g.L.Ledger.wides c.args.ledger.now)
    (g.L.Ledger.wides c.args.ledger.now)
    (g.L.Ledger.wides c.objective_table.new.ledger) c.stopped.ensures.error
    (ap (λ (xs : List (List (List ℤ))). Coefficient (Form (length xs))) (sym c.items.ensures.list))
    (omega arith) c.in-Err.ensures.table
