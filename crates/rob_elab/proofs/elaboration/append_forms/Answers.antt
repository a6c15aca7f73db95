use Rattle.std.proofs.Common.{arith, ap, subst, ◌++◌, zero, length}
use Rattle.rob_meaning.specs.Forms.{adaptive_forms, forms, row_forms, variable_forms}
use Rattle.rob_model.specs.View.{robust}
use Rattle.rob_sets.proofs.Judging.AppendingLemmas.{appended_length}
use Rattle.rob_sets.proofs.Cells.PartedLemmas.{parted}
use Rattle.rob_sets.proofs.Expressions.LeafLemmas.{few_variables}
use Rattle.rob_elab.specs.Appending.{Appends}
use Rattle.rob_elab.proofs.AppendLemmas.{Matrices, forms_end_with, forms_stop}
use Rattle.rob_elab.proofs.FormParts.{at_start, behind_objective, behind_rows, behind_variables, bounds, objective}
use Rattle.rob_elab.proofs.LeftLemmas.{rows_many, variables_many}
use Rattle.rob_elab.proofs.elaboration.append_forms.Goals as goal

pub returns-in_err-append_objective-clause-forms : goal.returns-in_err-append_objective-clause-forms
returns-in_err-append_objective-clause-forms g c =
    let limit = g.N.Exact.limit in
    let m = robust g.N.Exact.value c.args.model.now in
    let first = g.L.Ledger.wides c.args.ledger.now in
    subst (λ (s : Matrices). Appends limit m (length s) (forms m) s c.append_objective.new.matrices first
    (g.L.Ledger.wides c.append_objective.new.ledger)
    c.from_residual.result) c.requires.empty
    (forms_stop (at_start c.args.matrices.now) c.append_objective.new.matrices first c.from_residual.result
    (parted (objective m) (row_forms m.rows ++ bounds m)) (omega arith) c.in_err-append_objective.ensures.form
    c.from_residual.ensures.1)

pub returns-in_err-append_rows-clause-forms : goal.returns-in_err-append_rows-clause-forms
returns-in_err-append_rows-clause-forms g c =
    let limit = g.N.Exact.limit in
    let m = robust g.N.Exact.value c.args.model.now in
    let first = g.L.Ledger.wides c.args.ledger.now in
    let r = c.from_residual-in_err-append_rows in
    subst (λ (s : Matrices). Appends limit m (length s) (forms m) s c.append_rows.new.matrices first
    (g.L.Ledger.wides c.append_rows.new.ledger) r.result) c.requires.empty
    (forms_stop (behind_objective c.in_ok-append_objective.ensures.form) c.append_rows.new.matrices first r.result
    (parted (row_forms m.rows) (bounds m)) c.append_objective.ensures.counted.wides c.in_err-append_rows.ensures.forms
    r.ensures.1)

pub returns-in_err-append_variable_bounds-clause-forms : goal.returns-in_err-append_variable_bounds-clause-forms
returns-in_err-append_variable_bounds-clause-forms g c =
    let limit = g.N.Exact.limit in
    let m = robust g.N.Exact.value c.args.model.now in
    let first = g.L.Ledger.wides c.args.ledger.now in
    let r = c.from_residual-in_err-append_variable_bounds in
    subst (λ (s : Matrices). Appends limit m (length s) (forms m) s c.append_variable_bounds.new.matrices first
    (g.L.Ledger.wides c.append_variable_bounds.new.ledger)
    r.result) c.requires.empty
    (forms_stop (behind_rows c.in_ok-append_objective.ensures.form c.in_ok-append_rows.ensures.forms)
    c.append_variable_bounds.new.matrices first r.result
    (parted (variable_forms zero m.variables) (adaptive_forms zero m.adaptives))
    (omega (arith, c.append_objective.ensures.counted.wides, c.append_rows.ensures.counted.wides))
    c.in_err-append_variable_bounds.ensures.forms r.ensures.1)

pub returns-clause-forms : goal.returns-clause-forms
returns-clause-forms g c =
    let limit = g.N.Exact.limit in
    let m = robust g.N.Exact.value c.args.model.now in
    let first = g.L.Ledger.wides c.args.ledger.now in
    let last = c.append_adaptive_bounds in
    subst (λ (s : Matrices). Appends limit m (length s) (forms m) s last.new.matrices first
    (g.L.Ledger.wides last.new.ledger) last.result) c.requires.empty
    (forms_end_with
    (behind_variables c.in_ok-append_objective.ensures.form c.in_ok-append_rows.ensures.forms
    c.in_ok-append_variable_bounds.ensures.forms)
    last.new.matrices first (g.L.Ledger.wides c.append_variable_bounds.new.ledger) (g.L.Ledger.wides last.new.ledger)
    last.result
    (omega (
      arith,
      c.append_objective.ensures.counted.wides,
      c.append_rows.ensures.counted.wides,
      c.append_variable_bounds.ensures.counted.wides,
    ))
    last.ensures.forms)

pub append_variable_bounds-requires-clause-few : goal.append_variable_bounds-requires-clause-few
append_variable_bounds-requires-clause-few g c =
    let m = robust g.N.Exact.value c.args.model.now in
    omega (
      arith,
      ap length c.requires.empty,
      appended_length c.in_ok-append_objective.ensures.form,
      appended_length c.in_ok-append_rows.ensures.forms,
      rows_many m.rows,
      c.requires.valid.limits.rows,
    )

pub append_adaptive_bounds-requires-clause-few : goal.append_adaptive_bounds-requires-clause-few
append_adaptive_bounds-requires-clause-few g c =
    let m = robust g.N.Exact.value c.args.model.now in
    omega (
      arith,
      ap length c.requires.empty,
      appended_length c.in_ok-append_objective.ensures.form,
      appended_length c.in_ok-append_rows.ensures.forms,
      appended_length c.in_ok-append_variable_bounds.ensures.forms,
      rows_many m.rows,
      c.requires.valid.limits.rows,
      variables_many zero m.variables,
      few_variables m,
      c.requires.valid.limits.columns,
    )
