use Rattle.std.proofs.Common.{arith}
use Rattle.std.specs.Prelude.{◌++◌, option_map}
use Rattle.rob_meaning.specs.Expressions.{number}
use Rattle.rob_meaning.specs.Forms.{difference}
use Rattle.rob_meaning.specs.SetConditions.{if_declared}
use Rattle.rob_model.specs.View.{robust, expression_of}
use Rattle.rob_sets.proofs.Cells.PartedLemmas.{parted}
use Rattle.rob_sets.proofs.Judging.ProgressLemmas.{begins}
use Rattle.rob_elab.proofs.AppendLemmas.{FormProgress, forms_end_with, forms_go_on, forms_stop}
use Rattle.rob_elab.proofs.bounds.append_bounds.Goals as goal

pub returns-in_err-append_bound-clause-forms : goal.returns-in_err-append_bound-clause-forms
returns-in_err-append_bound-clause-forms g c =
    let value = g.N.Exact.value in
    let e = expression_of value c.args.bounds.bounded.now in
    let lower = if_declared (λ b. difference (number b) e) (option_map value c.args.bounds.lower.now) in
    let upper = if_declared (λ b. difference e (number b)) (option_map value c.args.bounds.upper.now) in
    let start : FormProgress g.N.Exact.limit (robust value c.args.model.now) (lower ++ upper) (lower ++ upper)
    c.args.matrices.now c.args.matrices.now =
    begins c.args.matrices.now in
    forms_stop start c.append_bound.new.matrices (g.L.Ledger.wides c.args.ledger.now) c.from_residual.result
    (parted lower upper) (omega arith)
    c.in_err-append_bound.ensures.form c.from_residual.ensures.1

pub returns-clause-forms : goal.returns-clause-forms
returns-clause-forms g c =
    let value = g.N.Exact.value in
    let e = expression_of value c.args.bounds.bounded.now in
    let lower = if_declared (λ b. difference (number b) e) (option_map value c.args.bounds.lower.now) in
    let upper = if_declared (λ b. difference e (number b)) (option_map value c.args.bounds.upper.now) in
    let start : FormProgress g.N.Exact.limit (robust value c.args.model.now) (lower ++ upper) (lower ++ upper)
    c.args.matrices.now c.args.matrices.now =
    begins c.args.matrices.now in
    forms_end_with (forms_go_on start (parted lower upper) c.in_ok-append_bound.ensures.form)
    c.append_bound-2.new.matrices (g.L.Ledger.wides c.args.ledger.now)
    (g.L.Ledger.wides c.append_bound.new.ledger) (g.L.Ledger.wides c.append_bound-2.new.ledger) c.append_bound-2.result
    c.append_bound.ensures.counted.wides c.append_bound-2.ensures.form
