use Rattle.std.proofs.Common.{subst}
use Rattle.std.specs.Prelude.{length, List}
use Rattle.rob_meaning.specs.Expressions.{Expression}
use Rattle.rob_model.specs.View.{robust, expression_of}
use Rattle.rob_elab.specs.Appending.{Appends}
use Rattle.rob_elab.proofs.BoundLemmas.{lower_form, upper_form}
use Rattle.rob_elab.proofs.bounds.append_bound.Goals as goal

pub returns-then-is_lower-clause-form : goal.returns-then-is_lower-clause-form
returns-then-is_lower-clause-form g c =
    let value = g.N.Exact.value in
    subst (λ (forms : List Expression).
    Appends g.N.Exact.limit (robust value c.args.model.now) (length c.args.matrices.now) forms
    c.args.matrices.now c.append_difference.new.matrices (g.L.Ledger.wides c.args.ledger.now)
    (g.L.Ledger.wides c.append_difference.new.ledger) c.append_difference.result)
    (lower_form (expression_of value c.args.bound.bounded.now) value c.args.bound.is_lower
    c.args.bound.number.now c.in-Some.value c.in-Some.is c.if-is_lower.true)
    c.append_difference.ensures.form

pub returns-clause-form : goal.returns-clause-form
returns-clause-form g c =
    let value = g.N.Exact.value in
    subst (λ (forms : List Expression).
    Appends g.N.Exact.limit (robust value c.args.model.now) (length c.args.matrices.now) forms
    c.args.matrices.now c.append_difference-else-is_lower.new.matrices (g.L.Ledger.wides c.args.ledger.now)
    (g.L.Ledger.wides c.append_difference-else-is_lower.new.ledger) c.append_difference-else-is_lower.result)
    (upper_form (expression_of value c.args.bound.bounded.now) value c.args.bound.is_lower
    c.args.bound.number.now c.in-Some.value c.in-Some.is c.if-is_lower.false)
    c.append_difference-else-is_lower.ensures.form
