use Rattle.std.proofs.Common.{map, ap, subst, ◌∙◌}
use Rattle.rob_model.specs.View.{set_line_of}
use Rattle.rob_reach.specs.Sweeps.{IsBudgetAt, limit_at}
use Rattle.rob_sweep.proofs.BudgetLemmas.{named_with, valid_with}
use Rattle.rob_sweep.proofs.budget.with_budget.Goals as goal

pub returns-clause-valid : goal.returns-clause-valid
returns-clause-valid g c =
    let value = g.N.Exact.value in
    valid_with value c.args.model.now c.in_ok-copy.copy c.in_ok-copy-2.field-0 c.args.n (value c.args.limit)
    c.in_ok-copy.ensures.equal
    (c.in_ok-copy-2.ensures.limited
    ∙ ap (λ lines. limit_at c.args.n (value c.args.limit) (map (set_line_of value) lines)) c.items-2.ensures.list)
    c.requires.valid

pub returns-clause-named : goal.returns-clause-named
returns-clause-named g c =
    let value = g.N.Exact.value in
    named_with value c.args.model.now c.in_ok-copy.copy c.in_ok-copy-2.field-0 c.args.n (value c.args.limit)
    c.in_ok-copy.ensures.equal
    (c.in_ok-copy-2.ensures.limited
    ∙ ap (λ lines. limit_at c.args.n (value c.args.limit) (map (set_line_of value) lines)) c.items-2.ensures.list)

pub returns-clause-rule : goal.returns-clause-rule
returns-clause-rule g c =
    subst (λ lines. IsBudgetAt (map (set_line_of g.N.Exact.value) lines) c.args.n) c.items.ensures.list
    (c.is_budget.ensures.test.0 c.if-not-is_budget.false)
