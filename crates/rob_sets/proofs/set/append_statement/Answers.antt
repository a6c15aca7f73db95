use Rattle.rob_model.specs.View.{robust}
use Rattle.rob_sets.proofs.WholeRows.StatementCases.{budget_appended, budget_lifts_few, budget_members, budget_rows_few, line_appended, line_sides}
use Rattle.rob_sets.proofs.set.append_statement.Goals as goal

-- ---- a condition
pub append_line-requires-clause-left : goal.append_line-requires-clause-left
append_line-requires-clause-left g c =
    let m = robust g.N.Exact.value c.args.model.now in
    (line_sides g.N.Exact.value m c.in-Line.is c.requires.line).0

pub append_line-requires-clause-right : goal.append_line-requires-clause-right
append_line-requires-clause-right g c =
    let m = robust g.N.Exact.value c.args.model.now in
    (line_sides g.N.Exact.value m c.in-Line.is c.requires.line).1

pub returns-in-Line-clause-rows : goal.returns-in-Line-clause-rows
returns-in-Line-clause-rows g c =
    let m = robust g.N.Exact.value c.args.model.now in
    line_appended g.N.Exact.value m g.N.Exact.limit c.args.statement.number c.args.statement.lift c.args.rows.now
    c.append_line.new.rows (g.L.Ledger.wides c.args.ledger.now) (g.L.Ledger.wides c.append_line.new.ledger)
    c.append_line.result c.in-Line.is c.append_line.ensures.rows

-- ---- a budget
pub append_budget-requires-clause-members : goal.append_budget-requires-clause-members
append_budget-requires-clause-members g c =
    let m = robust g.N.Exact.value c.args.model.now in
    budget_members g.N.Exact.value m c.in-Budget.is c.items.ensures.list c.requires.line

pub append_budget-requires-clause-few : goal.append_budget-requires-clause-few
append_budget-requires-clause-few g c =
    let m = robust g.N.Exact.value c.args.model.now in
    budget_rows_few g.N.Exact.value m _ c.in-Budget.is c.items.ensures.list c.requires.few

pub append_budget-requires-clause-few_lifts : goal.append_budget-requires-clause-few_lifts
append_budget-requires-clause-few_lifts g c =
    let m = robust g.N.Exact.value c.args.model.now in
    budget_lifts_few g.N.Exact.value m _ c.in-Budget.is c.items.ensures.list c.requires.few_lifts

pub returns-in-Budget-clause-rows : goal.returns-in-Budget-clause-rows
returns-in-Budget-clause-rows g c =
    let m = robust g.N.Exact.value c.args.model.now in
    budget_appended g.N.Exact.value m g.N.Exact.limit c.args.statement.number c.args.statement.lift c.args.rows.now
    c.append_budget.new.rows (g.L.Ledger.wides c.args.ledger.now) (g.L.Ledger.wides c.append_budget.new.ledger)
    c.append_budget.result c.in-Budget.is c.items.ensures.list c.append_budget.ensures.rows
