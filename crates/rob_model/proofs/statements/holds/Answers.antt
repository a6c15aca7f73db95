use Rattle.std.proofs.lemmas.Result.{err_from_is_err_and}
use Rattle.std.proofs.Common.{map}
use Rattle.rob_model.specs.View.{robust}
use Rattle.rob_model.proofs.BudgetLemmas.{budget_positive, budget_stops, budget_is}
use Rattle.rob_model.proofs.statements.holds.Goals as goal

pub total_deviation-requires : goal.total_deviation-requires
total_deviation-requires g c =
    let value = g.N.Exact.value in
    record {
      positive = budget_positive value (robust value c.args.model.now) c.args.line.now c.in-Budget.limit
          c.in-Budget.members c.items.result.now c.in-Budget.is c.items.ensures.list c.requires.line;
    }

pub returns-in_err-total-in-Budget-clause-exact : goal.returns-in_err-total-in-Budget-clause-exact
returns-in_err-total-in-Budget-clause-exact g c =
    let value = g.N.Exact.value in
    let m = robust value c.args.model.now in
    let p = err_from_is_err_and c.from_residual-in_err-total-in-Budget.result
    c.from_residual-in_err-total-in-Budget.ensures.1 in
    rw p.1 (budget_stops value m c.args.line.now c.in-Budget.limit c.in-Budget.members c.items.result.now
    c.in-Budget.is c.items.ensures.list
    g.N.Exact.limit (value c.args.base) (map value c.args.vector.now) (c.in_err-total-in-Budget.ensures.exact m))

pub returns-in_ok-scaled-in-Budget-clause-exact : goal.returns-in_ok-scaled-in-Budget-clause-exact
returns-in_ok-scaled-in-Budget-clause-exact g c =
    let value = g.N.Exact.value in
    let m = robust value c.args.model.now in
    budget_is value m c.args.line.now c.in-Budget.limit c.in-Budget.members c.items.result.now
    c.in-Budget.is c.items.ensures.list
    g.N.Exact.limit (value c.args.base) (map value c.args.vector.now) (value c.in_ok-total-in-Budget.total)
    (c.in_ok-total-in-Budget.ensures.exact m)
    (value c.in_ok-scaled-in-Budget.scaled) c.at_most.result
    c.in_ok-scaled-in-Budget.ensures.exact c.at_most.ensures.test
