use Rattle.std.proofs.Common.{arith, map}
use Rattle.rob_model.specs.Spelling.{name_of}
use Rattle.rob_model.specs.View.{parameter_of}
use Rattle.rob_model.proofs.GroupLemmas.{length-rows, row_of_budget}
use Rattle.rob_model.proofs.group.row_name.Goals as goal

pub budget_row_name-requires-clause-inside : goal.budget_row_name-requires-clause-inside
budget_row_name-requires-clause-inside g c =
    let value = g.N.Exact.value in
    omega (
      arith,
      c.requires.inside,
      length-rows value (map (parameter_of value) c.args.params.now) c.args.number c.args.line.now c.in-Budget.limit
          c.in-Budget.members c.items.result.now c.in-Budget.is c.items.ensures.list,
    )

pub returns-in-Budget : goal.returns-in-Budget
returns-in-Budget g c =
    let value = g.N.Exact.value in
    record {
      name = row_of_budget value (map (parameter_of value) c.args.params.now) c.args.number c.args.line.now
          c.in-Budget.limit c.in-Budget.members c.items.result.now c.in-Budget.is c.items.ensures.list
          c.args.index (name_of c.budget_row_name.result) (c.budget_row_name.ensures.name (value c.in-Budget.limit));
    }
