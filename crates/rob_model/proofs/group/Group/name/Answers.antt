use Rattle.std.proofs.Common.{arith, map}
use Rattle.rob_model.specs.View.{parameter_of, set_line_of}
use Rattle.rob_model.proofs.GroupLemmas.{members_few}
use Rattle.rob_model.proofs.group.Group.name.Goals as goal

pub row_name-requires-clause-few : goal.row_name-requires-clause-few
row_name-requires-clause-few g c =
    let few = rw c.in-StatementRows.is at c.requires.few in
    let value = g.N.Exact.value in
    omega (
      arith,
      few,
      members_few value (map (parameter_of value) c.in-StatementRows.params.now) c.in-StatementRows.number
          (set_line_of value c.in-StatementRows.line.now),
    )

pub returns-in-Rule : goal.returns-in-Rule
returns-in-Rule g c = rw c.in-Rule.is c.rule_name.ensures
