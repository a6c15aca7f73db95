use Rattle.std.proofs.Common.{arith, map}
use Rattle.rob_model.specs.View.{parameter_of, set_line_of}
use Rattle.rob_model.proofs.GroupLemmas.{members_few}
use Rattle.rob_model.proofs.group.Group.count.Goals as goal

pub row_count-requires : goal.row_count-requires
row_count-requires g c =
    let few = rw c.in-StatementRows.is at c.requires.few in
    let value = g.N.Exact.value in
    record {
      few = omega (
        arith,
        few,
        members_few value (map (parameter_of value) c.in-StatementRows.field-2.now) c.in-StatementRows.field-1
            (set_line_of value c.in-StatementRows.line.now),
      );
    }
