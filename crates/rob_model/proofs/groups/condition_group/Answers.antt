use Rattle.std.proofs.Common.{◌+◌, ◌++◌, length, refl}
use Rattle.rob_model.specs.GroupNames.{condition_names}
use Rattle.rob_model.specs.NameGroups.{parameter_groups, lift_groups, condition_groups}
use Rattle.rob_model.specs.View.{robust}
use Rattle.rob_model.proofs.PlaceLemmas.{second_list, statement_first, statement_length, inside_second}
use Rattle.rob_model.proofs.groups.condition_group.Goals as goal

pub set_column_group-requires-clause-inside : goal.set_column_group-requires-clause-inside
set_column_group-requires-clause-inside g c =
    let value = g.N.Exact.value in
    let m = robust value c.args.model.now in
    inside_second (condition_groups m) (parameter_groups m ++ lift_groups m) c.args.i (length c.items-lines.result.now)
    (length (parameter_groups m ++ lift_groups m)) c.requires.inside
    (statement_length value condition_names c.args.model.now.set_lines c.items-lines.result.now
    c.items-lines.ensures.list) c.if-i-lines.false refl

pub returns-then-i-lines : goal.returns-then-i-lines
returns-then-i-lines g c =
    let value = g.N.Exact.value in
    let m = robust value c.args.model.now in
    record {
      group = statement_first value condition_names c.args.model.now.set_lines c.items-lines.result.now
          c.items-lines.ensures.list c.args.i (c.args.i + 1) c.if-i-lines.true refl
          c.index-lines-i.result c.index-lines-i.is (parameter_groups m ++ lift_groups m);
    }

pub returns-else-i-lines : goal.returns-else-i-lines
returns-else-i-lines g c =
    let value = g.N.Exact.value in
    let m = robust value c.args.model.now in
    record {
      group = second_list (condition_groups m) (parameter_groups m ++ lift_groups m)
          (length c.items-lines.result.now) c.args.i _
          (statement_length value condition_names c.args.model.now.set_lines c.items-lines.result.now
          c.items-lines.ensures.list) c.if-i-lines.false c.set_column_group.ensures.group;
    }
