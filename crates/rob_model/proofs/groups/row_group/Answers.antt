use Rattle.std.proofs.Common.{◌++◌, length, ap, sym, ◌∙◌}
use Rattle.std.specs.Prelude.{Some}
use Rattle.rob_model.specs.GroupNames.{side_names}
use Rattle.rob_meaning.specs.RobustModel.{Row}
use Rattle.rob_model.specs.NameGroups.{row_groups, variable_bound_groups, adaptive_bound_groups}
use Rattle.rob_model.specs.View.{robust, relation_of, row_of}
use Rattle.rob_model.proofs.PlaceLemmas.{mapped_first, second_list, mapped_length}
use Rattle.rob_model.proofs.groups.row_group.Goals as goal

pub returns-then-i-rows : goal.returns-then-i-rows
returns-then-i-rows g c =
    let value = g.N.Exact.value in
    let m = robust value c.args.model.now in
    let r = c.index-rows-i.result in
    record {
      group = mapped_first (row_of value) (λ (r : Row). side_names r.relation r.name) c.args.model.now.rows
          c.items-rows.result.now c.items-rows.ensures.list
          c.args.i c.if-i-rows.true r c.index-rows-i.is (variable_bound_groups m ++ adaptive_bound_groups m)
          ∙ ap (λ name. Some (side_names (relation_of r.rel) name)) (sym c.bytes.ensures.list);
    }

pub returns-else-i-rows : goal.returns-else-i-rows
returns-else-i-rows g c =
    let value = g.N.Exact.value in
    let m = robust value c.args.model.now in
    record {
      group = second_list (row_groups m) (variable_bound_groups m ++ adaptive_bound_groups m)
          (length c.items-rows.result.now) c.args.i _
          (mapped_length (row_of value) (λ (r : Row). side_names r.relation r.name) c.args.model.now.rows
          c.items-rows.result.now c.items-rows.ensures.list) c.if-i-rows.false c.bound_group.ensures.group;
    }
