use Rattle.std.proofs.Common.{◌++◌, length, ap, sym, ◌∙◌}
use Rattle.std.specs.Prelude.{Some, option_map}
use Rattle.rob_model.specs.GroupNames.{bound_names}
use Rattle.rob_meaning.specs.RobustModel.{Parameter}
use Rattle.rob_model.specs.NameGroups.{parameter_bound_groups, parameter_groups, lift_groups, condition_groups}
use Rattle.rob_model.specs.View.{robust, parameter_of}
use Rattle.rob_model.proofs.PlaceLemmas.{mapped_first, second_list, mapped_length}
use Rattle.rob_model.proofs.groups.set_place_group.Goals as goal

pub returns-then-i-params : goal.returns-then-i-params
returns-then-i-params g c =
    let value = g.N.Exact.value in
    let m = robust value c.args.model.now in
    let x = c.index-params-i.result in
    record {
      group = mapped_first (parameter_of value) (λ (d : Parameter). bound_names d.name d.lower d.upper)
          c.args.model.now.params c.items-params.result.now c.items-params.ensures.list
          c.args.i c.if-i-params.true x c.index-params-i.is
          (condition_groups m ++ (parameter_groups m ++ lift_groups m))
          ∙ ap (λ name. Some (bound_names name (option_map value x.lower) (option_map value x.upper)))
          (sym c.bytes.ensures.list);
    }

pub returns-else-i-params : goal.returns-else-i-params
returns-else-i-params g c =
    let value = g.N.Exact.value in
    let m = robust value c.args.model.now in
    record {
      group = second_list (parameter_bound_groups m) (condition_groups m ++ (parameter_groups m ++ lift_groups m))
          (length c.items-params.result.now) c.args.i _
          (mapped_length (parameter_of value) (λ (d : Parameter). bound_names d.name d.lower d.upper)
          c.args.model.now.params c.items-params.result.now c.items-params.ensures.list) c.if-i-params.false
          c.condition_group.ensures.group;
    }
