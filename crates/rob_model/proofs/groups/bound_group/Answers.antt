use Rattle.std.proofs.Common.{◌-◌, length, ap, sym, ◌∙◌}
use Rattle.std.specs.Prelude.{Some, option_map}
use Rattle.rob_model.specs.GroupNames.{bound_names}
use Rattle.rob_meaning.specs.RobustModel.{Variable, AdaptiveVariable}
use Rattle.rob_model.specs.NameGroups.{variable_bound_groups, adaptive_bound_groups}
use Rattle.rob_model.specs.View.{robust, variable_of, adaptive_of}
use Rattle.rob_model.proofs.PlaceLemmas.{mapped, mapped_first, second_list, mapped_length, inside_second}
use Rattle.rob_model.proofs.groups.bound_group.Goals as goal

pub returns-then-i-vars : goal.returns-then-i-vars
returns-then-i-vars g c =
    let value = g.N.Exact.value in
    let x = c.index-vars-i.result in
    record {
      group = mapped_first (variable_of value) (λ (x : Variable). bound_names x.name x.lower x.upper)
          c.args.model.now.vars c.items-vars.result.now c.items-vars.ensures.list
          c.args.i c.if-i-vars.true x c.index-vars-i.is (adaptive_bound_groups (robust value c.args.model.now))
          ∙ ap (λ name. Some (bound_names name (option_map value x.lower) (option_map value x.upper)))
          (sym c.bytes.ensures.list);
    }

pub returns-else-i-vars : goal.returns-else-i-vars
returns-else-i-vars g c =
    let value = g.N.Exact.value in
    let m = robust value c.args.model.now in
    let y = c.index-items-i.result in
    let count =
    mapped_length (variable_of value) (λ (x : Variable). bound_names x.name x.lower x.upper) c.args.model.now.vars
    c.items-vars.result.now c.items-vars.ensures.list in
    let inside =
    inside_second (variable_bound_groups m) (adaptive_bound_groups m) c.args.i (length c.items-vars.result.now)
    (length c.items.result.now) c.requires.inside count c.if-i-vars.false
    (mapped_length (adaptive_of value) (λ (y : AdaptiveVariable). bound_names y.name y.lower y.upper)
    c.args.model.now.adaptives c.items.result.now c.items.ensures.list) in
    record {
      group = second_list (variable_bound_groups m) (adaptive_bound_groups m) (length c.items-vars.result.now) c.args.i
          _ count c.if-i-vars.false
          (mapped (adaptive_of value) (λ (y : AdaptiveVariable). bound_names y.name y.lower y.upper)
          c.args.model.now.adaptives c.items.result.now c.items.ensures.list
          (c.args.i - length c.items-vars.result.now) inside y c.index-items-i.is
          ∙ ap (λ name. Some (bound_names name (option_map value y.lower) (option_map value y.upper)))
          (sym c.bytes-else-i-vars.ensures.list));
    }
