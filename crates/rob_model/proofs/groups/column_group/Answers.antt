use Rattle.std.proofs.Common.{◌-◌, map, length, ap, sym, ◌∙◌, List, [], ◌∷◌}
use Rattle.std.specs.Prelude.{Some}
use Rattle.rob_meaning.specs.Names.{Name}
use Rattle.rob_model.specs.GroupNames.{rule_names}
use Rattle.rob_meaning.specs.RobustModel.{Variable}
use Rattle.rob_model.specs.View.{robust, parameter_of, variable_of, adaptive_of}
use Rattle.rob_model.proofs.PlaceLemmas.{mapped, mapped_first, second_list, mapped_length, inside_second}
use Rattle.rob_model.specs.declared.model.Param.{Param}
use Rattle.rob_model.specs.declared.model.Var.{Var}
use Rattle.rob_model.proofs.groups.column_group.Goals as goal

pub returns-then-i-vars : goal.returns-then-i-vars
returns-then-i-vars g c =
    let value = g.N.Exact.value in
    let m = robust value c.args.model.now in
    record {
      group = mapped_first (variable_of value) (λ (x : Variable). x.name ∷ []) c.args.model.now.vars
          c.items-vars.result.now c.items-vars.ensures.list
          c.args.i c.if-i-vars.true c.index-vars-i.result c.index-vars-i.is (map (rule_names m.parameters) m.adaptives)
          ∙ ap (λ (name : Name). Some (name ∷ []))
          (ap (λ (x : Var g.row.N.Denot). x.name) c.index-vars-i.is ∙ sym c.bytes.ensures.list);
    }

pub returns-else-i-vars : goal.returns-else-i-vars
returns-else-i-vars g c =
    let value = g.N.Exact.value in
    let m = robust value c.args.model.now in
    let y = c.index-items-i.result in
    let rules = map (rule_names m.parameters) m.adaptives in
    let count =
    mapped_length (variable_of value) (λ (x : Variable). x.name ∷ []) c.args.model.now.vars c.items-vars.result.now
    c.items-vars.ensures.list in
    let inside =
    inside_second (map (λ (x : Variable). x.name ∷ []) m.variables) rules c.args.i (length c.items-vars.result.now)
    (length c.items.result.now) c.requires.inside count c.if-i-vars.false
    (mapped_length (adaptive_of value) (rule_names m.parameters) c.args.model.now.adaptives c.items.result.now
    c.items.ensures.list) in
    record {
      group = second_list (map (λ (x : Variable). x.name ∷ []) m.variables) rules (length c.items-vars.result.now)
          c.args.i _ count c.if-i-vars.false
          (mapped (adaptive_of value) (rule_names m.parameters) c.args.model.now.adaptives
          c.items.result.now c.items.ensures.list
          (c.args.i - length c.items-vars.result.now) inside y c.index-items-i.is
          ∙ ap (λ (ps : List (Param g.row.N.Denot)).
          Some (rule_names (map (parameter_of value) ps) (adaptive_of value y)))
          (sym c.items-else-i-vars.ensures.list));
    }
