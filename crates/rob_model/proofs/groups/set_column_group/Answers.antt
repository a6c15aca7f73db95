use Rattle.std.proofs.Common.{◌-◌, ◌+◌, arith, map, length, ap, sym, ◌∙◌, [], ◌∷◌, refl, Some}
use Rattle.std.proofs.lemmas.List.{length-map}
use Rattle.rob_meaning.specs.Names.{Name}
use Rattle.rob_model.specs.GroupNames.{lift_names}
use Rattle.rob_meaning.specs.RobustModel.{Parameter}
use Rattle.rob_model.specs.NameGroups.{lift_groups}
use Rattle.rob_model.specs.View.{robust, parameter_of, set_line_of}
use Rattle.rob_model.proofs.PlaceLemmas.{mapped_first, statement_behind, statement_inside}
use Rattle.rob_model.specs.declared.model.Param.{Param}
use Rattle.rob_model.proofs.groups.set_column_group.Goals as goal

pub offset_bounds-items-line : goal.offset_bounds-items-line
offset_bounds-items-line g c =
    let value = g.N.Exact.value in
    let m = robust value c.args.model.now in
    let inside = statement_inside value (λ d. d.name ∷ []) (lift_names m.parameters) c.items-params.ensures.list
    c.items.ensures.list c.args.i c.if-i-params.false c.requires.inside in
    omega (arith, inside)

pub bounds-items-line : goal.bounds-items-line
bounds-items-line g c =
    let value = g.N.Exact.value in
    let m = robust value c.args.model.now in
    statement_inside value (λ d. d.name ∷ []) (lift_names m.parameters) c.items-params.ensures.list
    c.items.ensures.list c.args.i c.if-i-params.false c.requires.inside

pub overflow_cast-result : goal.overflow_cast-result
overflow_cast-result g c =
    let value = g.N.Exact.value in
    let m = robust value c.args.model.now in
    let inside = statement_inside value (λ d. d.name ∷ []) (lift_names m.parameters) c.items-params.ensures.list
    c.items.ensures.list c.args.i c.if-i-params.false c.requires.inside in
    omega (
      arith,
      inside,
      c.requires.valid.limits.set_lines,
      ap length c.items.ensures.list,
      length-map c.args.model.now.set_lines (set_line_of value),
    )

pub overflow_add-result : goal.overflow_add-result
overflow_add-result g c =
    let value = g.N.Exact.value in
    let m = robust value c.args.model.now in
    let inside = statement_inside value (λ d. d.name ∷ []) (lift_names m.parameters) c.items-params.ensures.list
    c.items.ensures.list c.args.i c.if-i-params.false c.requires.inside in
    omega (
      arith,
      inside,
      c.requires.valid.limits.set_lines,
      ap length c.items.ensures.list,
      length-map c.args.model.now.set_lines (set_line_of value),
    )

pub returns-then-i-params : goal.returns-then-i-params
returns-then-i-params g c =
    let value = g.N.Exact.value in
    let m = robust value c.args.model.now in
    let x = c.index-params-i.result in
    record {
      group = mapped_first (parameter_of value) (λ (d : Parameter). d.name ∷ []) c.args.model.now.params
          c.items-params.result.now c.items-params.ensures.list
          c.args.i c.if-i-params.true x c.index-params-i.is (lift_groups m)
          ∙ ap (λ (name : Name). Some (name ∷ []))
          (ap (λ (x : Param g.row.N.Denot). x.name) c.index-params-i.is ∙ sym c.bytes.ensures.list);
    }

pub returns-else-i-params : goal.returns-else-i-params
returns-else-i-params g c =
    let value = g.N.Exact.value in
    let m = robust value c.args.model.now in
    let l = c.index-items-line.result in
    let number = c.args.i - length c.items-params.result.now + 1 in
    let inside = statement_inside value (λ d. d.name ∷ []) (lift_names m.parameters) c.items-params.ensures.list
    c.items.ensures.list c.args.i c.if-i-params.false c.requires.inside in
    record {
      group = statement_behind value (λ d. d.name ∷ []) (lift_names m.parameters) c.items-params.ensures.list
          c.items.ensures.list c.args.i c.if-i-params.false number l inside refl c.index-items-line.is
          ∙ ap (λ ps. Some (lift_names (map (parameter_of value) ps) number (set_line_of value l)))
          (sym c.items-params.ensures.list);
    }
