use Rattle.std.proofs.Common.{◌-◌, ◌+◌, arith, map, length, ap, sym, ◌∙◌, refl, Some, option_map}
use Rattle.std.proofs.lemmas.List.{length-map}
use Rattle.rob_model.specs.GroupNames.{bound_names, statement_row_names}
use Rattle.rob_meaning.specs.RobustModel.{Parameter}
use Rattle.rob_model.specs.NameGroups.{groups_by_number}
use Rattle.rob_model.specs.View.{robust, parameter_of, set_line_of}
use Rattle.rob_model.proofs.PlaceLemmas.{mapped_first, statement_behind, statement_inside}
use Rattle.rob_model.proofs.groups.set_row_group.Goals as goal

pub offset_bounds-items-line : goal.offset_bounds-items-line
offset_bounds-items-line g c =
    let value = g.N.Exact.value in
    let m = robust value c.args.model.now in
    let inside = statement_inside value (λ d. bound_names d.name d.lower d.upper) (statement_row_names m.parameters)
    c.items-params.ensures.list c.items.ensures.list c.args.i c.if-i-params.false c.requires.inside in
    omega (arith, inside)

pub bounds-items-line : goal.bounds-items-line
bounds-items-line g c =
    let value = g.N.Exact.value in
    let m = robust value c.args.model.now in
    statement_inside value (λ d. bound_names d.name d.lower d.upper) (statement_row_names m.parameters)
    c.items-params.ensures.list c.items.ensures.list c.args.i c.if-i-params.false c.requires.inside

pub overflow_cast-result : goal.overflow_cast-result
overflow_cast-result g c =
    let value = g.N.Exact.value in
    let m = robust value c.args.model.now in
    let inside = statement_inside value (λ d. bound_names d.name d.lower d.upper) (statement_row_names m.parameters)
    c.items-params.ensures.list c.items.ensures.list c.args.i c.if-i-params.false c.requires.inside in
    omega (
      arith,
      inside,
      c.requires.valid.limits.set_lines,
      ap length c.items.ensures.list,
      length-map c.args.model.now.set_lines (set_line_of value),
    )

pub overflow_add-result : goal.overflow_add-result
overflow_add-result g c =
    let value = g.N.Exact.value in
    let m = robust value c.args.model.now in
    let inside = statement_inside value (λ d. bound_names d.name d.lower d.upper) (statement_row_names m.parameters)
    c.items-params.ensures.list c.items.ensures.list c.args.i c.if-i-params.false c.requires.inside in
    omega (
      arith,
      inside,
      c.requires.valid.limits.set_lines,
      ap length c.items.ensures.list,
      length-map c.args.model.now.set_lines (set_line_of value),
    )

pub returns-then-i-params : goal.returns-then-i-params
returns-then-i-params g c =
    let value = g.N.Exact.value in
    let m = robust value c.args.model.now in
    let x = c.index-params-i.result in
    record {
      group = mapped_first (parameter_of value) (λ (d : Parameter). bound_names d.name d.lower d.upper)
          c.args.model.now.params c.items-params.result.now c.items-params.ensures.list
          c.args.i c.if-i-params.true x c.index-params-i.is
          (groups_by_number (statement_row_names m.parameters) 1 m.set_lines)
          ∙ ap (λ name. Some (bound_names name (option_map value x.lower) (option_map value x.upper)))
          (sym c.bytes.ensures.list);
    }

pub returns-else-i-params : goal.returns-else-i-params
returns-else-i-params g c =
    let value = g.N.Exact.value in
    let m = robust value c.args.model.now in
    let l = c.index-items-line.result in
    let number = c.args.i - length c.items-params.result.now + 1 in
    let inside = statement_inside value (λ d. bound_names d.name d.lower d.upper) (statement_row_names m.parameters)
    c.items-params.ensures.list c.items.ensures.list c.args.i c.if-i-params.false c.requires.inside in
    record {
      group = statement_behind value (λ d. bound_names d.name d.lower d.upper) (statement_row_names m.parameters)
          c.items-params.ensures.list c.items.ensures.list c.args.i c.if-i-params.false number l inside refl
          c.index-items-line.is
          ∙ ap (λ ps. Some (statement_row_names (map (parameter_of value) ps) number (set_line_of value l)))
          (sym c.items-params.ensures.list);
    }
