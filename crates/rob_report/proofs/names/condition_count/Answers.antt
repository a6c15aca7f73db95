use Rattle.std.proofs.Common.{◌≡◌, arith, ap, sym, ◌∙◌, map, length}
use Rattle.std.proofs.lemmas.List.{length-map}
use Rattle.rob_meaning.proofs.Naming.NameLemmas.{length-set_condition_names}
use Rattle.rob_meaning.specs.SetConditions.{bounds_from}
use Rattle.rob_model.proofs.ConditionLemmas.{length-bounds}
use Rattle.rob_model.specs.GroupNames.{parameter_bound_names}
use Rattle.rob_model.specs.View.{parameter_of, robust, set_line_of}
use Rattle.rob_report.proofs.NameLemmas.{conditions_few, length-set_conditions, params_few}
use Rattle.rob_report.proofs.names.condition_count.Goals as goal

pub returns-clause-count : goal.returns-clause-count
returns-clause-count g c =
    let value = g.N.Exact.value in
    let m = robust value c.args.model.now in
    let bounds : c.bound_count.result ≡ length (bounds_from 0 m.parameters) = c.bound_count.ensures.count
    ∙ ap (λ ps. length (parameter_bound_names (map (parameter_of value) ps))) c.items.ensures.list
    ∙ sym (length-bounds 0 m.parameters) in
    let lines : length c.items-2.result.now ≡ length m.set_lines
    = ap length c.items-2.ensures.list ∙ sym (length-map c.args.model.now.set_lines (set_line_of value)) in
    omega (arith, bounds, lines, length-set_conditions m, length-set_condition_names m)

pub bound_count-requires : goal.bound_count-requires
bound_count-requires g c = record { few = params_few c.requires.valid c.items.ensures.list }

pub overflow_cast-result : goal.overflow_cast-result
overflow_cast-result g c =
    let few = conditions_few c.requires.valid c.items.ensures.list c.bound_count.ensures.small c.items-2.ensures.list in
    omega arith

pub overflow_add-result : goal.overflow_add-result
overflow_add-result g c =
    let few = conditions_few c.requires.valid c.items.ensures.list c.bound_count.ensures.small c.items-2.ensures.list in
    omega arith

pub returns-clause-small : goal.returns-clause-small
returns-clause-small g c =
    conditions_few c.requires.valid c.items.ensures.list c.bound_count.ensures.small c.items-2.ensures.list
