use Rattle.std.proofs.Common.{◌≡◌, ◌+◌, ◌++◌, arith, ap, sym, ◌∙◌, map, length}
use Rattle.std.proofs.lemmas.List.{length-map}
use Rattle.std.proofs.lemmas.Result.{on_ok_weaker}
use Rattle.rob_cert.specs.Spelling.{name_at}
use Rattle.rob_meaning.specs.Names.{set_condition_names}
use Rattle.rob_meaning.specs.SetConditions.{bounds_from}
use Rattle.rob_model.proofs.ConditionLemmas.{length-bounds}
use Rattle.rob_model.specs.GroupNames.{parameter_bound_names}
use Rattle.rob_model.specs.View.{parameter_of, robust, set_line_of}
use Rattle.rob_report.proofs.NameLemmas.{length-set_conditions, params_few}
use Rattle.rob_report.proofs.names.put_statement.Goals as goal

pub put_condition-requires-clause-inside : goal.put_condition-requires-clause-inside
put_condition-requires-clause-inside g c =
    let value = g.N.Exact.value in
    let m = robust value c.args.model.now in
    let bounds : c.bound_count.result ≡ length (bounds_from 0 m.parameters)
    = c.bound_count.ensures.count
    ∙ ap (λ ps. length (parameter_bound_names (map (parameter_of value) ps))) c.items.ensures.list
    ∙ sym (length-bounds 0 m.parameters) in
    omega (
      arith,
      bounds,
      c.requires.inside,
      length-map c.args.model.now.set_lines (set_line_of value),
      length-set_conditions m,
    )

pub returns : goal.returns
returns g c =
    let value = g.N.Exact.value in
    let m = robust value c.args.model.now in
    let bounds : c.bound_count.result ≡ length (bounds_from 0 m.parameters)
    = c.bound_count.ensures.count
    ∙ ap (λ ps. length (parameter_bound_names (map (parameter_of value) ps))) c.items.ensures.list
    ∙ sym (length-bounds 0 m.parameters) in
    record {
      appended = on_ok_weaker c.put_condition.result
          (λ e. e ∙ ap (λ n. c.args.out.now ++ name_at (set_condition_names m) (n + c.args.index)) bounds)
          c.put_condition.ensures.appended;
    }

pub bound_count-requires : goal.bound_count-requires
bound_count-requires g c = record { few = params_few c.requires.valid c.items.ensures.list }
