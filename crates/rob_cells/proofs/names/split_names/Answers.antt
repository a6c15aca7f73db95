use Rattle.std.proofs.Common.{◌++◌, map, ap, ◌∙◌, suc}
use Rattle.std.specs.Prelude.{flat_map}
use Rattle.rob_cells.proofs.NameLemmas.{copy_names_in, names_are}
use Rattle.rob_cells.specs.View.{cut_of}
use Rattle.rob_meaning.specs.Places.{tabulate}
use Rattle.rob_model.specs.View.{adaptive_of}
use Rattle.rob_model.specs.declared.model.Param.{Param}
use Rattle.rob_model.specs.declared.model.Var.{Var}
use Rattle.rob_cells.proofs.names.split_names.Goals as goal

pub returns : goal.returns
returns g c =
    let value = g.N.Exact.value in
    let model = c.args.model.now in
    record {
      names = names_are value model (map (cut_of value) c.args.cuts.now) c.cell_count-cells.result
          c.append_param_names.new.names
          c.append_set_names.new.names c.append_row_names.new.names c.append_var_names.new.names c.push.new.self
          c.append_copy_names.new.names
          c.in_ok-word.field-0 c.cell_count-cells.ensures.count
          (c.in_ok-append_param_names.ensures.appended
          ∙ ap (λ ns. ns ++ map (λ (p : Param g.row.N.Denot). p.name) c.items.result.now) c.new-names.ensures.empty
          ∙ ap (λ ps. map (λ (p : Param g.row.N.Denot). p.name) ps) c.items.ensures.list)
          c.in_ok-append_set_names.ensures.appended
          c.in_ok-append_row_names.ensures.appended
          (c.in_ok-append_var_names.ensures.appended
          ∙ ap (λ xs. c.append_row_names.new.names ++ map (λ (x : Var g.row.N.Denot). x.name) xs)
          c.items-2.ensures.list)
          c.in_ok-word.ensures.equal
          c.in_ok-push.ensures.appended
          (c.in_ok-append_copy_names.ensures.appended
          ∙ ap (λ ys. c.push.new.self ++ flat_map (copy_names_in (map (adaptive_of value) ys))
          (tabulate c.cell_count-cells.result suc)) c.items-3.ensures.list);
    }
