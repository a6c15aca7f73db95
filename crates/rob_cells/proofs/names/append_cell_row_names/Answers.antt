use Rattle.std.proofs.Common.{◌++◌, map, ap, ◌∙◌}
use Rattle.rob_cells.proofs.NameLemmas.{cell_row_names, row_name}
use Rattle.rob_meaning.specs.RobustModel.{Row}
use Rattle.rob_model.specs.View.{adaptive_of, robust, row_of}
use Rattle.rob_pieces.specs.SplitModel.{bound_rows}
use Rattle.rob_cells.proofs.names.append_cell_row_names.Goals as goal

pub returns : goal.returns
returns g c =
    let value = g.N.Exact.value in
    let m = robust value c.args.model.now in
    record {
      appended = cell_row_names m c.args.c c.args.names.now c.push.new.self c.append_own_row_names.new.names
          c.append_bound_names.new.names
          c.in_ok-word.field-0 c.in_ok-cost.cost c.in_ok-word.ensures.equal c.in_ok-cost.ensures.numbered
          c.in_ok-push.ensures.appended
          (c.in_ok-append_own_row_names.ensures.appended
          ∙ ap (λ rs. c.push.new.self ++ map (row_name c.args.c) (map (row_of value) rs)) c.items.ensures.list)
          (c.in_ok-append_bound_names.ensures.appended m 0
          ∙ ap (λ ys. c.append_own_row_names.new.names
          ++ map (λ (r : Row). r.name) (bound_rows m c.args.c 0 (map (adaptive_of value) ys)))
          c.items-2.ensures.list);
    }
