use Rattle.rob_algebra.proofs.ListLemmas.{long_enough}
use Rattle.std.proofs.Common.{◌-◌, ◌++◌, List, map, length, ap, ◌∙◌, arith, ℕ}
use Rattle.rob_cells.proofs.BuildingLemmas.{added}
use Rattle.rob_cells.specs.View.{cut_of}
use Rattle.rob_meaning.specs.Places.{tabulate}
use Rattle.rob_meaning.specs.RobustModel.{in_set}
use Rattle.rob_model.specs.View.{adaptive_of, parameter_of, robust, row_of, set_line_of}
use Rattle.rob_pieces.specs.SplitModel.{copy_in, numbered}
use Rattle.rob_cells.proofs.split.add_cell.Goals as goal

pub overflow_sub-count : goal.overflow_sub-count
overflow_sub-count g c =
    omega (
      arith,
      ap length c.items-lines.ensures.list,
      ap length c.items-2.ensures.list,
      long_enough (set_line_of g.N.Exact.value) c.args.split.now.set_lines c.append_cell_lines.new.list _
          c.in_ok-append_cell_lines.ensures.appended,
    )

pub overflow_sub-count-2 : goal.overflow_sub-count-2
overflow_sub-count-2 g c =
    omega (
      arith,
      ap length c.items-rows.ensures.list,
      ap length c.items-4.ensures.list,
      long_enough (row_of g.N.Exact.value) c.args.split.now.rows c.append_cell_rows.new.list _
          c.in_ok-append_cell_rows.ensures.appended,
    )

pub returns : goal.returns
returns g c =
    let value = g.N.Exact.value in
    let m = robust value c.args.model.now in
    record {
      added = added value m (map (cut_of value) c.args.cuts.now) c.args.c c.args.split.now c.in_ok-set.set
          c.append_params_in.new.list c.push.new.self c.append_cell_lines.new.list c.append_number.new.list
          c.append_copies.new.list c.append_cell_rows.new.list c.append_number-2.new.list
          (c.in_ok-set.ensures.numbered ∙ ap (λ (word : List ℕ). numbered word c.args.c) c.in_ok-word.ensures.equal)
          (c.in_ok-append_params_in.ensures.appended
          ∙ ap (λ ps. map (parameter_of value) c.args.split.now.params
          ++ map (in_set c.in_ok-set.set) (map (parameter_of value) ps)) c.items.ensures.list)
          c.in_ok-push.ensures.appended
          c.in_ok-append_cell_lines.ensures.appended
          (c.in_ok-append_number.ensures.appended
          ∙ ap (λ n. c.args.split.now.line_sets ++ tabulate n (λ _. c.args.c))
          (ap (λ xs. length xs - length c.items-lines.result.now) c.items-2.ensures.list
          ∙ ap (λ xs. length c.append_cell_lines.new.list - length xs) c.items-lines.ensures.list))
          (c.in_ok-append_copies.ensures.appended m
          ∙ ap (λ ys. map (adaptive_of value) c.args.split.now.adaptives
          ++ map (copy_in m c.args.c) (map (adaptive_of value) ys)) c.items-3.ensures.list)
          c.in_ok-append_cell_rows.ensures.appended
          (c.in_ok-append_number-2.ensures.appended
          ∙ ap (λ n. c.args.split.now.row_sets ++ tabulate n (λ _. c.args.c))
          (ap (λ xs. length xs - length c.items-rows.result.now) c.items-4.ensures.list
          ∙ ap (λ xs. length c.append_cell_rows.new.list - length xs) c.items-rows.ensures.list));
    }
