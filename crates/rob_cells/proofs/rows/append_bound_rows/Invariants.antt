use Rattle.std.proofs.Common.{◌≡◌, ◌++◌, map, drop}
use Rattle.rob_model.specs.View.{adaptive_of, robust, row_of}
use Rattle.rob_pieces.specs.SplitModel.{bound_rows}
use Rattle.rob_cells.proofs.rows.append_bound_rows.Given as goal

-- the rows so far, and those of the adaptive variables that are left
abbrev pub invariant-loop-adaptive : goal.invariant-loop-adaptive
invariant-loop-adaptive g l =
    let value = g.N.Exact.value in
    let rows = bound_rows (robust value l.model) l.c in
    record {
      number : l.k ≡ l.adaptive-index;
      made : map (row_of value) l.list ++ rows l.k (map (adaptive_of value) (drop l.adaptive-index l.model.adaptives))
          ≡ map (row_of value) l.fn.list ++ rows 0 (map (adaptive_of value) l.model.adaptives);
    }
