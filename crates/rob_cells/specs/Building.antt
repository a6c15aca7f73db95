-- The split model as it is built: one cell after another.
use Rattle.std.specs.Prelude.{ℕ, List, [], ◌∷◌, ◌++◌, map, flat_map, length, codes}
use Rattle.rob_meaning.specs.Expressions.{variable}
use Rattle.rob_meaning.specs.RobustModel.{RobustModel, in_set, joint_parameters}
use Rattle.rob_model.specs.View.{Signed}
use Rattle.rob_pieces.specs.Cuts.{Cut}
use Rattle.rob_pieces.specs.SplitModel.{numbered, over_cell, cell_lines, cell_rows, cells_worst, copy_in}

-- a signed expression over cell `c`
abbrev pub signed_over : RobustModel → ℕ → Signed → Signed
signed_over m c s = (s.0, over_cell m c s.1)

-- the split model with the cells of a list alone
abbrev pub split_over : RobustModel → List Cut → List ℕ → RobustModel
split_over m cuts cs = record {
  parameters = joint_parameters m.parameters (map (numbered (codes "cell")) cs);
  sets = map (numbered (codes "cell")) cs;
  set_lines = flat_map (λ c. cell_lines m c cuts) cs;
  line_sets = flat_map (λ c. map (λ item. c) (cell_lines m c cuts)) cs;
  variables = m.variables ++ cells_worst ∷ [];
  adaptives = flat_map (λ c. map (copy_in m c) m.adaptives) cs;
  sense = m.sense;
  objective = variable (length m.variables);
  objective_set = 0;
  rows = flat_map (cell_rows m) cs;
  row_sets = flat_map (λ c. map (λ item. c) (cell_rows m c)) cs;
}

-- a split model with one cell more
abbrev pub with_cell : RobustModel → List Cut → ℕ → RobustModel → RobustModel
with_cell m cuts c s = record s {
  parameters = s.parameters ++ map (in_set (numbered (codes "cell") c)) m.parameters;
  sets = s.sets ++ numbered (codes "cell") c ∷ [];
  set_lines = s.set_lines ++ cell_lines m c cuts;
  line_sets = s.line_sets ++ map (λ item. c) (cell_lines m c cuts);
  adaptives = s.adaptives ++ map (copy_in m c) m.adaptives;
  rows = s.rows ++ cell_rows m c;
  row_sets = s.row_sets ++ map (λ item. c) (cell_rows m c);
}
