use Rattle.rob_top.proofs.ByHand.WorkedCells.{a_cell_is_empty, a_demand_is_split, a_split_is_written}
use Rattle.rob_top.proofs.ByHand.WorkedCutRules.{calm_is_named, e_is_no_parameter}
use Rattle.rob_top.proofs.worked.cutting.Goals as goal

pub returns : goal.returns
returns c = record {
  pieces = a_demand_is_split;
  split = a_split_is_written;
  empty_cell = a_cell_is_empty;
  uncut = e_is_no_parameter;
  set_uncut = calm_is_named;
}
