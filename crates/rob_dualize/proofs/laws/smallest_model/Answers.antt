use Rattle.std.specs.Prelude.{◌-◌, ◌^◌}
use Rattle.rob_bounds.proofs.NarrowPaths.{narrow_path}
use Rattle.rob_counterpart.specs.Counterpart.{counterpart, set_program}
use Rattle.rob_dualize.specs.SmallestModel.{one_demand}
use Rattle.rob_dualize.proofs.NarrowModels.{one_demand_model, one_demand_admitted, one_demand_costs_12, one_demand_narrow, one_demand_not_wide}
use Rattle.rob_dualize.proofs.laws.smallest_model.Goals as goal

pub returns : goal.returns
returns c = record {
  model = one_demand_model;
  admitted = one_demand_admitted;
  status = one_demand_costs_12;
  narrow = one_demand_narrow;
  set_rows = narrow_path (2 ^ 62 - 1) (set_program one_demand) one_demand_narrow.set;
  counterpart_rows = narrow_path (2 ^ 62 - 1) (counterpart one_demand) one_demand_narrow.counterpart;
  not_wide = one_demand_not_wide;
}
