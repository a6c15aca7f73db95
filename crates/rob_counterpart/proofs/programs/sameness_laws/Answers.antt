use Rattle.rob_counterpart.proofs.Positions.SameSystems.{reform_same, over_set_same, master_same, systems_same, auxiliaries_same}
use Rattle.rob_counterpart.proofs.Positions.SamePaths.{same_back}
use Rattle.rob_counterpart.proofs.programs.sameness_laws.Goals as goal

pub returns : goal.returns
returns c = record {
  counterpart = reform_same;
  over_set = over_set_same;
  master = master_same;
  systems = systems_same;
  auxiliaries = auxiliaries_same;
  symmetric = same_back;
}
