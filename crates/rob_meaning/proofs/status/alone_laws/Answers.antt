use Rattle.rob_meaning.proofs.Conditions.AdmittedLemmas.{one_set_law}
use Rattle.rob_meaning.proofs.Scenarios.OneSetLemmas.{alone_bound_law, joint_alone_law, well_formed_law}
use Rattle.rob_meaning.proofs.status.alone_laws.Goals as goal

pub returns : goal.returns
returns c = record {
  well_formed = well_formed_law;
  admitted = λ m u model alone. one_set_law m model alone u;
  joint = λ m u model alone. joint_alone_law m model alone u;
  bound = λ m plan tau model alone. alone_bound_law m model alone plan tau;
}
