use Rattle.rob_linear.proofs.BasisPaths.LastBases.{start_exists}
use Rattle.rob_linear.proofs.BasisPaths.TwoPhases.{slacks_stand, first_start, kept_start}
use Rattle.rob_linear.proofs.phase.start_of_the_path.Goals as goal

pub returns : goal.returns
returns c = record {
  exists = start_exists;
  slacks = slacks_stand;
  auxiliary = λ P basis s. ((first_start P basis s).rows, (first_start P basis s).stands);
  kept = kept_start;
}
