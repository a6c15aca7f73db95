use Rattle.rob_linear.proofs.BasisPaths.ProgramPaths.{turned_unique, turned_bounded, last_unique}
use Rattle.rob_linear.proofs.BasisPaths.LastBases.{last_exists}
use Rattle.rob_linear.proofs.path.path_of_a_program.Goals as goal

pub returns : goal.returns
returns c = record {
  one = turned_unique;
  bounded = turned_bounded;
  last = last_unique;
  ends = last_exists;
}
