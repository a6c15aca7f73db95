use Rattle.rob_linear.proofs.KeptOut.BesideLoops.{beside_starts, slacks_start, start_stands}
use Rattle.rob_linear.proofs.first_phase.start_beside.Goals as goal

pub returns : goal.returns
returns c = record {
  auxiliary =
      λ P slacks rows e sl h l. (beside_starts P slacks rows e sl h l, start_stands P slacks rows e l.inside sl h);
  slacks = slacks_start;
}
