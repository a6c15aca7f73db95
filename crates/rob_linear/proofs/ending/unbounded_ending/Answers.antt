use Rattle.rob_linear.proofs.Meaning.Optimality.{unbounded_ending}
use Rattle.rob_linear.proofs.Meaning.Truths.{unbounded_parts}
use Rattle.rob_linear.proofs.ending.unbounded_ending.Goals as goal

pub returns : goal.returns
returns c = record {
  ray = unbounded_ending;
  scaled = unbounded_parts;
}
