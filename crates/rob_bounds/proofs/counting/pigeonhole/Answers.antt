use Rattle.rob_bounds.proofs.Pigeonhole.{pigeonhole}
use Rattle.rob_bounds.proofs.counting.pigeonhole.Goals as goal

pub returns : goal.returns
returns c = record { twice = pigeonhole }
