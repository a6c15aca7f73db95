use Rattle.rob_reach.proofs.GrowingLemmas.{all_whole, allows_branch, asks_branch, broken_is}
use Rattle.rob_reach.proofs.growing.branching_laws.Goals as goal

pub returns : goal.returns
returns c = record {
  first = λ m names s c j k h. (asks_branch names m.sense s c j k h.decides).broken;
  allowed = allows_branch;
  broken = broken_is;
  whole = all_whole;
}
