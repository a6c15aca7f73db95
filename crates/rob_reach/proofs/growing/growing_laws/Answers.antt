use Rattle.rob_reach.proofs.GrowingLemmas.{leaves_bounded}
use Rattle.rob_reach.proofs.GrownLemmas.{grown, grown_on, grown_proves, grown_true}
use Rattle.rob_reach.proofs.GrownTreeLemmas.{grown_is_tree}
use Rattle.rob_reach.proofs.RuleLemmas.{leaves_at_most_1000}
use Rattle.rob_reach.proofs.growing.growing_laws.Goals as goal
use Rattle.rob_reach.specs.Growing.{start}

pub returns : goal.returns
returns c = record {
  proves = λ m names t h. (grown_proves m names t h, grown_on m names t h);
  true_of = λ m names t model bounded h. grown_true m names t h model bounded;
  leaves = λ m names t model bounded h. leaves_bounded m model names bounded start h.after t.root h.grows;
  small = λ m names t model e h. leaves_at_most_1000 m model names e t h;
  kept = λ m names t model e h. grown_is_tree m names t h model e;
  ends = λ m names model bounded solve. grown m model names bounded solve;
}
