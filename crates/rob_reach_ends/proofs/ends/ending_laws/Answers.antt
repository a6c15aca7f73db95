use Rattle.rob_reach_ends.proofs.EndingLemmas as lemmas
use Rattle.rob_reach_ends.proofs.ends.ending_laws.Goals as goal

pub returns : goal.returns
returns c = record {
  solves = λ m inside model admitted. lemmas.solves m model inside admitted;
  grows = λ m names inside model bounded admitted. lemmas.tree_grows m model inside admitted names bounded;
  status = λ m names inside model bounded admitted. lemmas.whole_status m model inside admitted names bounded;
}
