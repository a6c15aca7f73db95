use Rattle.rob_top.proofs.Coming.CompletenessLemmas.{means_complete}
use Rattle.rob_top.proofs.laws.completeness.Goals as goal

pub returns : goal.returns
returns c = record { complete = means_complete }
