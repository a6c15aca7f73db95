use Rattle.rob_index.proofs.Expanding.ExpansionLemmas.{expands_is, is_expanded}
use Rattle.rob_index.proofs.expansion.one_expansion.Goals as goal

pub returns : goal.returns
returns c = record { is = λ words t setting p h. expands_is words h; some = is_expanded }
