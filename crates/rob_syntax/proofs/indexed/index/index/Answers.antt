use Rattle.rob_syntax.specs.Seen.{seen_atom}
use Rattle.rob_syntax.proofs.Fronts.IndexLemmas.{index_found, no_index}
use Rattle.rob_syntax.proofs.indexed.index.index.Goals as goal

pub returns-in_default : goal.returns-in_default
returns-in_default c = record { read = no_index c.in_default.ensures.read }

pub returns : goal.returns
returns c = record { read = index_found (seen_atom c.in-Some.first) c.in-Some.ensures.read c.in_ok-more.ensures.read }
