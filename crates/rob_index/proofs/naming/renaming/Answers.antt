use Rattle.rob_index.proofs.Names.RenamingLemmas.{line_depth-renamed, line_tokens-renamed}
use Rattle.rob_index.proofs.naming.renaming.Goals as goal

pub returns : goal.returns
returns c = record { tokens = line_tokens-renamed; depth = line_depth-renamed }
