use Rattle.rob_index.proofs.Tokens.ExpandedDepths.{expansion_shallow}
use Rattle.rob_index.proofs.Tokens.LineOpenLemmas.{line_deepest, line_shallow}
use Rattle.rob_index.proofs.Tokens.OpenLemmas.{deepest-bare}
use Rattle.rob_index.proofs.limits.open_lines.Goals as goal

pub returns : goal.returns
returns c = record { depth = line_shallow; line = line_deepest; expanded = expansion_shallow; bare = deepest-bare }
