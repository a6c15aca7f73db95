use Rattle.rob_syntax.specs.Seen.{seen_statement}
use Rattle.rob_syntax.proofs.LimitLemmas.{line_told}
use Rattle.rob_syntax.proofs.indexed.limits.is_line.Goals as goal

pub returns : goal.returns
returns c = record { line = line_told (seen_statement c.args.statement.now) _ c.is_within.ensures.line }
