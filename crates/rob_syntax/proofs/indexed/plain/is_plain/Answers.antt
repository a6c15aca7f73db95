use Rattle.rob_syntax.specs.Seen.{seen_statement}
use Rattle.rob_syntax.proofs.PlainLemmas.{plain_told}
use Rattle.rob_syntax.proofs.indexed.plain.is_plain.Goals as goal

pub returns : goal.returns
returns c = record { plain = plain_told (seen_statement c.args.statement.now) _ c.is_plain_line.ensures.plain }
