use Rattle.std.proofs.Common.{ap, length}
use Rattle.rob_tree.proofs.Readers.LineLemmas.{no_claim}
use Rattle.rob_tree.proofs.lines.read_optimum.Goals as goal

pub returns-in-None-clause-claim : goal.returns-in-None-clause-claim
returns-in-None-clause-claim g c =
    no_claim g.N.Exact.limit c.args.line.now c.requires.other.0 c.requires.other.1
    (λ word e. c.in-None.ensures.words (ap length e))
