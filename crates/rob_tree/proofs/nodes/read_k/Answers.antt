use Rattle.std.proofs.Common.{◌∙◌}
use Rattle.rob_tree.proofs.Readers.LineLemmas.{limit_word, told_limit}
use Rattle.rob_tree.proofs.nodes.read_k.Goals as goal

pub returns-then-k-LIMIT-clause-k : goal.returns-then-k-LIMIT-clause-k
returns-then-k-LIMIT-clause-k g c =
    limit_word g.N.Exact.limit g.met.N.Exact.limit_high c.args.word.now c.in_ok-k.k c.in_ok-k.ensures.whole.0
    c.in_ok-k.ensures.whole.1
    (told_limit g.N.Exact.limit g.met.N.Exact.limit_high c.in_ok-k.k c.LIMIT.result c.in_ok-k.ensures.whole.0
    (c.LIMIT.ensures ∙ g.met.N.Exact.limit_told) c.if-k-LIMIT.true)
