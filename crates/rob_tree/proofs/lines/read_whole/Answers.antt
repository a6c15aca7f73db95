use mir.Val.{of_z}
use Rattle.std.proofs.Common.{◌∙◌, ap, w64}
use Rattle.std.specs.Prelude.{pos}
use Rattle.rob_tree.proofs.Readers.LineLemmas.{no_whole, not_whole}
use Rattle.rob_tree.proofs.lines.read_whole.Goals as goal

pub returns-in-None-clause-whole : goal.returns-in-None-clause-whole
returns-in-None-clause-whole g c =
    no_whole g.N.Exact.limit g.met.N.Exact.limit_low c.args.word.now c.in-None.ensures.number

pub returns-else-den-eq1-clause-whole : goal.returns-else-den-eq1-clause-whole
returns-else-den-eq1-clause-whole g c =
    not_whole g.N.Exact.limit g.met.N.Exact.limit_low g.met.N.Exact.limit_high c.args.word.now
    (g.N.Exact.value c.in-Some.number)
    (g.met.N.Exact.fits c.in-Some.number) c.in-Some.ensures.number
    (λ e. c.if-den-eq1.false (ap (λ z. of_z w64 z) (c.den.ensures.denominator ∙ ap pos e)))
