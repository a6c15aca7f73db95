use Rattle.std.proofs.Common.{pos, ap, sym, ◌∙◌}
use Rattle.rob_number.proofs.CastLemmas.{shifted_fits, shifted_less, limit-inside, limit-outside}
use Rattle.rob_number.proofs.fraction.FracExact.LIMIT.Goals as goal

pub overflow_sub-result : goal.overflow_sub-result
overflow_sub-result g c = shifted_fits g.row.B c.if-this-le62.true

pub returns-then-this-le62 : goal.returns-then-this-le62
returns-then-this-le62 g c =
    shifted_less g.row.B c.if-this-le62.true
    ∙ ap pos (sym (limit-inside g.row.B c.if-this-ge8.true c.if-this-le62.true))

pub returns-else-this-ge8 : goal.returns-else-this-ge8
returns-else-this-ge8 g c = ap pos (sym (limit-outside g.row.B c.else-this-ge8.either))
