use Rattle.std.proofs.Common.{◌∙◌}
use Rattle.rob_model.proofs.SmallLemmas.{at_map, at_past}
use Rattle.rob_model.proofs.numbers.number_at.Goals as goal

pub returns-then-place-numbers-clause-value : goal.returns-then-place-numbers-clause-value
returns-then-place-numbers-clause-value g c =
    at_map g.N.Exact.value c.args.numbers.now c.args.place c.index-numbers-place.result c.if-place-numbers.true
    c.index-numbers-place.is

pub returns-else-place-numbers-clause-value : goal.returns-else-place-numbers-clause-value
returns-else-place-numbers-clause-value g c =
    c.zero.ensures.value ∙ at_past g.N.Exact.value c.args.numbers.now c.args.place c.if-place-numbers.false
