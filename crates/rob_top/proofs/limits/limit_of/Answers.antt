use Rattle.std.proofs.Common.{◌∙◌}
use Rattle.rob_parse.proofs.Degrees.NumberLemmas.{limit_seen}
use Rattle.rob_top.proofs.Telling.LimitLemmas.{no_limit_seen, parts_fit, value_read}
use Rattle.rob_top.proofs.limits.limit_of.Goals as goal

pub fraction-requires-clause-numerator : goal.fraction-requires-clause-numerator
fraction-requires-clause-numerator g c =
    (parts_fit _ g.N.Exact.limit
    (limit_seen _ g.N.Exact.limit (c.LIMIT.ensures ∙ g.met.N.Exact.limit_told) g.met.N.Exact.limit_high)
    c.args.word.now c.in-Some.numerator c.in-Some.denominator c.in-Some.ensures.limit g.met.N.Exact.limit_low).0

pub fraction-requires-clause-denominator : goal.fraction-requires-clause-denominator
fraction-requires-clause-denominator g c =
    (parts_fit _ g.N.Exact.limit
    (limit_seen _ g.N.Exact.limit (c.LIMIT.ensures ∙ g.met.N.Exact.limit_told) g.met.N.Exact.limit_high)
    c.args.word.now c.in-Some.numerator c.in-Some.denominator c.in-Some.ensures.limit g.met.N.Exact.limit_low).1.0

pub fraction-requires-clause-positive : goal.fraction-requires-clause-positive
fraction-requires-clause-positive g c =
    (parts_fit _ g.N.Exact.limit
    (limit_seen _ g.N.Exact.limit (c.LIMIT.ensures ∙ g.met.N.Exact.limit_told) g.met.N.Exact.limit_high)
    c.args.word.now c.in-Some.numerator c.in-Some.denominator c.in-Some.ensures.limit g.met.N.Exact.limit_low).1.1

pub returns-in-None-clause-limit : goal.returns-in-None-clause-limit
returns-in-None-clause-limit g c =
    no_limit_seen _ g.N.Exact.limit
    (limit_seen _ g.N.Exact.limit (c.LIMIT.ensures ∙ g.met.N.Exact.limit_told) g.met.N.Exact.limit_high)
    c.args.word.now c.in-None.ensures.limit

pub returns-in-Some-clause-limit : goal.returns-in-Some-clause-limit
returns-in-Some-clause-limit g c =
    value_read _ g.N.Exact.limit
    (limit_seen _ g.N.Exact.limit (c.LIMIT.ensures ∙ g.met.N.Exact.limit_told) g.met.N.Exact.limit_high)
    c.args.word.now c.in-Some.numerator c.in-Some.denominator c.in-Some.ensures.limit
    (g.N.Exact.value c.fraction.result) c.fraction.ensures.value
