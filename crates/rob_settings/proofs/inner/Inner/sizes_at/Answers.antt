use Rattle.std.proofs.Common.{rules}
use Rattle.std.specs.Int.{w128}
use mir.Val.{SFits}
use Rattle.rob_ranges.specs.DigitLists.{wide_of}
use Rattle.rob_settings.proofs.InnerLemmas.{at_first, at_second}
use Rattle.rob_settings.proofs.inner.Inner.sizes_at.Goals as goal

pub returns-clause-first : goal.returns-clause-first
returns-clause-first c =
    let f : SFits w128 c.value-first.result = search rules in
    at_first c.self.inside.ranges c.args.self.now c.self.inside.lengths c.in_ok-lengths.lengths c.args.values.now
    c.in_ok-lengths.was c.self.view_is c.self.invariant (wide_of c.in_ok-pair.pair.first)
    (wide_of c.in_ok-pair.pair.second) c.value-first.result c.in_ok-pair.ensures.pair.0 c.in_ok-pair.ensures.pair.1 f
    c.value-first.ensures.value

pub returns-clause-second : goal.returns-clause-second
returns-clause-second c =
    let f : SFits w128 c.value-second.result = search rules in
    at_second c.self.inside.ranges c.args.self.now c.self.inside.lengths c.in_ok-lengths.lengths c.args.values.now
    c.in_ok-lengths.was c.self.view_is c.self.invariant (wide_of c.in_ok-pair.pair.first)
    (wide_of c.in_ok-pair.pair.second) c.value-second.result c.in_ok-pair.ensures.pair.0
    c.in_ok-pair.ensures.pair.1 f c.value-second.ensures.value
