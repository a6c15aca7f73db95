use Rattle.std.proofs.Common.{arith, rules}
use Rattle.std.specs.Int.{w128}
use mir.Val.{SFits}
use Rattle.std.specs.Prelude.{ℤ, pos, ◌≤ℤ◌}
use Rattle.std.proofs.lemmas.Int.{ints, to_z-of_z}
use Rattle.rob_settings.proofs.InnerLemmas.{empty_first, empty_second, short_first, short_second, seen_below}
use Rattle.rob_settings.proofs.inner.Inner.is_quiet_at.Goals as goal

pub returns-then-sizes-lt-SHORTEST-clause-empty : goal.returns-then-sizes-lt-SHORTEST-clause-empty
returns-then-sizes-lt-SHORTEST-clause-empty c t =
    let f : SFits w128 c.in-Some.sizes.first = search rules in
    empty_first c.args.self.now c.args.values.now c.in-Some.sizes.first c.in-Some.sizes.second
    c.in-Some.ensures.first c.in-Some.ensures.second (seen_below c.in-Some.sizes.first f t)

pub returns-then-sizes-lt-SHORTEST-clause-short : goal.returns-then-sizes-lt-SHORTEST-clause-short
returns-then-sizes-lt-SHORTEST-clause-short c t =
    let f : SFits w128 c.in-Some.sizes.first = search rules in
    short_first c.args.self.now c.args.values.now c.in-Some.sizes.first c.in-Some.sizes.second
    c.in-Some.ensures.first c.in-Some.ensures.second (seen_below c.in-Some.sizes.first f t)

pub returns-then-sizes-le-LONGEST-clause-empty : goal.returns-then-sizes-le-LONGEST-clause-empty
returns-then-sizes-le-LONGEST-clause-empty c t =
    let f : SFits w128 c.in-Some.sizes.second = search rules in
    empty_second c.args.self.now c.args.values.now c.in-Some.sizes.first c.in-Some.sizes.second
    c.in-Some.ensures.first c.in-Some.ensures.second (seen_below c.in-Some.sizes.second f t)

pub returns-then-sizes-le-LONGEST-clause-short : goal.returns-then-sizes-le-LONGEST-clause-short
returns-then-sizes-le-LONGEST-clause-short c t =
    let f : SFits w128 c.in-Some.sizes.second = search rules in
    let g : SFits w128 c.in-Some.sizes.first = search rules in
    let e = to_z-of_z w128 c.in-Some.sizes.first g in
    let k : c.in-Some.sizes.first ≤ℤ pos 99 = omega (arith, ints, e, c.if-sizes-le-LONGEST.true) in
    short_second c.args.self.now c.args.values.now c.in-Some.sizes.first c.in-Some.sizes.second
    c.in-Some.ensures.first c.in-Some.ensures.second k (seen_below c.in-Some.sizes.second f t)
