use Rattle.std.proofs.Common.{arith, rules}
use Rattle.std.specs.Int.{w128}
use mir.Val.{SFits}
use Rattle.std.specs.Prelude.{ℤ, pos, ◌≤ℤ◌}
use Rattle.std.proofs.lemmas.Int.{ints, to_z-of_z}
use Rattle.rob_settings.proofs.InnerLemmas.{apart_lacks, apart_short, first_lacks, first_short, seen_below}
use Rattle.rob_settings.proofs.inner.Inner.is_quiet_in.Goals as goal

pub returns-then-sizes-lt-SHORTEST-clause-empty : goal.returns-then-sizes-lt-SHORTEST-clause-empty
returns-then-sizes-lt-SHORTEST-clause-empty c t vs within =
    let f : SFits w128 c.in-Some.sizes.first = search rules in
    let most = c.in-Some.ensures.first vs within in
    let below = seen_below c.in-Some.sizes.first f t in
    first_lacks c.args.self.now vs (omega (arith, ints, most, below))

pub returns-then-sizes-lt-SHORTEST-clause-short : goal.returns-then-sizes-lt-SHORTEST-clause-short
returns-then-sizes-lt-SHORTEST-clause-short c t vs within =
    let f : SFits w128 c.in-Some.sizes.first = search rules in
    let most = c.in-Some.ensures.first vs within in
    let below = seen_below c.in-Some.sizes.first f t in
    first_short c.args.self.now vs (omega (arith, ints, most, below))

pub returns-then-sizes-le-LONGEST-clause-empty : goal.returns-then-sizes-le-LONGEST-clause-empty
returns-then-sizes-le-LONGEST-clause-empty c t vs within =
    let f : SFits w128 c.in-Some.sizes.second = search rules in
    let below = seen_below c.in-Some.sizes.second f t in
    apart_lacks c.args.self.now vs
    (λ p q. let least = c.in-Some.ensures.apart vs within p q in absurd (omega (arith, ints, least, below)))

pub returns-then-sizes-le-LONGEST-clause-short : goal.returns-then-sizes-le-LONGEST-clause-short
returns-then-sizes-le-LONGEST-clause-short c t vs within =
    let f : SFits w128 c.in-Some.sizes.second = search rules in
    let g : SFits w128 c.in-Some.sizes.first = search rules in
    let e = to_z-of_z w128 c.in-Some.sizes.first g in
    let k : c.in-Some.sizes.first ≤ℤ pos 99 = omega (arith, ints, e, c.if-sizes-le-LONGEST.true) in
    let first = c.in-Some.ensures.first vs within in
    let below = seen_below c.in-Some.sizes.second f t in
    apart_short c.args.self.now vs
    (λ p q. let least = c.in-Some.ensures.apart vs within p q in absurd (omega (arith, ints, least, below)))
    (omega (arith, ints, first, k))
