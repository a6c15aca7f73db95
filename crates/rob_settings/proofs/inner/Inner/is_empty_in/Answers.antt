use Rattle.std.proofs.Common.{arith, rules}
use Rattle.std.specs.Int.{w128}
use mir.Val.{SFits}
use Rattle.std.proofs.lemmas.Int.{ints}
use Rattle.rob_settings.proofs.InnerLemmas.{apart_lacks, first_lacks, seen_below}
use Rattle.rob_settings.proofs.inner.Inner.is_empty_in.Goals as goal

pub returns-then-sizes-lt-SHORTEST : goal.returns-then-sizes-lt-SHORTEST
returns-then-sizes-lt-SHORTEST c = record {
  empty = λ t vs within.
      let f : SFits w128 c.in-Some.sizes.first = search rules in
      let most = c.in-Some.ensures.first vs within in
      let below = seen_below c.in-Some.sizes.first f t in
      first_lacks c.args.self.now vs (omega (arith, ints, most, below));
}

pub returns-else-sizes-lt-SHORTEST : goal.returns-else-sizes-lt-SHORTEST
returns-else-sizes-lt-SHORTEST c = record {
  empty = λ t vs within.
      let f : SFits w128 c.in-Some.sizes.second = search rules in
      let below = seen_below c.in-Some.sizes.second f t in
      apart_lacks c.args.self.now vs
      (λ p q. let least = c.in-Some.ensures.apart vs within p q in absurd (omega (arith, ints, least, below)));
}
