use Rattle.std.proofs.Common.{rules}
use Rattle.std.specs.Int.{w128}
use mir.Val.{SFits}
use Rattle.rob_settings.proofs.InnerLemmas.{empty_first, empty_second, seen_below}
use Rattle.rob_settings.proofs.inner.Inner.is_empty_at.Goals as goal

pub returns-then-sizes-lt-SHORTEST : goal.returns-then-sizes-lt-SHORTEST
returns-then-sizes-lt-SHORTEST c = record {
  empty = λ t.
      let f : SFits w128 c.in-Some.sizes.first = search rules in
      empty_first c.args.self.now c.args.values.now c.in-Some.sizes.first c.in-Some.sizes.second
      c.in-Some.ensures.first c.in-Some.ensures.second (seen_below c.in-Some.sizes.first f t);
}

pub returns-else-sizes-lt-SHORTEST : goal.returns-else-sizes-lt-SHORTEST
returns-else-sizes-lt-SHORTEST c = record {
  empty = λ t.
      let f : SFits w128 c.in-Some.sizes.second = search rules in
      empty_second c.args.self.now c.args.values.now c.in-Some.sizes.first c.in-Some.sizes.second
      c.in-Some.ensures.first c.in-Some.ensures.second (seen_below c.in-Some.sizes.second f t);
}
