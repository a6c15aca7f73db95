use Rattle.std.proofs.Common.{rules}
use Rattle.std.specs.Int.{w128}
use mir.Val.{SFits}
use Rattle.rob_ranges.specs.Shorts.{short_value}
use Rattle.rob_settings.proofs.InnerLemmas.{seen_least}
use Rattle.rob_settings.proofs.inner.apart_in.Goals as goal

pub returns-then-second-lt-SHORTEST : goal.returns-then-second-lt-SHORTEST
returns-then-second-lt-SHORTEST c = record {
  apart = λ vs within p q.
      let f : SFits w128 c.most-second.result = search rules in
      seen_least (short_value c.args.lengths.now.second vs) c.most-second.result f
      (c.most-second.ensures.most vs within) p;
}

pub returns : goal.returns
returns c = record {
  apart = λ vs within p q.
      let f : SFits w128 c.most.result = search rules in
      seen_least (short_value c.args.lengths.now.combined vs) c.most.result f (c.most.ensures.most vs within) q;
}
