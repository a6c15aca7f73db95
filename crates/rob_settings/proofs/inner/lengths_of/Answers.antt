use Rattle.rob_settings.proofs.InnerLemmas.{kept_are}
use Rattle.rob_settings.proofs.inner.lengths_of.Goals as goal

pub returns : goal.returns
returns c = record {
  lengths =
      kept_are c.args.ranges.now c.in_ok-first.first c.in_ok-second.second c.in_ok-combined.combined c.all_short.result
      c.in_ok-first.ensures.length c.in_ok-second.ensures.length c.all_short.ensures.first c.all_short.ensures.second
      c.all_short.ensures.combined c.in_ok-combined.ensures.combined;
}
