use Rattle.std.proofs.Common.{ap, ◌∙◌}
use Rattle.rob_settings.specs.Spots.{picks}
use Rattle.rob_settings.proofs.SpotLemmas.{all_thin}
use Rattle.rob_settings.proofs.spot.thin_places.Goals as goal

pub thin_in-requires : goal.thin_in-requires
thin_in-requires c = record {
  kept =
      all_thin c.args.short c.args.items.now c.items.result.now c.args.settings.now
      (ap (picks c.args.items.now) c.items.ensures.list ∙ c.in_ok-all.ensures.all);
}
