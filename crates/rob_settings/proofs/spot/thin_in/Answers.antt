use Rattle.rob_ranges.specs.Spans.{IsIn}
use Rattle.rob_settings.proofs.SpotLemmas.{thin_if_same, thin_if_busy}
use Rattle.rob_settings.proofs.spot.thin_in.Goals as goal

pub returns-in-None : goal.returns-in-None
returns-in-None c = record {
  thin =
      thin_if_same c.args.short c.args.items.now c.args.kept.now c.args.settings.now c.copied.result
      c.copied.ensures.names
      c.requires.kept;
}

pub returns-in-Some : goal.returns-in-Some
returns-in-Some c = record {
  thin =
      thin_if_busy c.args.short c.args.items.now c.args.kept.now c.args.settings.now (IsIn c.in-Some.span)
      c.busy_places.result
      c.busy_places.ensures.busy c.in-Some.ensures.span c.requires.kept;
}
