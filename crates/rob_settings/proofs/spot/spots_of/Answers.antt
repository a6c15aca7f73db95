use Rattle.std.proofs.Common.{ℕ, List, false, ◌++◌, map, sym, ap, ◌∙◌, subst}
use Rattle.rob_ranges.specs.Spans.{Every}
use Rattle.rob_settings.specs.declared.spot.Spot.{Spot}
use Rattle.rob_settings.specs.Spots.{IsThin, IsThinAt}
use Rattle.rob_settings.proofs.spot.spots_of.Goals as goal

pub append_spots-requires : goal.append_spots-requires
append_spots-requires c = record {
  done = subst (λ (l : List Spot). Every (IsThin c.args.items.now) l) (sym c.new-spots.ensures.empty) tt;
  kept =
      subst (λ (l : List ℕ). Every (IsThinAt false c.args.items.now l) c.args.settings.now) (sym c.items.ensures.list)
      c.in_ok-kept.ensures.thin;
}

pub returns : goal.returns
returns c = record {
  values =
      c.in_ok-append_spots.ensures.values
      ∙ ap (λ (l : List Spot). map (λ (s : Spot). s.values) l ++ c.args.settings.now) c.new-spots.ensures.empty;
  thin = c.in_ok-append_spots.ensures.thin;
}
