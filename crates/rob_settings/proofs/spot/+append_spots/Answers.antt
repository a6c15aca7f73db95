use Rattle.std.proofs.Common.{◌≡◌, List, length, sym, subst, arith}
use Rattle.std.specs.Prelude.{ℤ, false}
use Rattle.std.proofs.lemmas.Result.{on_ok_weaker}
use Rattle.rob_ranges.proofs.SpanLemmas.{behind_of, every_at, front_of}
use Rattle.rob_settings.specs.Spots.{IsThinAt}
use Rattle.rob_settings.proofs.AppendLemmas.{both_values, one_thin, one_value, spots_none, thin_items}
use Rattle.rob_settings.proofs.spot.+append_spots.Goals as goal

pub thin_in-requires : goal.thin_in-requires
thin_in-requires t c = record {
  kept =
      front_of (IsThinAt false c.args.items.now c.args.kept.now) c.args.settings.now c.split_at.result.0.now
      c.split_at.result.1.now c.split_at.ensures.by_index.0 c.requires.kept;
}

pub thin_in-requires-in_default : goal.thin_in-requires-in_default
thin_in-requires-in_default t c = record {
  kept =
      behind_of (IsThinAt false c.args.items.now c.args.kept.now) c.args.settings.now c.split_at.result.0.now
      c.split_at.result.1.now c.split_at.ensures.by_index.0 c.requires.kept;
}

pub append_spots-requires : goal.append_spots-requires
append_spots-requires t c = (
  omega (arith, c.decreases, c.split_at.ensures.front_len, c.middle.ensures.behind),
  (c.requires.done, thin_items _ _ _ _ c.items-in_default.ensures.list c.in_ok-first-in_default.ensures.thin),
)

pub append_spots-requires-in_default : goal.append_spots-requires-in_default
append_spots-requires-in_default t c = (
  omega (arith, c.decreases, c.split_at.ensures.back_len, c.middle.ensures.front, c.middle.ensures.behind),
  (
    c.in_ok-append_spots-in_default.ensures.thin,
    thin_items _ _ _ _ c.items-in_default-2.ensures.list c.in_ok-second-in_default.ensures.thin,
  ),
)

pub returns-in-empty : goal.returns-in-empty
returns-in-empty t c = record {
  values = spots_none c.args.spots.now c.args.settings.now c.in-empty.len_below;
  thin = c.requires.done;
}

pub returns-in-len1 : goal.returns-in-len1
returns-in-len1 t c =
    let one : length c.args.settings.now ≡ 1 = omega (arith, c.in-len1.len_at_least, c.in-len1.len_below) in
    let here : IsThinAt false c.args.items.now c.args.kept.now c.setting-item.result =
    every_at (IsThinAt false c.args.items.now c.args.kept.now) c.args.settings.now 0 c.setting-item.result
    (omega (arith, one)) c.setting-item.is c.requires.kept in
    let there : IsThinAt false c.args.items.now c.args.kept.now c.items.result.now =
    subst (λ (vs : List ℤ). IsThinAt false c.args.items.now c.args.kept.now vs) (sym c.items.ensures.list) here in
    record {
      values =
          on_ok_weaker c.append_spot.result
          (λ made. one_value c.args.spots.now _ _ c.args.settings.now c.setting-item.result one c.setting-item.is
          c.items.ensures.list made)
          c.append_spot.ensures.appended;
      thin =
          on_ok_weaker c.append_spot.result
          (λ made. one_thin c.args.items.now c.args.spots.now _ _ made c.requires.done there)
          c.append_spot.ensures.appended;
    }

pub returns-in_ok-second-in_default : goal.returns-in_ok-second-in_default
returns-in_ok-second-in_default t c = record {
  values =
      on_ok_weaker c.append_spots-in_default.result
      (λ made. both_values c.args.spots.now _ _ c.args.settings.now c.split_at.result.0.now c.split_at.result.1.now
      c.split_at.ensures.by_index.0 c.in_ok-append_spots-in_default.ensures.values made)
      c.append_spots-in_default.ensures.values;
  thin = c.append_spots-in_default.ensures.thin;
}
