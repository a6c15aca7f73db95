use Rattle.std.proofs.Common.{◌∙◌, ap, rules}
use Rattle.std.specs.Prelude.{ℤ, ◌+ℤ◌, ◌*ℤ◌}
use mir.Syntax.{w64}
use mir.Val.{SFits}
use Rattle.std.proofs.lemmas.Int.{to_z-of_z}
use Rattle.rob_index.specs.Forms.{weighed}
use Rattle.rob_ranges.specs.Values.{spread}
use Rattle.rob_ranges.proofs.ValueLemmas.{all_far, long_added, none_added, none_first, place_first, same_if, short_added}
use Rattle.rob_ranges.proofs.values.+long_spread.Goals as goal

pub returns-in-empty : goal.returns-in-empty
returns-in-empty t c = record {
  sum =
      same_if c.long_weighed.result _ _
      (λ i. (c.args.number.now +ℤ to_z-of_z w64 c.args.short c.ranges.short i)
      +ℤ weighed c.args.factors.now (all_far c.args.near.now c.args.far.now c.in-empty.len_below i))
      c.long_weighed.ensures.sum;
}

pub returns-in-empty-behind : goal.returns-in-empty-behind
returns-in-empty-behind t c = record {
  sum =
      same_if c.plus_short.result _ _
      (ap (λ (z : ℤ). c.args.number.now +ℤ z) (to_z-of_z w64 c.args.short c.ranges.short)
      ∙ none_added (c.args.number.now +ℤ c.args.short)
      (weighed c.args.factors.now (spread c.args.near.now c.args.far.now))
      (none_first c.args.near.now c.place-item.result c.args.far.now c.args.factors.now c.behind.result.now
      c.in-len1-up.len_at_least c.place-item.is c.behind.ensures.behind c.in-empty-behind.len_below))
      c.plus_short.ensures.sum;
}

pub returns-in-Some : goal.returns-in-Some
returns-in-Some t c =
    let fits : SFits w64 c.in-Some.next = search rules in
    let step = place_first c.args.near.now c.place-item.result c.args.far.now c.args.factors.now c.behind.result.now
    c.in-len1-up.len_at_least c.place-item.is c.behind.ensures.behind c.factor-item.result
    c.in-len1-up-behind.len_at_least c.factor-item.is in
    record {
      sum =
          same_if c.long_spread.result _ _
          (short_added c.args.number.now _ c.args.short _ _ _
          (to_z-of_z w64 c.in-Some.next fits ∙ c.in-Some.ensures.sum
          ∙ ap (λ (z : ℤ). z +ℤ (c.factor-item.result *ℤ c.place-item.result.value))
          (to_z-of_z w64 c.args.short c.ranges.short)) step)
          c.long_spread.ensures.sum;
    }

pub returns-in_ok-next-in-None : goal.returns-in_ok-next-in-None
returns-in_ok-next-in-None t c =
    let step = place_first c.args.near.now c.place-item.result c.args.far.now c.args.factors.now c.behind.result.now
    c.in-len1-up.len_at_least c.place-item.is c.behind.ensures.behind c.factor-item.result
    c.in-len1-up-behind.len_at_least c.factor-item.is in
    record {
      sum =
          same_if c.long_spread-in-None.result _ _
          (long_added c.args.number.now _ c.args.short _ _ _ _ c.in_ok-next-in-None.ensures.sum
          (to_z-of_z w64 c.args.short c.ranges.short) step)
          c.long_spread-in-None.ensures.sum;
    }
