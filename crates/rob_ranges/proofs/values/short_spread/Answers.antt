use Rattle.std.proofs.Common.{arith}
use Rattle.std.proofs.lemmas.Int.{ints}
use Rattle.rob_ranges.proofs.ValueLemmas.{none_at, place_at}
use Rattle.rob_ranges.proofs.values.short_spread.Goals as goal

pub returns-in-empty : goal.returns-in-empty
returns-in-empty c = record {
  sum =
      let none = none_at c.args.near.now c.loop-place.place-index c.place-item.result c.args.far.now
      c.loop-place.rest.now c.behind.result.now c.loop-place-test.true c.place-item.is
      c.behind.ensures.behind c.in-empty.len_below in
      omega (arith, ints, none, c.loop-place.invariant);
}

pub loop-place-preserved : goal.loop-place-preserved
loop-place-preserved c =
    let step = place_at c.args.near.now c.loop-place.place-index c.place-item.result c.args.far.now
    c.loop-place.rest.now c.behind.result.now c.loop-place-test.true c.place-item.is
    c.behind.ensures.behind c.factor-item.result c.in-len1-up.len_at_least c.factor-item.is in
    let next = c.in_ok-sum-in-len1-up.ensures.sum in
    omega (arith, ints, step, next, c.loop-place.invariant)
