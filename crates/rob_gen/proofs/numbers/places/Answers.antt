use Rattle.std.proofs.Common.{◌≡◌, refl, ap, ◌∙◌, arith}
use Rattle.rob_gen.specs.Generated.{places}
use Rattle.rob_meaning.proofs.Lists.TabulateLemmas.{item_more}
use Rattle.rob_gen.proofs.numbers.places.Goals as goal

pub loop-place-preserved : goal.loop-place-preserved
loop-place-preserved c = item_more (λ k. k) c.loop-place.list c.loop-place.place c.loop-place.place
    c.in_ok-push.ensures.appended refl c.loop-place.invariant

pub returns : goal.returns
returns c = record {
  list = c.loop-place.invariant ∙ ap places
      (let e : c.loop-place.place ≡ c.args.count = omega arith in e);
}
