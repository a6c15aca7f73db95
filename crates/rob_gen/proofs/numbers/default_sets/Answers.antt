use Rattle.std.proofs.Common.{◌≡◌, refl, ap, ◌∙◌, arith}
use Rattle.rob_meaning.specs.Places.{tabulate}
use Rattle.rob_meaning.proofs.Lists.TabulateLemmas.{item_more}
use Rattle.rob_gen.proofs.numbers.default_sets.Goals as goal

pub loop-preserved : goal.loop-preserved
loop-preserved c = item_more (λ _. 0) c.loop.list 0 c.loop.counter c.in_ok-push.ensures.appended refl c.loop.invariant

pub returns : goal.returns
returns c = record {
  list = c.loop.invariant ∙ ap (λ k. tabulate k (λ _. 0))
      (let e : c.loop.counter ≡ c.args.count = omega arith in e);
}
