use Rattle.std.proofs.Common.{◌≡◌, ap, ◌∙◌, subst}
use Rattle.std.specs.Prelude.{ℤ, pos, negsuc, ◌+ℤ◌, ◌*ℤ◌, IfOk}
use Rattle.rob_settings.specs.Live.{lack_at}
use Rattle.rob_settings.proofs.live.fall.Goals as goal

pub returns : goal.returns
returns c = record {
  fall =
      let behind =
      c.in_ok-behind.ensures.lack ∙ ap (lack_at c.args.range.now c.args.values.now) c.in_ok-after.ensures.next in
      let same : c.args.here.now +ℤ (c.small-minus_one.result *ℤ c.in_ok-behind.behind)
      ≡ lack_at c.args.range.now c.args.values.now c.args.value.now
      +ℤ (negsuc 0 *ℤ lack_at c.args.range.now c.args.values.now (c.args.value.now +ℤ pos 1)) =
      λ i. c.requires.here i +ℤ (c.small-minus_one.ensures.value i *ℤ behind i) in
      subst (λ (z : ℤ). IfOk c.plus_times.result (λ fall. fall ≡ z)) same c.plus_times.ensures.sum;
}
