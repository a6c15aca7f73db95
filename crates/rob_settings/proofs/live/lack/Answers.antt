use Rattle.std.proofs.Common.{◌≡◌, ◌∷◌, ◌∙◌, ap, subst}
use Rattle.std.specs.Prelude.{ℤ, ◌+ℤ◌, ◌*ℤ◌, IfOk}
use Rattle.rob_index.specs.Forms.{Form, value_of}
use Rattle.rob_settings.specs.Live.{lack_at}
use Rattle.rob_settings.proofs.live.lack.Goals as goal

pub returns : goal.returns
returns c = record {
  lack =
      let inside = c.args.value.now ∷ c.args.values.now in
      let from = c.in_ok-from.ensures.value ∙ ap (λ (f : Form). value_of f inside) c.from.ensures.from in
      let upto = c.in_ok-upto.ensures.value ∙ ap (λ (f : Form). value_of f inside) c.upto.ensures.upto in
      let same : c.in_ok-from.from +ℤ (c.small-minus_one.result *ℤ c.in_ok-upto.upto)
      ≡ lack_at c.args.range.now c.args.values.now c.args.value.now =
      λ i. from i +ℤ (c.small-minus_one.ensures.value i *ℤ upto i) in
      subst (λ (z : ℤ). IfOk c.plus_times.result (λ lack. lack ≡ z)) same c.plus_times.ensures.sum;
}
