use Rattle.std.proofs.Common.{◌∙◌, ap, List}
use Rattle.std.specs.Prelude.{ℤ, pos, ◌+ℤ◌}
use Rattle.rob_index.specs.Forms.{weighed}
use Rattle.rob_ranges.specs.Values.{spread}
use Rattle.rob_ranges.proofs.ValueLemmas.{plus_nothing, same_if}
use Rattle.rob_ranges.proofs.values.Values.long_value.Goals as goal

pub returns : goal.returns
returns c =
    let form = c.args.form.now in
    record {
      value =
          same_if c.long_spread.result _ _
          ((λ i. (c.constant.ensures.constant i +ℤ pos 0)
          +ℤ weighed (c.factors.ensures.factors i) (spread (c.as_slice-near.ensures.value i) c.self.inside.far.now))
          ∙ plus_nothing form.constant (weighed form.factors (spread c.self.inside.near.items c.self.inside.far.now))
          ∙ ap (λ (vs : List ℤ). form.constant +ℤ weighed form.factors vs) c.self.view_is)
          c.long_spread.ensures.sum;
    }
