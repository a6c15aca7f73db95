use Rattle.std.proofs.Common.{◌≡◌, sym, ap, ◌∙◌, subst}
use Rattle.std.specs.Prelude.{ℤ, negsuc, ◌+ℤ◌, ◌*ℤ◌, IfOk}
use Rattle.rob_index.specs.Forms.{Form, value_of, length_form}
use Rattle.rob_index.proofs.Faults.FormLemmas.{plus_times_is}
use Rattle.rob_judge.proofs.judging.length_at.Goals as goal

pub returns : goal.returns
returns c = record {
  length =
      let r = c.args.range.now in
      let vs = c.args.values.now in
      let from = c.in_ok-from.ensures.value ∙ ap (λ (f : Form). value_of f vs) c.from.ensures.from in
      let upto = c.in_ok-upto.ensures.value ∙ ap (λ (f : Form). value_of f vs) c.upto.ensures.upto in
      let same : c.in_ok-upto.upto +ℤ (c.small-minus_one.result *ℤ c.in_ok-from.from)
      ≡ value_of (length_form r) vs =
      (λ i. upto i +ℤ (c.small-minus_one.ensures.value i *ℤ from i)) ∙ sym (plus_times_is r.upto (negsuc 0) r.from vs)
      in
      subst (λ (z : ℤ). IfOk c.plus_times.result (λ length. length ≡ z)) same c.plus_times.ensures.sum;
}
