use Rattle.std.proofs.Common.{rules, sym, ap, subst, ◌∙◌, ℤ, pos, ◌≤ℤ◌, int_lt, w32, SFits}
use Rattle.std.specs.Int.{w128}
use Rattle.std.proofs.lemmas.Int.{to_z-of_z}
use Rattle.rob_ranges.specs.Shorts.{short_value}
use Rattle.rob_ranges.proofs.SpanLemmas.{most_is}
use Rattle.rob_ranges.proofs.span.Span.most.Goals as goal

pub returns : goal.returns
returns c = record {
  most = λ vs within.
      let a : SFits w32 c.args.form.first = search rules in
      let b : SFits w32 c.args.form.second = search rules in
      let f : SFits w128 c.value.result = search rules in
      subst (λ (z : ℤ). short_value c.args.form vs ≤ℤ z) (sym (to_z-of_z w128 c.value.result f ∙ c.value.ensures.value))
      (most_is c.args.form c.args.self vs _ _ c.far-first.result c.far-second.result within
      (ap (λ (z : ℤ). int_lt z (pos 0)) (to_z-of_z w32 c.args.form.first a))
      (ap (λ (z : ℤ). int_lt z (pos 0)) (to_z-of_z w32 c.args.form.second b))
      c.far-first.ensures.far c.far-second.ensures.far);
}
