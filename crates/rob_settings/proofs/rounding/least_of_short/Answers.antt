use Rattle.std.proofs.Common.{◌≡◌, ◌∙◌, sym, subst, arith, rules, to_z, of_z}
use mir.Syntax.{w32}
use mir.Val.{SFits}
use Rattle.std.specs.Int.{w128}
use Rattle.std.specs.Prelude.{ℤ}
use Rattle.std.proofs.lemmas.Int.{ints, to_z-of_z}
use Rattle.rob_number.proofs.CastLemmas.{seen_wide}
use Rattle.rob_ranges.specs.DigitLists.{wide_of}
use Rattle.rob_settings.specs.Rests.{IsRest}
use Rattle.rob_settings.proofs.RoundingLemmas.{least_is}
use Rattle.rob_settings.proofs.rounding.least_of_short.Goals as goal

pub returns : goal.returns
returns c =
    let divisor = c.divisor_of-divisor.result in
    let first_fits : SFits w32 c.args.form.first = search rules in
    let second_fits : SFits w32 c.args.form.second = search rules in
    let first : to_z w128 (of_z w128 c.from.result) ≡ c.args.form.first =
    subst (λ (z : ℤ). to_z w128 (of_z w128 z) ≡ c.args.form.first)
    (sym (c.from.ensures ∙ to_z-of_z w32 c.args.form.first first_fits))
    (seen_wide c.args.form.first (omega (arith, ints, first_fits))) in
    let second : to_z w128 (of_z w128 c.from-2.result) ≡ c.args.form.second =
    subst (λ (z : ℤ). to_z w128 (of_z w128 z) ≡ c.args.form.second)
    (sym (c.from-2.ensures ∙ to_z-of_z w32 c.args.form.second second_fits))
    (seen_wide c.args.form.second (omega (arith, ints, second_fits))) in
    let constant : to_z w128 (of_z w128 c.value.result) ≡ wide_of c.args.form.constant =
    seen_wide c.value.result (omega (arith, c.value.ensures.size)) ∙ c.value.ensures.value in
    record {
      least = λ vs.
          least_is c.args.form vs divisor c.rest-first.result c.rest-second.result c.rest-constant.result
          c.where_none.result
          (subst (λ (z : ℤ). IsRest z divisor c.rest-first.result) first c.rest-first.ensures.rest)
          (subst (λ (z : ℤ). IsRest z divisor c.rest-second.result) second c.rest-second.ensures.rest)
          (subst (λ (z : ℤ). IsRest z divisor c.rest-constant.result) constant c.rest-constant.ensures.rest)
          c.where_none.ensures.none;
    }
