use Rattle.std.proofs.Common.{◌≡◌, ◌∙◌, ap₂, sym, subst, arith, to_z, of_z, nat_abs}
use Rattle.std.specs.Int.{w128, int_rem_euclid}
use Rattle.std.proofs.lemmas.Int.{to_z-of_z}
use Rattle.std.specs.Prelude.{ℤ, pos}
use Rattle.rob_number.proofs.CastLemmas.{seen_wide}
use Rattle.rob_settings.specs.Rests.{IsRest}
use Rattle.rob_settings.proofs.RoundingLemmas.{rest_is, size_of}
use Rattle.rob_settings.proofs.rounding.rest.Goals as goal

pub returns : goal.returns
returns c =
    let r = c.rem_euclid.result in
    let number : to_z w128 (of_z w128 c.args.number) ≡ c.args.number = to_z-of_z w128 c.args.number c.ranges.number in
    let divisor : to_z w128 (of_z w128 c.from.result) ≡ pos c.args.divisor =
    subst (λ (z : ℤ). to_z w128 (of_z w128 z) ≡ z) (sym c.from.ensures)
    (seen_wide (pos c.args.divisor) (omega (arith, c.ranges.divisor)))
    ∙ c.from.ensures in
    let value : r ≡ int_rem_euclid c.args.number (pos c.args.divisor) =
    c.rem_euclid.ensures.value ∙ ap₂ int_rem_euclid number divisor in
    let known = rest_is c.args.number c.args.divisor (nat_abs r) c.requires.divisor
    (sym value ∙ size_of r c.rem_euclid.ensures.lower_bound) in
    let back : to_z w128 (of_z w128 r) ≡ r = seen_wide r (omega (arith, known.less, c.ranges.divisor)) in
    record { rest = subst (λ (z : ℤ). IsRest c.args.number c.args.divisor (nat_abs z)) (sym back) known }
