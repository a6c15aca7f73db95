-- Where no member has a deviation of 0, deviations are positive.
use Rattle.std.proofs.Common.{◌≡◌, ℕ, zero, suc, ◌<◌, false, List, [], ◌∷◌, arith}
use Rattle.std.specs.Prelude.{◌==◌, pos, unwrap_or}
use Rattle.std.specs.List.{list_any}
use Rattle.rob_algebra.specs.Fraction.{◌<ℚ◌}
use Rattle.rob_algebra.specs.FractionPairs.{is_of_pair, pos_lt}
use Rattle.rob_algebra.specs.PairOrder.{is_pos_in}
use Rattle.std.proofs.lemmas.Bool.{or_parts}
use Rattle.rob_meaning.specs.Places.{0ℚ, Each}
use Rattle.rob_syntax.specs.declared.syntax.Member.{Member}
use Rattle.rob_parse.specs.Building.{FitsMember}
use Rattle.rob_rules.specs.Faults.{is_certain}
use Rattle.rob_parse.specs.Written.{fraction}

some : (n : ℕ) → (n == 0) ≡ false → 0 < n
some zero h = cc
some (suc n) h = omega arith

-- a member's deviation is positive
deviation_positive : (limit : ℕ) (h : Member) → is_certain h ≡ false → FitsMember limit h
    → 0ℚ <ℚ fraction h.spread.deviation
deviation_positive limit h deviates fits =
    let n = h.spread.deviation.numerator in
    is_pos_in (is_of_pair (pos n) (unwrap_or h.spread.deviation.divisor 1) fits.1.positive) (pos_lt n (some n deviates))

pub deviations_positive : (limit : ℕ) (ms : List Member) → list_any is_certain ms ≡ false → Each (FitsMember limit) ms
    → Each (λ (h : Member). 0ℚ <ℚ fraction h.spread.deviation) ms
deviations_positive limit [] deviate fits = tt
deviations_positive limit (h ∷ ms) deviate fits =
    let b = or_parts (is_certain h) (list_any is_certain ms) deviate in
    (deviation_positive limit h b.0 fits.0, deviations_positive limit ms b.1 fits.1)
