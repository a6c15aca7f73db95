-- Short forms for linear inequalities of fractions.
use Rattle.std.specs.Prelude.{◌≡◌, pos, List, []}
use Rattle.std.proofs.Common.{arith, sym, subst}
use Rattle.std.proofs.lemmas.Int.{ints}
use Rattle.rob_algebra.specs.Fraction.{Fraction, ◌≤ℚ◌, ◌<ℚ◌}
use Rattle.rob_algebra.specs.FractionPairs.{is_int}
use Rattle.rob_algebra.specs.FractionOrderLaws as Q
use Rattle.rob_algebra.specs.PairOrder.{is_pos_in}
use Rattle.rob_algebra.specs.FractionLaws.{ℚ_ring}
use Rattle.rob_algebra.specs.Polynomials.{Expr, norm, lit, ◌:-◌, ◌:*◌}
use Rattle.rob_algebra.specs.RingSolver.{eval}
use Rattle.rob_meaning.specs.Places.{0ℚ, 1ℚ}

pub zero_le_one : 0ℚ ≤ℚ 1ℚ
zero_le_one = Q.int_nonneg (pos 1) (omega (arith, ints))

pub zero_lt_one : 0ℚ <ℚ 1ℚ
zero_lt_one = is_pos_in (is_int (pos 1)) (omega (arith, ints))

-- r - l is q - p
pub le_by : (ρ : List Fraction) (l r p q : Expr) → norm (r :- l :- lit (pos 1) :* (q :- p)) ≡ [] →
    eval ℚ_ring ρ p ≤ℚ eval ℚ_ring ρ q → eval ℚ_ring ρ l ≤ℚ eval ℚ_ring ρ r
le_by ρ l r p q e h = Q.le_one ρ l r (lit (pos 1)) p q e zero_le_one h

pub le_along : {a b c : Fraction} → a ≡ b → b ≤ℚ c → a ≤ℚ c
le_along {a} {b} {c} e h = subst (λ z. z ≤ℚ c) (sym e) h

pub along_le : {a b c : Fraction} → a ≡ b → a ≤ℚ c → b ≤ℚ c
along_le {a} {b} {c} e h = subst (λ z. z ≤ℚ c) e h
