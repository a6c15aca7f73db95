-- What stays within two numbers all along a direction doesn't move.
use Rattle.std.specs.Prelude.{◌≡◌, pos, [], ◌∷◌, refl, ◌⊎◌}
use Rattle.std.proofs.Common.{inl, inr}
use Rattle.rob_algebra.specs.Fraction.{Fraction, ◌+ℚ◌, ◌-ℚ◌, ◌*ℚ◌, ◌≤ℚ◌, ◌<ℚ◌}
use Rattle.rob_algebra.specs.FractionOrderLaws.{le_total_ℚ, le_antisym_ℚ, not_lt_ℚ, lt_from, lt_le_trans_ℚ, le_lt_trans_ℚ}
use Rattle.rob_algebra.specs.Polynomials.{lit, ◌:+◌, ◌:-◌, v0}
use Rattle.rob_meaning.proofs.Lists.LinearLemmas.{zero_lt_one}
use Rattle.rob_meaning.proofs.Proving.ProvesLemmas.{reached}
use Rattle.rob_meaning.specs.Places.{0ℚ, 1ℚ}
use Rattle.rob_meaning.specs.RobustModel.{maximise, minimise}

-- what stays within two numbers however often s is added doesn't move
pub stands_still : (p s l b : Fraction) → ((t : Fraction) → 0ℚ ≤ℚ t → (l ≤ℚ p +ℚ t *ℚ s) × (p +ℚ t *ℚ s ≤ℚ b)) → s ≡ 0ℚ
stands_still p s l b h = by (le_total_ℚ s 0ℚ) (le_total_ℚ 0ℚ s)
  where
    falls : s <ℚ 0ℚ → ⊥
    falls k =
        let r = reached minimise p s (l -ℚ 1ℚ) k in
        not_lt_ℚ (p +ℚ r.0 *ℚ s) (l -ℚ 1ℚ) r.1.1
        (lt_le_trans_ℚ (l -ℚ 1ℚ) l (p +ℚ r.0 *ℚ s)
        (lt_from (l ∷ []) (v0 :- lit (pos 1)) v0 (lit (pos 1)) refl zero_lt_one) (h r.0 r.1.0).0)

    rises : 0ℚ <ℚ s → ⊥
    rises k =
        let r = reached maximise p s (b +ℚ 1ℚ) k in
        not_lt_ℚ (b +ℚ 1ℚ) (p +ℚ r.0 *ℚ s) r.1.1
        (le_lt_trans_ℚ (p +ℚ r.0 *ℚ s) b (b +ℚ 1ℚ) (h r.0 r.1.0).1
        (lt_from (b ∷ []) v0 (v0 :+ lit (pos 1)) (lit (pos 1)) refl zero_lt_one))

    by : (s ≤ℚ 0ℚ) ⊎ (0ℚ <ℚ s) → (0ℚ ≤ℚ s) ⊎ (s <ℚ 0ℚ) → s ≡ 0ℚ
    by (inl k) (inl g) = le_antisym_ℚ s 0ℚ k g
    by (inl k) (inr g) = absurd (falls g)
    by (inr k) g = absurd (rises k)
