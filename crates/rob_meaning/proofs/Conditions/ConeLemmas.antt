-- What is taken from the set can be added and scaled; and what "taken" means.
use Rattle.std.specs.Prelude.{◌≡◌, pos, List, [], ◌∷◌, length, refl, ◌⊎◌, ◌↔◌}
use Rattle.std.proofs.Common.{sym, ◌∙◌, ap, ap₂, subst, inl, inr}
use Rattle.rob_algebra.specs.Fraction.{Fraction, ◌+ℚ◌, ◌*ℚ◌, inv_ℚ, ◌≤ℚ◌, ◌<ℚ◌}
use Rattle.rob_algebra.specs.FractionLaws as Q
use Rattle.rob_algebra.specs.FractionOrderLaws.{le_refl_ℚ, le_total_ℚ, le_antisym_ℚ, le_of_lt_ℚ, le_one, le_two}
use Rattle.rob_algebra.specs.FractionLaws.{ℚ_ring}
use Rattle.rob_algebra.specs.Lists.{scale, plus_all, length-scale, length-plus_all}
use Rattle.rob_algebra.specs.Polynomials.{lit, ◌:+◌, ◌:*◌, v0, v1, v2, v3, v4, v5, v6}
use Rattle.rob_meaning.proofs.Conditions.AdmittedLemmas.{admits_meets, meets_admits}
use Rattle.rob_meaning.proofs.Lists.AlongLemmas.{along-plus_list, along-scale_list}
use Rattle.rob_meaning.proofs.Lists.EachLemmas.{each_map, each_both}
use Rattle.rob_meaning.proofs.Lists.LinearLemmas.{le_along, zero_le_one}
use Rattle.rob_meaning.proofs.Conditions.SetRowLemmas.{rows_in, rows_out, lifts_of, length-lifts, has_lifts}
use Rattle.rob_meaning.proofs.Lists.AbsoluteLemmas.{pos_some, inv_pos}
use Rattle.rob_meaning.proofs.Conditions.SetRowLemmas.{RowHolds}
use Rattle.rob_meaning.specs.Places.{0ℚ, 1ℚ, Each, along}
use Rattle.rob_meaning.specs.RobustModel.{RobustModel}
use Rattle.rob_meaning.specs.SetConditions.{IsRay, IsTaken, Meets}
use Rattle.rob_meaning.specs.SetRows.{SetRow, lift_count, set_rows}
use Rattle.rob_meaning.specs.UncertaintySet.{Admits}
use Rattle.rob_meaning.specs.WellFormed.{IsModel}

pub scale_scale : (c d : Fraction) (xs : List Fraction) → c *ℚ d ≡ 1ℚ → scale ℚ_ring c (scale ℚ_ring d xs) ≡ xs
scale_scale c d [] e = refl
scale_scale c d (x ∷ xs) e =
    ap₂ (λ (y : Fraction) (ys : List Fraction). y ∷ ys)
    (sym (Q.ℚ-mul_assoc c d x) ∙ ap (λ z. z *ℚ x) e ∙ Q.ℚ-one-mul x)
    (scale_scale c d xs e)

-- rows added, and scaled
sum_row : (s r : Fraction) (p q T V : List Fraction) → length p ≡ length q → length T ≡ length V → (row : SetRow) →
    RowHolds s p T row → RowHolds r q V row → RowHolds (s +ℚ r) (plus_all ℚ_ring p q) (plus_all ℚ_ring T V) row
sum_row s r p q T V e f row h k =
    record {
      at_most =
          le_along (ap₂ ◌+ℚ◌ (along-plus_list row.on_parameters p q e) (along-plus_list row.on_lifts T V f))
          (le_two (along row.on_parameters p ∷ along row.on_parameters q ∷ along row.on_lifts T ∷ along row.on_lifts
          V ∷ s ∷ r ∷ row.limit ∷ [])
          ((v0 :+ v1) :+ (v2 :+ v3)) ((v4 :+ v5) :* v6)
          (lit (pos 1)) (v0 :+ v2) (v4 :* v6) (lit (pos 1)) (v1 :+ v3)
          (v5 :* v6) refl zero_le_one h.at_most zero_le_one k.at_most);
    }

scaled_row : (c s : Fraction) (p T : List Fraction) → 0ℚ ≤ℚ c → (row : SetRow) → RowHolds s p T row →
    RowHolds (c *ℚ s) (scale ℚ_ring c p) (scale ℚ_ring c T) row
scaled_row c s p T some row h =
    record {
      at_most =
          le_along (ap₂ ◌+ℚ◌ (along-scale_list row.on_parameters c p) (along-scale_list row.on_lifts c T))
          (le_one (along row.on_parameters p ∷ along row.on_lifts T ∷ c ∷ s ∷ row.limit ∷ [])
          (v2 :* v0 :+ v2 :* v1) (v2 :* v3 :* v4) v2 (v0 :+ v1) (v3 :* v4) refl some h.at_most);
    }

module _ (m : RobustModel) (model : IsModel m) where
  -- p and some numbers in the columns t make all set rows hold
  pub record Rows (s : Fraction) (p : List Fraction) : Type 0 where
    pub lifts : List Fraction
    pub count : length lifts ≡ lift_count m.set_lines
    pub numbers : length p ≡ length m.parameters
    pub rows : Each (RowHolds s p lifts) (set_rows m)

  pub rows_of : (s : Fraction) (p : List Fraction) → Meets m s p → Rows s p
  rows_of s p h =
      record {
        lifts = lifts_of m s p m.set_lines;
        count = length-lifts m s p m.set_lines;
        numbers = h.numbers;
        rows = rows_in m s p (lifts_of m s p m.set_lines) model.set_lines (has_lifts m s p) h.conditions;
      }

  pub meets_of : (s : Fraction) (p : List Fraction) → Rows s p → Meets m s p
  meets_of s p h = record { numbers = h.numbers; conditions = rows_out m s p h.lifts model.set_lines h.rows }

  pub meets_sum : (s r : Fraction) (p q : List Fraction) → Meets m s p → Meets m r q →
      Meets m (s +ℚ r) (plus_all ℚ_ring p q)
  meets_sum s r p q h k = by (rows_of s p h) (rows_of r q k)
    where
      by : Rows s p → Rows r q → Meets m (s +ℚ r) (plus_all ℚ_ring p q)
      by a b =
          meets_of (s +ℚ r) (plus_all ℚ_ring p q)
          (record {
            lifts = plus_all ℚ_ring a.lifts b.lifts;
            count = length-plus_all ℚ_ring a.lifts b.lifts (a.count ∙ sym b.count) ∙ b.count;
            numbers = length-plus_all ℚ_ring p q (a.numbers ∙ sym b.numbers) ∙ b.numbers;
            rows =
                each_both (RowHolds s p a.lifts) (RowHolds r q b.lifts)
                (RowHolds (s +ℚ r) (plus_all ℚ_ring p q) (plus_all ℚ_ring a.lifts b.lifts))
                (sum_row s r p q a.lifts b.lifts (a.numbers ∙ sym b.numbers) (a.count ∙ sym b.count))
                (set_rows m) a.rows b.rows;
          })

  pub meets_scaled : (c s : Fraction) (p : List Fraction) → 0ℚ ≤ℚ c → Meets m s p → Meets m (c *ℚ s) (scale ℚ_ring c p)
  meets_scaled c s p some h = by (rows_of s p h)
    where
      by : Rows s p → Meets m (c *ℚ s) (scale ℚ_ring c p)
      by a =
          meets_of (c *ℚ s) (scale ℚ_ring c p)
          (record {
            lifts = scale ℚ_ring c a.lifts;
            count = length-scale ℚ_ring c a.lifts ∙ a.count;
            numbers = length-scale ℚ_ring c p ∙ a.numbers;
            rows =
                each_map (RowHolds s p a.lifts) (RowHolds (c *ℚ s) (scale ℚ_ring c p) (scale ℚ_ring c a.lifts))
                (scaled_row c s p a.lifts some) (set_rows m) a.rows;
          })

  -- a scenario moved along a ray is admitted
  pub along_ray : (u r : List Fraction) (t : Fraction) → Admits m u → IsRay m r → 0ℚ ≤ℚ t →
      Admits m (plus_all ℚ_ring u (scale ℚ_ring t r))
  along_ray u r t admitted is_ray some =
      meets_admits m model (plus_all ℚ_ring u (scale ℚ_ring t r))
      (subst (λ y. Meets m y (plus_all ℚ_ring u (scale ℚ_ring t r)))
      (Q.ring (t ∷ []) (lit (pos 1) :+ v0 :* lit (pos 0)) (lit (pos 1)) refl)
      (meets_sum 1ℚ (t *ℚ 0ℚ) u (scale ℚ_ring t r) (admits_meets m model u admitted) (meets_scaled t 0ℚ r some is_ray)))

  -- ---- s times an admitted scenario, or a ray, is what meets the conditions taken s times, with s at least 0
  pub taken_meets : (s : Fraction) (p : List Fraction) → IsTaken m s p → (0ℚ ≤ℚ s) × Meets m s p
  taken_meets s p (inl h) = (
    le_of_lt_ℚ 0ℚ s h.0,
    subst (λ z. Meets m z p) (Q.ring (s ∷ []) (v0 :* lit (pos 1)) v0 refl)
        (subst (λ (q : List Fraction). Meets m (s *ℚ 1ℚ) q) (scale_scale s (inv_ℚ s) p (Q.mul_inv s (pos_some s h.0)))
        (meets_scaled s 1ℚ (scale ℚ_ring (inv_ℚ s) p) (le_of_lt_ℚ 0ℚ s h.0)
        (admits_meets m model (scale ℚ_ring (inv_ℚ s) p) h.1))),
  )
  taken_meets s p (inr h) = (subst (λ z. 0ℚ ≤ℚ z) (sym h.0) (le_refl_ℚ 0ℚ), subst (λ z. Meets m z p) (sym h.0) h.1)

  pub meets_taken : (s : Fraction) (p : List Fraction) → 0ℚ ≤ℚ s → Meets m s p → IsTaken m s p
  meets_taken s p some h = by (le_total_ℚ s 0ℚ)
    where
      by : (s ≤ℚ 0ℚ) ⊎ (0ℚ <ℚ s) → IsTaken m s p
      by (inl k) = let e = le_antisym_ℚ s 0ℚ k some in inr (e, subst (λ z. Meets m z p) e h)
      by (inr k) =
          inl (
            k,
            meets_admits m model (scale ℚ_ring (inv_ℚ s) p)
                (subst (λ z. Meets m z (scale ℚ_ring (inv_ℚ s) p))
                (Q.ℚ-mul_comm (inv_ℚ s) s ∙ Q.mul_inv s (pos_some s k))
                (meets_scaled (inv_ℚ s) s p (le_of_lt_ℚ 0ℚ (inv_ℚ s) (inv_pos s k)) h)),
          )

  pub taken_law : (s : Fraction) (p : List Fraction) → IsTaken m s p ↔ ((0ℚ ≤ℚ s) × Meets m s p)
  taken_law s p = (λ h. taken_meets s p h, λ h. meets_taken s p h.0 h.1)
