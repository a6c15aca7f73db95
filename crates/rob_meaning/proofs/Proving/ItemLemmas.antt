-- What is at most 0 in every scenario is so at each multiple of a scenario and at each ray; and sums of items.
use Rattle.std.specs.Prelude.{◌≡◌, ℕ, ℤ, pos, List, [], ◌∷◌, length, map, refl, ◌⊎◌}
use Rattle.std.proofs.Common.{sym, ◌∙◌, ap, ap₂, subst, inl, inr}
use Rattle.rob_algebra.specs.Fraction.{Fraction, ◌+ℚ◌, ◌-ℚ◌, ◌*ℚ◌, inv_ℚ, ◌≤ℚ◌, ◌<ℚ◌}
use Rattle.rob_algebra.specs.FractionLaws as Q
use Rattle.rob_algebra.specs.FractionOrderLaws.{le_refl_ℚ, le_total_ℚ, le_antisym_ℚ, not_lt_ℚ, le_of_lt_ℚ, mul_nonneg_ℚ, le_two, cancel_le_ℚ}
use Rattle.rob_algebra.specs.FractionLaws.{ℚ_ring}
use Rattle.rob_algebra.specs.Lists.{dot, scale, plus_all, zeros, mat_vec, Rows, dot-zeros, dot-vec_mat, length-scale, length-zeros, length-vec_mat}
use Rattle.rob_algebra.specs.RingSolver as Solver
use Rattle.rob_algebra.specs.Polynomials.{lit, ◌:+◌, ◌:-◌, ◌:*◌, v0, v1, v2}
use Rattle.rob_meaning.proofs.Tables.AtLemmas.{sum_at-plus, sum_at-scale}
use Rattle.rob_meaning.proofs.Tables.ClearingLemmas.{dot-append}
use Rattle.rob_meaning.proofs.Conditions.ConeLemmas.{along_ray}
use Rattle.rob_meaning.proofs.Lists.LinearLemmas.{zero_lt_one, zero_le_one}
use Rattle.rob_meaning.proofs.Tables.MatrixLemmas.{matrix_rows}
use Rattle.rob_meaning.proofs.Lists.AbsoluteLemmas.{pos_some, inv_pos}
use Rattle.rob_meaning.specs.Certificates.{Item}
use Rattle.rob_meaning.specs.Clearing.{fractions}
use Rattle.rob_meaning.specs.Forms.{form_at, form_columns, matrices, matrix_at, plan_vector, sum_at}
use Rattle.rob_meaning.specs.Places.{0ℚ, 1ℚ, Each}
use Rattle.rob_meaning.specs.Proves.{IsItem, combination, cut_of}
use Rattle.rob_meaning.specs.RobustModel.{RobustModel}
use Rattle.rob_meaning.specs.SetConditions.{IsRay, IsTaken}
use Rattle.rob_meaning.specs.UncertaintySet.{Admits}
use Rattle.rob_meaning.specs.WellFormed.{IsModel}

module _
    (m : RobustModel) (model : IsModel m)
    (a : List (List ℤ)) (z : List Fraction) (all : (u : List Fraction) → Admits m u → sum_at a 1ℚ u z ≤ℚ 0ℚ)
  where
    multiple_at : (s : Fraction) (p : List Fraction) → 0ℚ <ℚ s → Admits m (scale ℚ_ring (inv_ℚ s) p) →
        sum_at a s p z ≤ℚ 0ℚ
    multiple_at s p some admitted =
        cancel_le_ℚ (sum_at a s p z) 0ℚ (inv_ℚ s) (inv_pos s some)
        (subst (λ y. inv_ℚ s *ℚ sum_at a s p z ≤ℚ y) (Q.ring (inv_ℚ s ∷ []) (lit (pos 0)) (v0 :* lit (pos 0)) refl)
        (subst (λ y. y ≤ℚ 0ℚ) (ap (λ y. sum_at a y (scale ℚ_ring (inv_ℚ s) p) z)
        (sym (Q.ℚ-mul_comm (inv_ℚ s) s ∙ Q.mul_inv s (pos_some s some))) ∙ sum_at-scale a (inv_ℚ s) s p z)
        (all (scale ℚ_ring (inv_ℚ s) p) admitted)))

    -- the sum at a scenario moved along a ray
    far : (inside ray : List Fraction) (t : Fraction) → Admits m inside → IsRay m ray → 0ℚ ≤ℚ t →
        sum_at a 1ℚ inside z +ℚ t *ℚ sum_at a 0ℚ ray z ≤ℚ 0ℚ
    far inside ray t admitted is_ray some =
        subst (λ y. y ≤ℚ 0ℚ)
        (ap (λ y. sum_at a y (plus_all ℚ_ring inside (scale ℚ_ring t ray)) z) (sym one)
        ∙ sum_at-plus a 1ℚ (t *ℚ 0ℚ) inside (scale ℚ_ring t ray) z
        (admitted.numbers ∙ sym (length-scale ℚ_ring t ray ∙ is_ray.numbers))
        ∙ ap (λ y. sum_at a 1ℚ inside z +ℚ y) (sum_at-scale a t 0ℚ ray z))
        (all (plus_all ℚ_ring inside (scale ℚ_ring t ray)) (along_ray m model inside ray t admitted is_ray some))
      where
        one : 1ℚ +ℚ t *ℚ 0ℚ ≡ 1ℚ
        one = Q.ring (t ∷ []) (lit (pos 1) :+ v0 :* lit (pos 0)) (lit (pos 1)) refl

    ray_at : (inside ray : List Fraction) → Admits m inside → IsRay m ray → sum_at a 0ℚ ray z ≤ℚ 0ℚ
    ray_at inside ray admitted is_ray = by (le_total_ℚ (sum_at a 0ℚ ray z) 0ℚ)
      where
        by : (sum_at a 0ℚ ray z ≤ℚ 0ℚ) ⊎ (0ℚ <ℚ sum_at a 0ℚ ray z) → sum_at a 0ℚ ray z ≤ℚ 0ℚ
        by (inl h) = h
        by (inr h) =
            absurd (not_lt_ℚ 1ℚ 0ℚ
            (subst (λ y. y ≤ℚ 0ℚ) (grows (sum_at a 1ℚ inside z) (sum_at a 0ℚ ray z) h)
            (far inside ray ((1ℚ -ℚ sum_at a 1ℚ inside z) *ℚ inv_ℚ (sum_at a 0ℚ ray z)) admitted is_ray
            (long (sum_at a 1ℚ inside z) (sum_at a 0ℚ ray z) (all inside admitted) h)))
            zero_lt_one)
          where
            grows : (c x : Fraction) → 0ℚ <ℚ x → c +ℚ (1ℚ -ℚ c) *ℚ inv_ℚ x *ℚ x ≡ 1ℚ
            grows c x k =
                Solver.from_one ℚ_ring (c ∷ x ∷ inv_ℚ x ∷ []) (v0 :+ (lit (pos 1) :- v0) :* v2 :* v1) (lit (pos 1))
                (lit (pos 1) :- v0) (v1 :* v2) (lit (pos 1)) refl (Q.mul_inv x (pos_some x k))

            long : (c x : Fraction) → c ≤ℚ 0ℚ → 0ℚ <ℚ x → 0ℚ ≤ℚ (1ℚ -ℚ c) *ℚ inv_ℚ x
            long c x h k =
                mul_nonneg_ℚ (1ℚ -ℚ c) (inv_ℚ x)
                (le_two (c ∷ []) (lit (pos 0)) (lit (pos 1) :- v0) (lit (pos 1)) v0 (lit (pos 0)) (lit (pos 1))
                (lit (pos 0)) (lit (pos 1)) refl zero_le_one h zero_le_one zero_le_one)
                (le_of_lt_ℚ 0ℚ (inv_ℚ x) (inv_pos x k))

    pub taken_at : (inside : List Fraction) → Admits m inside → (s : Fraction) (p : List Fraction) → IsTaken m s p →
        sum_at a s p z ≤ℚ 0ℚ
    taken_at inside admitted s p (inl h) = multiple_at s p h.0 h.1
    taken_at inside admitted s p (inr h) = subst (λ y. sum_at a y p z ≤ℚ 0ℚ) (sym h.0) (ray_at inside p admitted h.1)

-- ---- sums of items
module _ (m : RobustModel) where
  -- At of an item
  abbrev pub item_at : List Fraction → Item → Fraction
  item_at z item = form_at m item.form item.base item.vector z

  abbrev pub weighted : List Fraction → List Item → Fraction
  weighted z [] = 0ℚ
  weighted z (item ∷ items) = item.weight *ℚ item_at z item +ℚ weighted z items

  pub cuts_shape : (items : List Item) → Rows ℚ_ring (form_columns m) (map (cut_of m) items)
  cuts_shape [] = tt
  cuts_shape (item ∷ items) = (
    length-vec_mat ℚ_ring (form_columns m) (item.base ∷ item.vector) (fractions (matrix_at (matrices m) item.form))
        (matrix_rows m item.form),
    cuts_shape items,
  )

  cuts_sum : (z : List Fraction) (items : List Item) →
      dot ℚ_ring (map (λ (i : Item). i.weight) items) (mat_vec ℚ_ring (map (cut_of m) items) z) ≡ weighted z items
  cuts_sum z [] = refl
  cuts_sum z (item ∷ items) =
      ap₂ (λ x y. item.weight *ℚ x +ℚ y)
      (dot-vec_mat ℚ_ring (form_columns m) (item.base ∷ item.vector) (fractions (matrix_at (matrices m) item.form)) z
      (matrix_rows m item.form))
      (cuts_sum z items)

  pub combination-sum : (z : List Fraction) (items : List Item) → dot ℚ_ring (combination m items) z ≡ weighted z items
  combination-sum z items =
      dot-vec_mat ℚ_ring (form_columns m) (map (λ (i : Item). i.weight) items) (map (cut_of m) items) z
      (cuts_shape items) ∙ cuts_sum z items

  -- each item at most 0, with positive weights
  pub weighted_nonpositive : (z : List Fraction) (items : List Item) → Each (IsItem m) items →
      Each (λ item. item_at z item ≤ℚ 0ℚ) items → weighted z items ≤ℚ 0ℚ
  weighted_nonpositive z [] h k = le_refl_ℚ 0ℚ
  weighted_nonpositive z (item ∷ items) h k =
      le_two (item.weight ∷ item_at z item ∷ weighted z items ∷ []) (v0 :* v1 :+ v2) (lit (pos 0)) v0 v1 (lit (pos 0))
      (lit (pos 1)) v2 (lit (pos 0)) refl
      (le_of_lt_ℚ 0ℚ item.weight h.0.weight) k.0 zero_le_one (weighted_nonpositive z items h.1 k.1)

  -- where the sum is not below 0, each item is 0
  pub weighted_tight : (z : List Fraction) (items : List Item) → Each (IsItem m) items →
      Each (λ item. item_at z item ≤ℚ 0ℚ) items → 0ℚ ≤ℚ weighted z items → Each (λ item. item_at z item ≡ 0ℚ) items
  weighted_tight z [] h k s = tt
  weighted_tight z (item ∷ items) h k s = (
    le_antisym_ℚ (item_at z item) 0ℚ k.0
        (cancel_le_ℚ 0ℚ (item_at z item) item.weight h.0.weight
        (le_two (item.weight ∷ item_at z item ∷ weighted z items ∷ []) (v0 :* lit (pos 0)) (v0 :* v1) (lit (pos 1))
        (lit (pos 0)) (v0 :* v1 :+ v2) (lit (pos 1)) v2 (lit (pos 0)) refl
        zero_le_one s zero_le_one (weighted_nonpositive z items h.1 k.1))),
    weighted_tight z items h.1 k.1
        (le_two (item.weight ∷ item_at z item ∷ weighted z items ∷ []) (lit (pos 0)) v2 (lit (pos 1)) (lit (pos 0))
        (v0 :* v1 :+ v2) v0 v1 (lit (pos 0)) refl
        zero_le_one s (le_of_lt_ℚ 0ℚ item.weight h.0.weight) k.0),
  )

-- the first and the last number alone
pub ends : (n : ℕ) (c d e tau : Fraction) (plan : List Fraction) → length plan ≡ n →
    dot ℚ_ring (plan_vector c (zeros ℚ_ring n) d) (plan_vector e plan tau) ≡ c *ℚ e +ℚ d *ℚ tau
ends n c d e tau plan fits =
    ap (λ y. c *ℚ e +ℚ y)
    (dot-append (zeros ℚ_ring n) (d ∷ []) plan (tau ∷ []) (length-zeros ℚ_ring n ∙ sym fits)
    ∙ ap (λ y. y +ℚ (d *ℚ tau +ℚ 0ℚ)) (dot-zeros ℚ_ring n plan))
    ∙ Q.ring ((c *ℚ e) ∷ (d *ℚ tau) ∷ []) (v0 :+ (lit (pos 0) :+ (v1 :+ lit (pos 0)))) (v0 :+ v1) refl
