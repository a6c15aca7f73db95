-- A certificate that proves is true.
use Rattle.std.specs.Prelude.{◌≡◌, ℕ, suc, ◌<◌, pos, negsuc, List, [], ◌∷◌, ◌++◌, length, refl, ◌⊎◌}
use Rattle.std.proofs.Common.{sym, ◌∙◌, ap, ap₂, subst, inl, inr}
use Rattle.rob_algebra.specs.Fraction.{Fraction, of_int, ◌+ℚ◌, ◌-ℚ◌, ◌*ℚ◌, inv_ℚ, neg_ℚ, ◌≤ℚ◌, ◌<ℚ◌}
use Rattle.rob_algebra.specs.FractionLaws as Q
use Rattle.rob_algebra.specs.FractionOrderLaws.{le_refl_ℚ, le_total_ℚ, not_lt_ℚ, le_of_lt_ℚ, nonneg_sub_ℚ, pos_sub_ℚ, mul_nonneg_ℚ, lt_from, le_two}
use Rattle.rob_algebra.specs.FractionLaws.{ℚ_ring}
use Rattle.rob_algebra.specs.Lists.{dot, scale, plus_all, length-scale, length-plus_all}
use Rattle.rob_algebra.specs.RingSolver as Solver
use Rattle.rob_algebra.specs.Polynomials.{lit, minus, ◌:+◌, ◌:-◌, ◌:*◌, v0, v1, v2, v3}
use Rattle.rob_meaning.proofs.Conditions.AdmittedLemmas.{admits_meets}
use Rattle.rob_meaning.proofs.Lists.AlongLemmas.{suc_same}
use Rattle.rob_meaning.proofs.Tables.AtLemmas.{bound_at, at_bound, sum_at-plus_plan, sum_at-scale_plan}
use Rattle.rob_meaning.proofs.Proving.CoverLemmas.{covered_at}
use Rattle.rob_meaning.proofs.Proving.ItemLemmas.{taken_at, item_at, combination-sum, weighted_nonpositive, weighted_tight, ends}
use Rattle.rob_meaning.proofs.Lists.LinearLemmas.{zero_lt_one, zero_le_one, le_by}
use Rattle.rob_meaning.proofs.Lists.AbsoluteLemmas.{pos_some, inv_pos}
use Rattle.rob_meaning.proofs.Proving.StatusLemmas.{bound_weakens}
use Rattle.rob_meaning.specs.Certificates.{Certificate, Cover, Item, Status, infeasible, optimal, unbounded}
use Rattle.rob_meaning.specs.Forms.{form_at, matrices, matrix_at, plan_vector, sum_at}
use Rattle.rob_meaning.specs.Guarantee.{HasBound, IsNoWorse}
use Rattle.rob_meaning.specs.Places.{0ℚ, 1ℚ, Each}
use Rattle.rob_meaning.specs.Proves.{EachCovered, HasStatus, Improves, IsItem, Proves, ProvesAs, ProvesInfeasible, ProvesOptimal, ProvesUnbounded, amounts_of, combination, target}
use Rattle.rob_meaning.specs.RobustModel.{RobustModel, Sense, column_count, maximise, minimise}
use Rattle.rob_meaning.specs.Status.{IsInfeasible, IsOptimal, IsUnbounded}
use Rattle.rob_meaning.specs.UncertaintySet.{Admits}
use Rattle.rob_meaning.specs.WellFormed.{IsModel}

-- what the items of an optimal certificate say of a plan
target_at : (sense : Sense) (n : ℕ) (v tau : Fraction) (plan : List Fraction) → length plan ≡ n →
    dot ℚ_ring (target sense n v) (plan_vector 1ℚ plan tau) ≤ℚ 0ℚ → IsNoWorse sense v tau
target_at minimise n v tau plan fits h =
    le_by (v ∷ tau ∷ []) v0 v1 (v0 :* lit (pos 1) :+ lit (negsuc 0) :* v1) (lit (pos 0)) refl
    (subst (λ y. y ≤ℚ 0ℚ) (ends n v (of_int (negsuc 0)) 1ℚ tau plan fits) h)
target_at maximise n v tau plan fits h =
    le_by (v ∷ tau ∷ []) v1 v0 (minus v0 :* lit (pos 1) :+ lit (pos 1) :* v1) (lit (pos 0)) refl
    (subst (λ y. y ≤ℚ 0ℚ) (ends n (neg_ℚ v) 1ℚ 1ℚ tau plan fits) h)

target_zero : (sense : Sense) (n : ℕ) (v : Fraction) (plan : List Fraction) → length plan ≡ n →
    dot ℚ_ring (target sense n v) (plan_vector 1ℚ plan v) ≡ 0ℚ
target_zero minimise n v plan fits =
    ends n v (of_int (negsuc 0)) 1ℚ v plan fits ∙ Q.ring (v ∷ [])
    (v0 :* lit (pos 1) :+ lit (negsuc 0) :* v0) (lit (pos 0)) refl
target_zero maximise n v plan fits =
    ends n (neg_ℚ v) 1ℚ 1ℚ v plan fits ∙ Q.ring (v ∷ [])
    (minus v0 :* lit (pos 1) :+ lit (pos 1) :* v0) (lit (pos 0)) refl

pub plus_all-append : (xs ys : List Fraction) (x y : Fraction) → length xs ≡ length ys →
    plus_all ℚ_ring (xs ++ x ∷ []) (ys ++ y ∷ []) ≡ plus_all ℚ_ring xs ys ++ (x +ℚ y) ∷ []
plus_all-append [] [] x y e = refl
plus_all-append [] (b ∷ ys) x y e = cc
plus_all-append (a ∷ xs) [] x y e = cc
plus_all-append (a ∷ xs) (b ∷ ys) x y e =
    ap (λ (zs : List Fraction). (a +ℚ b) ∷ zs) (plus_all-append xs ys x y (suc_same e))

pub length-last : (xs : List Fraction) (x : Fraction) → length (xs ++ x ∷ []) ≡ suc (length xs)
length-last [] x = refl
length-last (y ∷ xs) x = ap suc (length-last xs x)

pub scale-append : (c : Fraction) (xs : List Fraction) (x : Fraction) →
    scale ℚ_ring c (xs ++ x ∷ []) ≡ scale ℚ_ring c xs ++ (c *ℚ x) ∷ []
scale-append c [] x = refl
scale-append c (y ∷ xs) x = ap (λ (zs : List Fraction). (c *ℚ y) ∷ zs) (scale-append c xs x)

-- a plan moved along a direction
pub moved : (plan step : List Fraction) (v d c : Fraction) → length plan ≡ length step →
    plus_all ℚ_ring (plan_vector 1ℚ plan v) (scale ℚ_ring c (plan_vector 0ℚ step d)) ≡ plan_vector 1ℚ
    (plus_all ℚ_ring plan (scale ℚ_ring c step)) (v +ℚ c *ℚ d)
moved plan step v d c e =
    ap₂ (λ (x : Fraction) (xs : List Fraction). x ∷ xs)
    (Q.ring (c ∷ []) (lit (pos 1) :+ v0 :* lit (pos 0)) (lit (pos 1)) refl)
    (ap (λ (xs : List Fraction). plus_all ℚ_ring (plan ++ v ∷ []) xs) (scale-append c step d)
    ∙ plus_all-append plan (scale ℚ_ring c step) v (c *ℚ d) (e ∙ sym (length-scale ℚ_ring c step)))

-- along a direction that improves, any number is reached: the bound is no worse
-- than it from the start, or at some multiple
abbrev pub Reaches : Sense → Fraction → Fraction → Fraction → Type 0
Reaches sense v d t = (c : Fraction) × ((0ℚ ≤ℚ c) × IsNoWorse sense (v +ℚ c *ℚ d) t)

pub reached : (sense : Sense) (v d t : Fraction) → Improves sense d → Reaches sense v d t
reached minimise v d t h = by (le_total_ℚ v t)
  where
    some : 0ℚ <ℚ neg_ℚ d
    some = lt_from (d ∷ []) (lit (pos 0)) (minus v0) (lit (pos 0) :- v0) refl (pos_sub_ℚ d 0ℚ h)

    by : (v ≤ℚ t) ⊎ (t <ℚ v) → Reaches minimise v d t
    by (inl k) = (0ℚ, (le_refl_ℚ 0ℚ, subst (λ x. x ≤ℚ t) (Q.ring (v ∷ d ∷ []) v0 (v0 :+ lit (pos 0) :* v1) refl) k))
    by (inr k) = (
      (v -ℚ t) *ℚ inv_ℚ (neg_ℚ d),
      (
        mul_nonneg_ℚ (v -ℚ t) (inv_ℚ (neg_ℚ d)) (nonneg_sub_ℚ t v (le_of_lt_ℚ t v k))
            (le_of_lt_ℚ 0ℚ (inv_ℚ (neg_ℚ d)) (inv_pos (neg_ℚ d) some)),
        subst (λ x. x ≤ℚ t)
            (sym (Solver.from_one ℚ_ring (v ∷ t ∷ d ∷ inv_ℚ (neg_ℚ d) ∷ []) (v0 :+ (v0 :- v1) :* v3 :* v2) v1 (v1 :- v0)
            (minus v2 :* v3) (lit (pos 1)) refl (Q.mul_inv (neg_ℚ d) (pos_some (neg_ℚ d) some)))) (le_refl_ℚ t),
      ),
    )
reached maximise v d t h = by (le_total_ℚ t v)
  where
    by : (t ≤ℚ v) ⊎ (v <ℚ t) → Reaches maximise v d t
    by (inl k) = (0ℚ, (le_refl_ℚ 0ℚ, subst (λ x. t ≤ℚ x) (Q.ring (v ∷ d ∷ []) v0 (v0 :+ lit (pos 0) :* v1) refl) k))
    by (inr k) = (
      (t -ℚ v) *ℚ inv_ℚ d,
      (
        mul_nonneg_ℚ (t -ℚ v) (inv_ℚ d) (nonneg_sub_ℚ v t (le_of_lt_ℚ v t k))
            (le_of_lt_ℚ 0ℚ (inv_ℚ d) (inv_pos d h)),
        subst (λ x. t ≤ℚ x)
            (sym (Solver.from_one ℚ_ring (v ∷ t ∷ d ∷ inv_ℚ d ∷ []) (v0 :+ (v1 :- v0) :* v3 :* v2)
            v1 (v1 :- v0) (v2 :* v3)
            (lit (pos 1)) refl (Q.mul_inv d (pos_some d h)))) (le_refl_ℚ t),
      ),
    )

module _ (m : RobustModel) (model : IsModel m) where
  -- every form is at most 0 at what is covered
  covered : (covers : List Cover) (s : Fraction) (z : List Fraction) → 0ℚ <ℚ s → EachCovered m covers s z →
      (u : List Fraction) → Admits m u → (i : ℕ) → i < length (matrices m) → form_at m i 1ℚ u z ≤ℚ 0ℚ
  covered covers s z some h u admitted i k =
      covered_at m model i k s z (amounts_of m covers i) (h i k) 1ℚ u some zero_le_one (admits_meets m model u admitted)

  -- the items are at most 0 at every plan with its bound
  items_at : (inside : List Fraction) → Admits m inside → (plan : List Fraction) (tau : Fraction) →
      HasBound m plan tau → (items : List Item) → Each (IsItem m) items →
      Each (λ item. item_at m (plan_vector 1ℚ plan tau) item ≤ℚ 0ℚ) items
  items_at inside admitted plan tau b [] h = tt
  items_at inside admitted plan tau b (item ∷ items) h = (
    taken_at m model (matrix_at (matrices m) item.form) (plan_vector 1ℚ plan tau)
        (λ u k. bound_at m model plan tau b u k item.form) inside admitted item.base item.vector h.0.taken,
    items_at inside admitted plan tau b items h.1,
  )

  sum_nonpositive : (inside : List Fraction) → Admits m inside → (plan : List Fraction) (tau : Fraction) →
      HasBound m plan tau → (items : List Item) → Each (IsItem m) items →
      dot ℚ_ring (combination m items) (plan_vector 1ℚ plan tau) ≤ℚ 0ℚ
  sum_nonpositive inside admitted plan tau b items h =
      subst (λ y. y ≤ℚ 0ℚ) (sym (combination-sum m (plan_vector 1ℚ plan tau) items))
      (weighted_nonpositive m (plan_vector 1ℚ plan tau) items h (items_at inside admitted plan tau b items h))

  -- so the plan of a certificate has its value as a bound
  pub optimal_bound : (c : Certificate) → ProvesOptimal m c → HasBound m c.plan c.value
  optimal_bound c h =
      at_bound m model c.plan c.value c.inside h.inside h.columns (covered c.covers c.scale
      (plan_vector 1ℚ c.plan c.value) h.scale h.covered)

  pub unbounded_bound : (c : Certificate) → ProvesUnbounded m c → HasBound m c.plan c.value
  unbounded_bound c h =
      at_bound m model c.plan c.value c.inside h.inside h.columns (covered c.covers c.scale
      (plan_vector 1ℚ c.plan c.value) h.scale h.covered)

  pub proves_optimal : (c : Certificate) → ProvesOptimal m c → IsOptimal m c.value
  proves_optimal c h =
      record {
        attained = (c.plan, optimal_bound c h);
        none_better = λ plan tau b.
            target_at m.sense (column_count m) c.value tau plan b.columns
            (subst (λ (xs : List Fraction). dot ℚ_ring xs (plan_vector 1ℚ plan tau) ≤ℚ 0ℚ) h.sums
            (sum_nonpositive c.inside h.inside plan tau b c.items h.items));
      }

  pub proves_infeasible : (c : Certificate) → ProvesInfeasible m c → IsInfeasible m
  proves_infeasible c h plan tau b =
      not_lt_ℚ h.constant 0ℚ
      (le_by (h.constant ∷ tau ∷ []) v0 (lit (pos 0)) (v0 :* lit (pos 1) :+ lit (pos 0) :* v1) (lit (pos 0)) refl
      (subst (λ y. y ≤ℚ 0ℚ) (ends (column_count m) h.constant 0ℚ 1ℚ tau plan b.columns)
      (subst (λ (xs : List Fraction). dot ℚ_ring xs (plan_vector 1ℚ plan tau) ≤ℚ 0ℚ) h.sums
      (sum_nonpositive c.inside h.inside plan tau b c.items h.items))))
      h.positive

  -- each item of an optimal certificate is tight at its plan
  pub items_tight : (c : Certificate) → ProvesOptimal m c →
      Each (λ item. form_at m item.form item.base item.vector (plan_vector 1ℚ c.plan c.value) ≡ 0ℚ) c.items
  items_tight c h =
      weighted_tight m (plan_vector 1ℚ c.plan c.value) c.items h.items
      (items_at c.inside h.inside c.plan c.value (optimal_bound c h) c.items h.items)
      (subst (λ y. 0ℚ ≤ℚ y)
      (sym (sym (combination-sum m (plan_vector 1ℚ c.plan c.value) c.items)
      ∙ ap (λ (xs : List Fraction). dot ℚ_ring xs (plan_vector 1ℚ c.plan c.value)) h.sums
      ∙ target_zero m.sense (column_count m) c.value c.plan h.columns))
      (le_refl_ℚ 0ℚ))

  -- the plan moved along the step, any number of times
  pub moved_bound : (c : Certificate) → ProvesUnbounded m c → (times : Fraction) → 0ℚ ≤ℚ times →
      HasBound m (plus_all ℚ_ring c.plan (scale ℚ_ring times c.step)) (c.value +ℚ times *ℚ c.step_bound)
  moved_bound c h times some =
      at_bound m model (plus_all ℚ_ring c.plan (scale ℚ_ring times c.step)) (c.value +ℚ times *ℚ c.step_bound)
      c.inside h.inside
      (length-plus_all ℚ_ring c.plan (scale ℚ_ring times c.step)
      (h.columns ∙ sym (length-scale ℚ_ring times c.step ∙ h.step_columns))
      ∙ length-scale ℚ_ring times c.step ∙ h.step_columns)
      (λ u admitted i k.
      (let a = matrix_at (matrices m) i in
      let z = plan_vector 1ℚ c.plan c.value in
      let w = plan_vector 0ℚ c.step c.step_bound in
      subst (λ (xs : List Fraction). sum_at (matrix_at (matrices m) i) 1ℚ u xs ≤ℚ 0ℚ)
      (moved c.plan c.step c.value c.step_bound times (h.columns ∙ sym h.step_columns))
      (subst (λ y. y ≤ℚ 0ℚ)
      (sym (sum_at-plus_plan a 1ℚ u z (scale ℚ_ring times w) (same_length c h times)
      ∙ ap (λ y. sum_at a 1ℚ u z +ℚ y) (sum_at-scale_plan a 1ℚ times u w)))
      (le_two (sum_at a 1ℚ u z ∷ times ∷ sum_at a 1ℚ u w ∷ []) (v0 :+ v1 :* v2) (lit (pos 0)) (lit (pos 1)) v0
      (lit (pos 0)) v1 v2 (lit (pos 0)) refl zero_le_one
      (covered c.covers c.scale z h.scale h.covered u admitted i k) some
      (covered c.holds 1ℚ w zero_lt_one h.held u admitted i k)))))
    where
      same_length : (c : Certificate) → ProvesUnbounded m c → (times : Fraction) →
          length (plan_vector 1ℚ c.plan c.value) ≡ length (scale ℚ_ring times (plan_vector 0ℚ c.step c.step_bound))
      same_length c h times =
          ap suc (length-last c.plan c.value ∙ ap suc (h.columns ∙ sym h.step_columns)
          ∙ sym (length-last c.step c.step_bound))
          ∙ sym (length-scale ℚ_ring times (plan_vector 0ℚ c.step c.step_bound))

  pub proves_unbounded : (c : Certificate) → ProvesUnbounded m c → IsUnbounded m
  proves_unbounded c h t =
      let r = reached m.sense c.value c.step_bound t h.improves in (
        plus_all ℚ_ring c.plan (scale ℚ_ring r.0 c.step),
        bound_weakens m (plus_all ℚ_ring c.plan (scale ℚ_ring r.0 c.step)) (c.value +ℚ r.0 *ℚ c.step_bound) t r.1.1
            (moved_bound c h r.0 r.1.0),
      )

  pub certificate_true : (c : Certificate) → Proves m c → HasStatus m c.status c.value
  certificate_true c h = by c.status h
    where
      by : (status : Status) → ProvesAs status m c → HasStatus m status c.value
      by optimal h = proves_optimal c h
      by infeasible h = proves_infeasible c h
      by unbounded h = proves_unbounded c h
