-- The endings of a master in the model's own words: its cuts as items, its plan, and its direction.
use Rattle.std.proofs.Common.{◌≡◌, ℕ, zero, suc, ◌<◌, List, ◌∷◌, length, refl, sym, ap, ap₂, ◌∙◌, arith, Bool, true, false, ◌⊎◌, inl, inr}
use Rattle.std.proofs.lemmas.Int.{ints}
use Rattle.std.specs.Prelude.{if◌then◌else◌}
use lib.IntN.{ℤ, pos, ◌+ℤ◌, ◌*ℤ◌}
use lib.Signed.{◌<ℤ◌}
use Rattle.rob_algebra.specs.Fraction.{Fraction, of_int, ◌+ℚ◌, ◌*ℚ◌, ◌≤ℚ◌, ◌<ℚ◌}
use Rattle.rob_algebra.specs.FractionOrderLaws as Q
use Rattle.rob_algebra.specs.FractionLaws.{ℚ_ring}
use Rattle.rob_algebra.specs.FractionOrder.{eq_ℚ, eq_ℚ-decides}
use Rattle.rob_algebra.specs.Lists.{plus_all, dot-vec_mat}
use Rattle.rob_algebra.specs.Integer.{zero-mul}
use Rattle.rob_linear.specs.Vectors.{sum_to}
use Rattle.rob_linear.specs.Vectors as V
use Rattle.rob_meaning.specs.Places.{0ℚ, 1ℚ, Each, tabulate}
use Rattle.rob_meaning.specs.Vectors.{dot, scale}
use Rattle.rob_meaning.specs.RobustModel.{RobustModel}
use Rattle.rob_meaning.specs.Forms.{matrices, matrix_at, form_columns, form_at}
use Rattle.rob_meaning.specs.Clearing.{fractions}
use Rattle.rob_meaning.specs.SetConditions.{IsTaken}
use Rattle.rob_meaning.specs.Certificates.{Item}
use Rattle.rob_meaning.specs.Proves.{IsItem, cut_of, combination}
use Rattle.rob_meaning.proofs.Tables.MatrixLemmas.{matrix_rows}
use Rattle.rob_counterpart.specs.RobustProgram.{item_entry}
use Rattle.rob_counterpart.specs.Counterpart.{robust_of}
use Rattle.rob_counterpart.specs.MasterItems.{weighted_kept}
use Rattle.rob_counterpart.proofs.Pairs.Blocks.{sum_first}
use Rattle.rob_counterpart.proofs.Pairs.QuotientLemmas.{over, over-add, over-mul_right, over-zero, over-one, over_zero_out}
use Rattle.rob_counterpart.proofs.Pairs.TabulateLemmas.{tabulate-same, zeros-tabulate, scale-tabulate, plus_all-tabulate, dot-over}
use Rattle.rob_counterpart.proofs.Proving.ItemLemmas.{cut-over}

module _ (m : RobustModel) where
  -- a whole item's cut in whole numbers
  pub cut-whole : (i : ℕ) (b : ℤ) (p : ℕ → ℤ) → i < length (matrices m) → (weight : Fraction)
      → cut_of m (record {
        form = i;
        weight = weight;
        base = of_int b;
        vector = tabulate (length m.parameters) (λ c. of_int (p c));
      })
      ≡ tabulate (form_columns m) (λ j. of_int (item_entry (robust_of m) i b p j))
  cut-whole i b p some weight =
      ap₂ (λ x (xs : List Fraction). cut_of m (record { form = i; weight = weight; base = x; vector = xs }))
      (sym (over-one b))
      (tabulate-same (length m.parameters) (λ c. of_int (p c)) (λ c. over (p c) (pos 1)) (λ c l. sym (over-one (p c))))
      ∙ cut-over m (pos 1) i b p some
      ∙ tabulate-same (form_columns m) (λ j. over (item_entry (robust_of m) i b p j) (pos 1))
      (λ j. of_int (item_entry (robust_of m) i b p j)) (λ j l. over-one (item_entry (robust_of m) i b p j))

  -- the form at a whole item and a plan over a scale
  pub form_at-over : (i : ℕ) (b : ℤ) (p : ℕ → ℤ) → i < length (matrices m) → (z : ℕ → ℤ) (s : ℤ)
      → form_at m i (of_int b) (tabulate (length m.parameters) (λ c. of_int (p c)))
      (tabulate (form_columns m) (λ j. over (z j) s))
      ≡ over (V.dot (form_columns m) (item_entry (robust_of m) i b p) z) s
  form_at-over i b p some z s =
      sym (dot-vec_mat ℚ_ring (form_columns m) (of_int b ∷ tabulate (length m.parameters) (λ c. of_int (p c)))
      (fractions (matrix_at (matrices m) i)) (tabulate (form_columns m) (λ j. over (z j) s)) (matrix_rows m i))
      ∙ ap (λ (xs : List Fraction). dot xs (tabulate (form_columns m) (λ j. over (z j) s))) (cut-whole i b p some 1ℚ)
      ∙ dot-over (form_columns m) (item_entry (robust_of m) i b p) z s

  -- ---- the weighted cuts
  module _ (t : ℤ) (tp : pos 0 <ℤ t) where
    abbrev sums : ℕ → (ℕ → ℤ) → (ℕ → ℕ → ℤ) → List Fraction
    sums h w e = tabulate (form_columns m) (λ j. over (sum_to h (λ q. w q *ℤ e q j)) t)

    one_more : (h : ℕ) (w : ℕ → ℤ) (e : ℕ → ℕ → ℤ) (cut : List Fraction)
        → cut ≡ tabulate (form_columns m) (λ j. of_int (e 0 j))
        → plus_all ℚ_ring (scale (over (w 0) t) cut) (sums h (λ q. w (suc q)) (λ q. e (suc q))) ≡ sums (suc h) w e
    one_more h w e cut c =
        ap (λ (xs : List Fraction).
        plus_all ℚ_ring (scale (over (w 0) t) xs) (sums h (λ q. w (suc q)) (λ q. e (suc q)))) c
        ∙ ap (λ (xs : List Fraction). plus_all ℚ_ring xs (sums h (λ q. w (suc q)) (λ q. e (suc q))))
        (scale-tabulate (over (w 0) t) (form_columns m) (λ j. of_int (e 0 j)))
        ∙ plus_all-tabulate (form_columns m) (λ j. over (w 0) t *ℚ of_int (e 0 j))
        (λ j. over (sum_to h (λ q. w (suc q) *ℤ e (suc q) j)) t)
        ∙ tabulate-same (form_columns m)
        (λ j. over (w 0) t *ℚ of_int (e 0 j) +ℚ over (sum_to h (λ q. w (suc q) *ℤ e (suc q) j)) t)
        (λ j. over (sum_to (suc h) (λ q. w q *ℤ e q j)) t)
        (λ j l.
        ap (λ x. x +ℚ over (sum_to h (λ q. w (suc q) *ℤ e (suc q) j)) t) (sym (over-mul_right (w 0) (e 0 j) t))
        ∙ sym (over-add (w 0 *ℤ e 0 j) (sum_to h (λ q. w (suc q) *ℤ e (suc q) j)) t)
        ∙ ap (λ v. over v t) (sym (sum_first h (λ q. w q *ℤ e q j))))

    one_less : (h : ℕ) (w : ℕ → ℤ) (e : ℕ → ℕ → ℤ) → w 0 ≡ pos 0
        → sums h (λ q. w (suc q)) (λ q. e (suc q)) ≡ sums (suc h) w e
    one_less h w e z =
        tabulate-same (form_columns m) (λ j. over (sum_to h (λ q. w (suc q) *ℤ e (suc q) j)) t)
        (λ j. over (sum_to (suc h) (λ q. w q *ℤ e q j)) t)
        (λ j l.
        let a : w 0 *ℤ e 0 j ≡ pos 0 = ap (λ v. v *ℤ e 0 j) z ∙ zero-mul (e 0 j) in
        let f : sum_to (suc h) (λ q. w q *ℤ e q j) ≡ (w 0 *ℤ e 0 j) +ℤ sum_to h (λ q. w (suc q) *ℤ e (suc q) j) =
        sum_first h (λ q. w q *ℤ e q j) in
        ap (λ v. over v t) (omega (arith, ints)))

    -- items of these cuts and weights, without those of weight 0, sum to the weighted cuts
    pub weighted-over : (h : ℕ) (items : ℕ → Item) (w : ℕ → ℤ) (e : ℕ → ℕ → ℤ)
        → ((q : ℕ) → q < h → (items q).weight ≡ over (w q) t)
        → ((q : ℕ) → q < h → cut_of m (items q) ≡ tabulate (form_columns m) (λ j. of_int (e q j)))
        → combination m (weighted_kept (tabulate h items)) ≡ sums h w e
    weighted-over zero items w e iw ic =
        zeros-tabulate (form_columns m)
        ∙ tabulate-same (form_columns m) (λ j. 0ℚ) (λ j. over (pos 0) t) (λ j l. sym (over-zero t))
    weighted-over (suc h) items w e iw ic =
        by (eq_ℚ (items 0).weight 0ℚ) (eq_ℚ-decides (items 0).weight 0ℚ).0
        (weighted-over h (λ q. items (suc q)) (λ q. w (suc q)) (λ q. e (suc q)) (λ q l. iw (suc q) (omega arith))
        (λ q l. ic (suc q) (omega arith)))
      where
        by : (v : Bool) → (v ≡ true → (items 0).weight ≡ 0ℚ)
            → combination m (weighted_kept (tabulate h (λ q. items (suc q)))) ≡ sums h (λ q. w (suc q)) (λ q. e (suc q))
            → combination m
            (if v then weighted_kept (tabulate h (λ q. items (suc q))) else items 0
            ∷ weighted_kept (tabulate h (λ q. items (suc q)))) ≡ sums (suc h) w e
        by true z ih = ih ∙ one_less h w e (over_zero_out (w 0) t tp (sym (iw 0 (omega arith)) ∙ z refl))
        by false z ih =
            ap₂ (λ x (xs : List Fraction). plus_all ℚ_ring (scale x (cut_of m (items 0))) xs) (iw 0 (omega arith)) ih
            ∙ one_more h w e (cut_of m (items 0)) (ic 0 (omega arith))

  -- and each is an item where its weight is not negative
  pub weighted_items : (h : ℕ) (items : ℕ → Item) → ((q : ℕ) → q < h → 0ℚ ≤ℚ (items q).weight)
      → ((q : ℕ) → q < h → IsTaken m (items q).base (items q).vector)
      → Each (IsItem m) (weighted_kept (tabulate h items))
  weighted_items zero items iw it = tt
  weighted_items (suc h) items iw it =
      by (eq_ℚ (items 0).weight 0ℚ) (eq_ℚ-decides (items 0).weight 0ℚ).1
      (weighted_items h (λ q. items (suc q)) (λ q l. iw (suc q) (omega arith)) (λ q l. it (suc q) (omega arith)))
    where
      positive : (x : Fraction) → 0ℚ ≤ℚ x → (x ≡ 0ℚ → ⊥) → 0ℚ <ℚ x
      positive x h ne = choose (Q.le_total_ℚ x 0ℚ)
        where
          choose : (x ≤ℚ 0ℚ) ⊎ (0ℚ <ℚ x) → 0ℚ <ℚ x
          choose (inl k) = absurd (ne (Q.le_antisym_ℚ x 0ℚ k h))
          choose (inr k) = k

      by : (v : Bool) → ((items 0).weight ≡ 0ℚ → v ≡ true)
          → Each (IsItem m) (weighted_kept (tabulate h (λ q. items (suc q))))
          → Each (IsItem m)
          (if v then weighted_kept (tabulate h (λ q. items (suc q))) else items 0
          ∷ weighted_kept (tabulate h (λ q. items (suc q))))
      by true z ih = ih
      by false z ih = (
        record {
          weight = positive (items 0).weight (iw 0 (omega arith)) (λ e. let f : false ≡ true = z e in cc);
          taken = it 0 (omega arith);
        },
        ih,
      )
