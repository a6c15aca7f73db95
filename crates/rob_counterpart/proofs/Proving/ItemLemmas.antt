-- Points and rays of the whole set as items of the model, and what the items sum to.
use Rattle.std.proofs.Common.{◌≡◌, ℕ, zero, suc, ◌+◌, ◌<◌, List, [], ◌∷◌, map, length, refl, sym, ap, ◌∙◌, subst, arith, Bool, true, false}
use Rattle.std.proofs.lemmas.Int.{ints}
use Rattle.std.specs.Prelude.{slice_index_or, ◌&&◌, if◌then◌else◌}
use lib.IntN.{ℤ, pos, ◌+ℤ◌, ◌*ℤ◌}
use lib.Signed.{◌<ℤ◌}
use Rattle.rob_algebra.specs.Fraction.{Fraction, of_int, ◌+ℚ◌, ◌*ℚ◌, ◌≤ℚ◌}
use Rattle.rob_algebra.specs.FractionLaws as Q
use Rattle.rob_algebra.specs.FractionLaws.{ℚ_ring}
use Rattle.rob_algebra.specs.FractionOrder.{eq_ℚ, eq_ℚ-decides}
use Rattle.rob_algebra.specs.Lists.{plus_all}
use Rattle.rob_algebra.specs.Integer.{*ℤ_comm, mul-zero, zero-mul}
use Rattle.rob_linear.specs.Vectors.{sum_to, at}
use Rattle.rob_linear.specs.Vectors as V
use Rattle.rob_linear.proofs.LinearPrograms.Sums.{sum_ext, sum_zero, sum_split}
use Rattle.rob_meaning.specs.Places.{0ℚ, 1ℚ, Each, tabulate}
use Rattle.rob_meaning.specs.Vectors.{dot, scale, vec_mat}
use Rattle.rob_meaning.specs.RobustModel.{RobustModel}
use Rattle.rob_meaning.specs.Forms.{matrices, form_columns}
use Rattle.rob_meaning.specs.SetRows.{SetRow, WholeRowHolds, IsLifted, set_rows, set_column_count, lift_count, whole_row, whole_limit}
use Rattle.rob_meaning.specs.SetConditions.{IsTaken, Meets}
use Rattle.rob_meaning.specs.WellFormed.{IsModel}
use Rattle.rob_meaning.specs.Certificates.{Item}
use Rattle.rob_meaning.specs.Proves.{IsItem, cut_of, combination}
use Rattle.rob_meaning.proofs.Conditions.WholeRowLemmas.{meets_lifted}
use Rattle.rob_meaning.proofs.Conditions.ConeLemmas.{meets_taken}
use Rattle.rob_meaning.proofs.Lists.LinearLemmas.{zero_lt_one}
use Rattle.rob_counterpart.specs.RobustProgram.{entry, item_entry}
use Rattle.rob_counterpart.specs.Counterpart.{robust_of}
use Rattle.rob_counterpart.specs.ReadNumbers.{all_zero, items_kept}
use Rattle.rob_counterpart.proofs.Pairs.Blocks.{sum_first}
use Rattle.rob_counterpart.proofs.Pairs.QuotientLemmas.{over, over-add, over-mul_right, over-zero, over_nonneg, over_le, over_zero_out}
use Rattle.rob_counterpart.proofs.Pairs.TabulateLemmas.{length-tabulate, tabulate-same, tabulate-append, zeros-tabulate, scale-tabulate, plus_all-tabulate, dot-over, vec_mat-over}
use Rattle.rob_counterpart.proofs.Sets.ModelLemmas.{entry_inside, entry_outside, set_row-tabulate, form_matrix-tabulate}
use Rattle.rob_counterpart.proofs.Proving.WholeCertificates.{LiesInSet}

-- a form at a base and a vector over t, with weight 1
abbrev pub item_over : RobustModel → ℤ → ℕ → ℤ → (ℕ → ℤ) → Item
item_over m t i b p =
    record { form = i; weight = 1ℚ; base = over b t; vector = tabulate (length m.parameters) (λ c. over (p c) t) }

-- ---- in the set
module _ (m : RobustModel) where
  rows_hold : (s : Fraction) (columns : List Fraction) (rs : List SetRow)
      → ((r : ℕ) → r < length rs → dot (map of_int (slice_index_or (map (whole_row m) rs) r [])) columns
      ≤ℚ s *ℚ of_int (at (map (whole_limit m) rs) r))
      → Each (WholeRowHolds m s columns) rs
  rows_hold s columns [] h = tt
  rows_hold s columns (r ∷ rs) h =
      (record { at_most = h zero (omega arith) }, rows_hold s columns rs (λ q l. h (suc q) (omega arith)))

  module _ (base t : ℤ) (p : ℕ → ℤ) (tp : pos 0 <ℤ t) (lies : LiesInSet (robust_of m) base p) where
    row_holds : (r : ℕ) → r < length (set_rows m)
        → dot (map of_int (slice_index_or (map (whole_row m) (set_rows m)) r []))
        (tabulate (set_column_count m) (λ c. over (p c) t)) ≤ℚ over base t *ℚ of_int ((robust_of m).right r)
    row_holds r l =
        let left : ℕ → ℤ = (robust_of m).left r in
        let e : dot (map of_int (slice_index_or (map (whole_row m) (set_rows m)) r []))
        (tabulate (set_column_count m) (λ c. over (p c) t))
        ≡ over (V.dot (set_column_count m) p ((robust_of m).left r)) t =
        ap (λ (xs : List Fraction). dot xs (tabulate (set_column_count m) (λ c. over (p c) t))) (set_row-tabulate m r l)
        ∙ dot-over (set_column_count m) ((robust_of m).left r) p t
        ∙ ap (λ v. over v t)
        (sum_ext (set_column_count m) (λ c. (robust_of m).left r c *ℤ p c) (λ c. p c *ℤ (robust_of m).left r c)
        (λ c cl. *ℤ_comm ((robust_of m).left r c) (p c))) in
        subst (λ x. x ≤ℚ over base t *ℚ of_int ((robust_of m).right r)) (sym e)
        (subst (λ x. over (V.dot (set_column_count m) p ((robust_of m).left r)) t ≤ℚ x)
        (over-mul_right base ((robust_of m).right r) t)
        (over_le (V.dot (set_column_count m) p ((robust_of m).left r))
        (base *ℤ (robust_of m).right r) t tp (lies.rows r l)))

    pub lifted_over : IsLifted m (over base t) (tabulate (length m.parameters) (λ c. over (p c) t))
    lifted_over = record {
      lifts = tabulate (lift_count m.set_lines) (λ c. over (p (length m.parameters + c)) t);
      count = length-tabulate (lift_count m.set_lines) (λ c. over (p (length m.parameters + c)) t);
      numbers = length-tabulate (length m.parameters) (λ c. over (p c) t);
      rows = subst (λ (columns : List Fraction). Each (WholeRowHolds m (over base t) columns) (set_rows m))
          (tabulate-append (length m.parameters) (lift_count m.set_lines) (λ c. over (p c) t))
          (rows_hold (over base t) (tabulate (set_column_count m) (λ c. over (p c) t)) (set_rows m) row_holds);
    }

    pub meets_over : IsModel m → Meets m (over base t) (tabulate (length m.parameters) (λ c. over (p c) t))
    meets_over model =
        meets_lifted m model (over base t) (tabulate (length m.parameters) (λ c. over (p c) t)) lifted_over

    -- a point or ray of the whole set, over t, is taken from the model's set
    pub taken_over : IsModel m → IsTaken m (over base t) (tabulate (length m.parameters) (λ c. over (p c) t))
    taken_over model =
        meets_taken m model (over base t) (tabulate (length m.parameters) (λ c. over (p c) t))
        (over_nonneg base t tp lies.base_nonnegative) (meets_over model)

-- ---- sums of items

-- the base before the numbers of the vector
abbrev with_base : ℤ → (ℕ → ℤ) → ℕ → ℤ
with_base b p zero = b
with_base b p (suc c) = p c

module _ (m : RobustModel) where
  entry_sum : (i : ℕ) (b : ℤ) (p : ℕ → ℤ) (j : ℕ)
      → sum_to (suc (length m.parameters)) (λ k. with_base b p k *ℤ (robust_of m).form i k j)
      ≡ item_entry (robust_of m) i b p j
  entry_sum i b p j =
      sum_first (length m.parameters) (λ k. with_base b p k *ℤ (robust_of m).form i k j)
      ∙ ap (λ v. (b *ℤ (robust_of m).form i 0 j) +ℤ v) (sym inside)
    where
      n : ℕ
      n = length m.parameters

      inside : V.dot (set_column_count m) p (λ c. entry (robust_of m) i c j)
          ≡ sum_to (length m.parameters) (λ c. p c *ℤ (robust_of m).form i (suc c) j)
      inside =
          let first : sum_to (length m.parameters) (λ c. p c *ℤ entry (robust_of m) i c j)
          ≡ sum_to (length m.parameters) (λ c. p c *ℤ (robust_of m).form i (suc c) j) =
          sum_ext (length m.parameters) (λ c. p c *ℤ entry (robust_of m) i c j)
          (λ c. p c *ℤ (robust_of m).form i (suc c) j)
          (λ c l. ap (λ v. p c *ℤ v) (entry_inside (robust_of m) i c j l)) in
          let second : sum_to (lift_count m.set_lines)
          (λ c. p (length m.parameters + c) *ℤ entry (robust_of m) i (length m.parameters + c) j) ≡ pos 0 =
          sum_zero (lift_count m.set_lines)
          (λ c. p (length m.parameters + c) *ℤ entry (robust_of m) i (length m.parameters + c) j)
          (λ c l. ap (λ v. p (length m.parameters + c) *ℤ v)
          (entry_outside (robust_of m) i (length m.parameters + c) j (omega arith))
          ∙ mul-zero (p (length m.parameters + c))) in
          sum_split (length m.parameters) (lift_count m.set_lines) (λ c. p c *ℤ entry (robust_of m) i c j)
          ∙ omega (arith, ints)

  -- an item's cut is its entries over the scale
  pub cut-over : (t : ℤ) (i : ℕ) (b : ℤ) (p : ℕ → ℤ) → i < length (matrices m)
      → cut_of m (item_over m t i b p) ≡ tabulate (form_columns m) (λ j. over (item_entry (robust_of m) i b p j) t)
  cut-over t i b p some =
      ap (λ (rows : List (List Fraction)).
      vec_mat (form_columns m) (over b t ∷ tabulate (length m.parameters) (λ c. over (p c) t)) rows)
      (form_matrix-tabulate m i some)
      ∙ vec_mat-over (suc (length m.parameters)) (form_columns m) (with_base b p) ((robust_of m).form i) t
      ∙ tabulate-same (form_columns m)
      (λ j. over (sum_to (suc (length m.parameters)) (λ k. with_base b p k *ℤ (robust_of m).form i k j)) t)
      (λ j. over (item_entry (robust_of m) i b p j) t) (λ j l. ap (λ v. over v t) (entry_sum i b p j))

  -- ---- items that are all 0
  zero_base : (x : Fraction) (xs : List Fraction) → all_zero (x ∷ xs) ≡ true → (x ≡ 0ℚ) × (all_zero xs ≡ true)
  zero_base x xs e = by (eq_ℚ x 0ℚ) (eq_ℚ-decides x 0ℚ).0 e
    where
      by : (v : Bool) → (v ≡ true → x ≡ 0ℚ) → (v && all_zero xs) ≡ true → (x ≡ 0ℚ) × (all_zero xs ≡ true)
      by true h e = (h refl, e)
      by false h e = cc

  zero_vector : (n : ℕ) (p : ℕ → ℤ) (t : ℤ) → pos 0 <ℤ t
      → all_zero (tabulate n (λ c. over (p c) t)) ≡ true → (c : ℕ) → c < n
      → p c ≡ pos 0
  zero_vector zero p t tp e c l = absurd (omega arith)
  zero_vector (suc n) p t tp e zero l =
      over_zero_out (p zero) t tp (zero_base (over (p zero) t) (tabulate n (λ c. over (p (suc c)) t)) e).0
  zero_vector (suc n) p t tp e (suc c) l =
      zero_vector n (λ c. p (suc c)) t tp
      (zero_base (over (p zero) t) (tabulate n (λ c. over (p (suc c)) t)) e).1 c (omega arith)

  zero_entry : (t : ℤ) (i : ℕ) (b : ℤ) (p : ℕ → ℤ) (j : ℕ) → pos 0 <ℤ t
      → all_zero (over b t ∷ tabulate (length m.parameters) (λ c. over (p c) t)) ≡ true
      → item_entry (robust_of m) i b p j ≡ pos 0
  zero_entry t i b p j tp e =
      let z : (over b t ≡ 0ℚ) × (all_zero (tabulate (length m.parameters) (λ c. over (p c) t)) ≡ true) =
      zero_base (over b t) (tabulate (length m.parameters) (λ c. over (p c) t)) e in
      let bz : b ≡ pos 0 = over_zero_out b t tp z.0 in
      sym (entry_sum i b p j)
      ∙ sum_zero (suc (length m.parameters)) (λ k. with_base b p k *ℤ (robust_of m).form i k j)
      (λ k l. ap (λ v. v *ℤ (robust_of m).form i k j) (each k l bz (zero_vector (length m.parameters) p t tp z.1))
      ∙ zero-mul ((robust_of m).form i k j))
    where
      each : (k : ℕ) → k < suc (length m.parameters) → b ≡ pos 0 → ((c : ℕ) → c < length m.parameters → p c ≡ pos 0)
          → with_base b p k ≡ pos 0
      each zero l bz pz = bz
      each (suc c) l bz pz = pz c (omega arith)

  -- ---- the items that are kept
  module _ (t : ℤ) (tp : pos 0 <ℤ t) where
    abbrev sums : ℕ → (ℕ → ℕ) → (ℕ → ℤ) → (ℕ → ℕ → ℤ) → List Fraction
    sums h g b p =
        tabulate (form_columns m) (λ j. over (sum_to h (λ i. item_entry (robust_of m) (g i) (b i) (p i) j)) t)

    one_more : (h : ℕ) (g : ℕ → ℕ) (b : ℕ → ℤ) (p : ℕ → ℕ → ℤ) → g 0 < length (matrices m)
        → plus_all ℚ_ring (scale 1ℚ (cut_of m (item_over m t (g 0) (b 0) (p 0))))
        (sums h (λ i. g (suc i)) (λ i. b (suc i)) (λ i. p (suc i))) ≡ sums (suc h) g b p
    one_more h g b p some =
        ap (λ (xs : List Fraction).
        plus_all ℚ_ring (scale 1ℚ xs) (sums h (λ i. g (suc i)) (λ i. b (suc i)) (λ i. p (suc i))))
        (cut-over t (g 0) (b 0) (p 0) some)
        ∙ ap (λ (xs : List Fraction). plus_all ℚ_ring xs (sums h (λ i. g (suc i)) (λ i. b (suc i)) (λ i. p (suc i))))
        (scale-tabulate 1ℚ (form_columns m) (λ j. over (item_entry (robust_of m) (g 0) (b 0) (p 0) j) t))
        ∙ plus_all-tabulate (form_columns m) (λ j. 1ℚ *ℚ over (item_entry (robust_of m) (g 0) (b 0) (p 0) j) t)
        (λ j. over (sum_to h (λ i. item_entry (robust_of m) (g (suc i)) (b (suc i)) (p (suc i)) j)) t)
        ∙ tabulate-same (form_columns m)
        (λ j. 1ℚ *ℚ over (item_entry (robust_of m) (g 0) (b 0) (p 0) j) t
        +ℚ over (sum_to h (λ i. item_entry (robust_of m) (g (suc i)) (b (suc i)) (p (suc i)) j)) t)
        (λ j. over (sum_to (suc h) (λ i. item_entry (robust_of m) (g i) (b i) (p i) j)) t)
        (λ j l. ap (λ x. x +ℚ over (sum_to h (λ i. item_entry (robust_of m) (g (suc i)) (b (suc i)) (p (suc i)) j)) t)
        (Q.ℚ-one-mul (over (item_entry (robust_of m) (g 0) (b 0) (p 0) j) t))
        ∙ sym (over-add (item_entry (robust_of m) (g 0) (b 0) (p 0) j)
        (sum_to h (λ i. item_entry (robust_of m) (g (suc i)) (b (suc i)) (p (suc i)) j)) t)
        ∙ ap (λ v. over v t) (sym (sum_first h (λ i. item_entry (robust_of m) (g i) (b i) (p i) j))))

    one_less : (h : ℕ) (g : ℕ → ℕ) (b : ℕ → ℤ) (p : ℕ → ℕ → ℤ)
        → all_zero (over (b 0) t ∷ tabulate (length m.parameters) (λ c. over (p 0 c) t)) ≡ true
        → sums h (λ i. g (suc i)) (λ i. b (suc i)) (λ i. p (suc i)) ≡ sums (suc h) g b p
    one_less h g b p e =
        tabulate-same (form_columns m)
        (λ j. over (sum_to h (λ i. item_entry (robust_of m) (g (suc i)) (b (suc i)) (p (suc i)) j)) t)
        (λ j. over (sum_to (suc h) (λ i. item_entry (robust_of m) (g i) (b i) (p i) j)) t)
        (λ j l.
        let z : item_entry (robust_of m) (g 0) (b 0) (p 0) j ≡ pos 0 = zero_entry t (g 0) (b 0) (p 0) j tp e in
        let f : sum_to (suc h) (λ i. item_entry (robust_of m) (g i) (b i) (p i) j)
        ≡ item_entry (robust_of m) (g 0) (b 0) (p 0) j
        +ℤ sum_to h (λ i. item_entry (robust_of m) (g (suc i)) (b (suc i)) (p (suc i)) j) =
        sum_first h (λ i. item_entry (robust_of m) (g i) (b i) (p i) j) in
        ap (λ v. over v t) (omega (arith, ints)))

    -- the items that are kept sum to what all sum to
    pub combination-over : (h : ℕ) (g : ℕ → ℕ) (b : ℕ → ℤ) (p : ℕ → ℕ → ℤ)
        → ((i : ℕ) → i < h → g i < length (matrices m))
        → combination m (items_kept (tabulate h (λ i. item_over m t (g i) (b i) (p i)))) ≡ sums h g b p
    combination-over zero g b p some =
        zeros-tabulate (form_columns m)
        ∙ tabulate-same (form_columns m) (λ j. 0ℚ) (λ j. over (pos 0) t) (λ j l. sym (over-zero t))
    combination-over (suc h) g b p some =
        by (all_zero (over (b 0) t ∷ tabulate (length m.parameters) (λ c. over (p 0 c) t))) refl
        (combination-over h (λ i. g (suc i)) (λ i. b (suc i)) (λ i. p (suc i)) (λ i l. some (suc i) (omega arith)))
      where
        by : (v : Bool) → all_zero (over (b 0) t ∷ tabulate (length m.parameters) (λ c. over (p 0 c) t)) ≡ v
            → combination m (items_kept (tabulate h (λ i. item_over m t (g (suc i)) (b (suc i)) (p (suc i)))))
            ≡ sums h (λ i. g (suc i)) (λ i. b (suc i)) (λ i. p (suc i))
            → combination m
            (if v then items_kept (tabulate h (λ i. item_over m t (g (suc i)) (b (suc i)) (p (suc i))))
            else item_over m t (g 0) (b 0) (p 0)
            ∷ items_kept (tabulate h (λ i. item_over m t (g (suc i)) (b (suc i)) (p (suc i))))) ≡ sums (suc h) g b p
        by true e ih = ih ∙ one_less h g b p e
        by false e ih =
            ap (λ (xs : List Fraction). plus_all ℚ_ring (scale 1ℚ (cut_of m (item_over m t (g 0) (b 0) (p 0)))) xs) ih
            ∙ one_more h g b p (some zero (omega arith))

    -- and each of them is an item, where the points and rays lie in the set
    pub items_over : IsModel m → (h : ℕ) (g : ℕ → ℕ) (b : ℕ → ℤ) (p : ℕ → ℕ → ℤ)
        → ((i : ℕ) → i < h → LiesInSet (robust_of m) (b i) (p i))
        → Each (IsItem m) (items_kept (tabulate h (λ i. item_over m t (g i) (b i) (p i))))
    items_over model zero g b p lie = tt
    items_over model (suc h) g b p lie =
        by (all_zero (over (b 0) t ∷ tabulate (length m.parameters) (λ c. over (p 0 c) t)))
        (items_over model h (λ i. g (suc i)) (λ i. b (suc i)) (λ i. p (suc i)) (λ i l. lie (suc i) (omega arith)))
      where
        by : (v : Bool)
            → Each (IsItem m) (items_kept (tabulate h (λ i. item_over m t (g (suc i)) (b (suc i)) (p (suc i)))))
            → Each (IsItem m)
            (if v then items_kept (tabulate h (λ i. item_over m t (g (suc i)) (b (suc i)) (p (suc i))))
            else item_over m t (g 0) (b 0) (p 0)
            ∷ items_kept (tabulate h (λ i. item_over m t (g (suc i)) (b (suc i)) (p (suc i)))))
        by true ih = ih
        by false ih =
            (record { weight = zero_lt_one; taken = taken_over m (b 0) t (p 0) tp (lie zero (omega arith)) model }, ih)
