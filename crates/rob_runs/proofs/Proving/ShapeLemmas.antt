-- The covers and the items of a run stand in order, and none of them is 0.
use Rattle.std.proofs.Common.{◌≡◌, ◌≢◌, ℕ, zero, suc, ◌+◌, ◌<◌, ◌≤◌, List, [], ◌∷◌, ◌++◌, length, length-append, refl, ap, arith, Bool, true, false, inl, inr}
use Rattle.std.proofs.lemmas.Bool.{cases_eq}
use Rattle.std.proofs.lemmas.Bool.Decides.{nat_tests}
use Rattle.std.specs.Prelude.{if◌then◌else◌, nat_eq}
use Rattle.rob_algebra.specs.Fraction.{Fraction}
use Rattle.rob_algebra.specs.FractionOrder.{eq_ℚ}
use Rattle.rob_meaning.specs.Certificates.{Cover, Item, IsBefore}
use Rattle.rob_meaning.specs.Forms.{matrices}
use Rattle.rob_meaning.specs.Places.{0ℚ, at, Each, tabulate, InOrder}
use Rattle.rob_meaning.specs.RobustModel.{RobustModel}
use Rattle.rob_meaning.specs.SetRows.{set_rows}
use Rattle.rob_meaning.proofs.Lists.EachLemmas.{each_append}
use Rattle.rob_counterpart.specs.MasterItems.{cut_item, cut_items, weighted_kept}
use Rattle.rob_counterpart.specs.ReadNumbers.{concat}
use Rattle.rob_counterpart.proofs.Pairs.TabulateLemmas.{length-tabulate}
use Rattle.rob_algebra.specs.Fraction.{of_int}
use Rattle.rob_runs.specs.Cuts.{Cut, IsCut, cuts_of}
use Rattle.rob_runs.specs.Readings.{covers_of_amounts, of_form, by_form, run_items}
use Rattle.rob_runs.specs.Shapes.{IsNotBehind}
use Rattle.rob_runs.proofs.Rounds.CutLemmas.{are_cuts}
use Rattle.rob_runs.proofs.Proving.FormOrder.{each_by_form, of_form_in, of_form_out, by_form_out}
use Rattle.rob_runs.proofs.Proving.RunCertificates.{each_weighted}
use Rattle.rob_meaning.proofs.Lists.TabulateLemmas.{each_tabulate}
use Rattle.rob_counterpart.proofs.Proving.KeptOrder.{ordered_concat, each_concat, kept_ordered, kept_nonzero, kept_each}
use Rattle.rob_meaning.proofs.Lists.OrderLemmas.{ordered_append, ordered_tabulate}

-- ---- covers
module _ (m : RobustModel) (amounts : ℕ → List Fraction) where
  rows_of : ℕ → List Cover
  rows_of i = tabulate (length (set_rows m)) (λ r. record { form = i; set_row = r; amount = at (amounts i) r })

  pub covers_in : Each (λ (c : Cover). (c.form < length (matrices m)) × (c.set_row < length (set_rows m))
      × (c.amount ≢ 0ℚ)) (covers_of_amounts m amounts)
  unfolding rows_of
  covers_in =
      both (covers_of_amounts m amounts)
      (kept_each (λ (c : Cover). (c.form < length (matrices m)) × (c.set_row < length (set_rows m)))
      (concat (tabulate (length (matrices m)) rows_of))
      (each_concat (λ (c : Cover). (c.form < length (matrices m)) × (c.set_row < length (set_rows m)))
      (length (matrices m)) rows_of
      (λ i l. each_tabulate (λ (c : Cover). (c.form < length (matrices m)) × (c.set_row < length (set_rows m)))
      (length (set_rows m)) (λ r. record { form = i; set_row = r; amount = at (amounts i) r }) (λ r rl. (l, rl)))))
      (kept_nonzero (concat (tabulate (length (matrices m)) rows_of)))
    where
      both : (cs : List Cover)
          → Each (λ (c : Cover). (c.form < length (matrices m)) × (c.set_row < length (set_rows m))) cs
          → Each (λ (c : Cover). c.amount ≢ 0ℚ) cs
          → Each (λ (c : Cover). (c.form < length (matrices m))
          × (c.set_row < length (set_rows m)) × (c.amount ≢ 0ℚ)) cs
      both [] h k = tt
      both (c ∷ cs) h k = ((h.0.0, h.0.1, k.0), both cs h.1 k.1)

  pub covers_in_order : InOrder IsBefore (covers_of_amounts m amounts)
  unfolding rows_of
  covers_in_order =
      kept_ordered (concat (tabulate (length (matrices m)) rows_of))
      (ordered_concat (length (matrices m)) rows_of
      (λ i l. ordered_tabulate IsBefore (length (set_rows m))
      (λ r. record { form = i; set_row = r; amount = at (amounts i) r }) (λ j k jk kl. inr (refl, jk)))
      (λ j k jk kl. each_tabulate (λ c. Each (IsBefore c) (rows_of k)) (length (set_rows m))
      (λ r. record { form = j; set_row = r; amount = at (amounts j) r })
      (λ r rl. each_tabulate (IsBefore (record { form = j; set_row = r; amount = at (amounts j) r }))
      (length (set_rows m)) (λ q. record { form = k; set_row = q; amount = at (amounts k) q }) (λ q ql. inl jk))))

-- ---- items
of_form_has : (i : ℕ) (items : List Item) → Each (λ (item : Item). item.form ≡ i) (of_form i items)
of_form_has i [] = tt
of_form_has i (item ∷ items) = by (nat_eq item.form i) (λ e. grind (arith, nat_tests)) (of_form_has i items)
  where
    by : (b : Bool) → (b ≡ true → item.form ≡ i) → Each (λ (item : Item). item.form ≡ i) (of_form i items)
        → Each (λ (item : Item). item.form ≡ i) (if b then item ∷ of_form i items else of_form i items)
    by true d rest = (d refl, rest)
    by false d rest = rest

same_in_order : (i : ℕ) (items : List Item) → Each (λ (item : Item). item.form ≡ i) items → InOrder IsNotBehind items
same_in_order i [] h = tt
same_in_order i (item ∷ items) h = (all items h.1, same_in_order i items h.1)
  where
    all : (items : List Item) → Each (λ (other : Item). other.form ≡ i) items → Each (IsNotBehind item) items
    all [] k = tt
    all (other ∷ items) k =
        let e : item.form ≡ i = h.0 in
        let f : other.form ≡ i = k.0 in
        (omega arith, all items k.1)

by_form_below : (n : ℕ) (items : List Item) → Each (λ (item : Item). item.form < n) (by_form n items)
by_form_below zero items = tt
by_form_below (suc n) items =
    each_append (λ (item : Item). item.form < suc n) (by_form n items) (of_form n items)
    (wider (by_form n items) (by_form_below n items)) (exact (of_form n items) (of_form_has n items))
  where
    wider : (xs : List Item) → Each (λ (item : Item). item.form < n) xs → Each (λ (item : Item). item.form < suc n) xs
    wider [] h = tt
    wider (x ∷ xs) h = (let l : x.form < n = h.0 in omega arith, wider xs h.1)

    exact : (xs : List Item) → Each (λ (item : Item). item.form ≡ n) xs → Each (λ (item : Item). item.form < suc n) xs
    exact [] h = tt
    exact (x ∷ xs) h = (let l : x.form ≡ n = h.0 in omega arith, exact xs h.1)

by_form_in_order : (n : ℕ) (items : List Item) → InOrder IsNotBehind (by_form n items)
by_form_in_order zero items = tt
by_form_in_order (suc n) items =
    ordered_append IsNotBehind (by_form n items) (of_form n items) (by_form_in_order n items)
    (same_in_order n (of_form n items) (of_form_has n items))
    (all (by_form n items) (by_form_below n items))
  where
    each : (x : Item) → x.form < n → (ys : List Item) → Each (λ (item : Item). item.form ≡ n) ys
        → Each (IsNotBehind x) ys
    each x l [] h = tt
    each x l (y ∷ ys) h = (let e : y.form ≡ n = h.0 in omega arith, each x l ys h.1)

    all : (xs : List Item) → Each (λ (item : Item). item.form < n) xs
        → Each (λ x. Each (IsNotBehind x) (of_form n items)) xs
    all [] h = tt
    all (x ∷ xs) h = (each x h.0 (of_form n items) (of_form_has n items), all xs h.1)

-- no item is doubled
by_form_count : (n : ℕ) (items : List Item) → length (by_form n items) ≤ length items
by_form_count n [] = none n
  where
    none : (n : ℕ) → length (by_form n []) ≤ 0
    none zero = omega arith
    none (suc n) =
        let e : length (by_form n [] ++ []) ≡ length (by_form n []) + 0 = length-append (by_form n []) [] in
        let l : length (by_form n []) ≤ 0 = none n in
        omega arith
by_form_count n (item ∷ items) =
    let l : length (by_form n items) ≤ length items = by_form_count n items in
    let k : length (by_form n (item ∷ items)) ≤ suc (length (by_form n items)) = more n in omega arith
  where
    more : (n : ℕ) → length (by_form n (item ∷ items)) ≤ suc (length (by_form n items))
    more zero = omega arith
    more (suc n) =
        let s : length (by_form n items ++ of_form n items) ≡ length (by_form n items) + length (of_form n items) =
        length-append (by_form n items) (of_form n items) in
        elim (cases_eq item.form n) [
          | inl e ↦
              let a : length (by_form n (item ∷ items) ++ of_form n (item ∷ items))
              ≡ length (by_form n (item ∷ items)) + length (of_form n (item ∷ items)) =
              length-append (by_form n (item ∷ items)) (of_form n (item ∷ items)) in
              let b : length (by_form n (item ∷ items)) ≡ length (by_form n items) =
              ap length (by_form_out n item items (λ h. omega arith)) in
              let c : length (of_form n (item ∷ items)) ≡ suc (length (of_form n items)) =
              ap length (of_form_in n item items e) in
              omega arith
          | inr e ↦
              let a : length (by_form n (item ∷ items) ++ of_form n (item ∷ items))
              ≡ length (by_form n (item ∷ items)) + length (of_form n (item ∷ items)) =
              length-append (by_form n (item ∷ items)) (of_form n (item ∷ items)) in
              let b : length (by_form n (item ∷ items)) ≤ suc (length (by_form n items)) = more n in
              let c : length (of_form n (item ∷ items)) ≡ length (of_form n items) =
              ap length (of_form_out n item items e) in
              omega arith
        ]

weighted_count : (items : List Item) → length (weighted_kept items) ≤ length items
weighted_count [] = omega arith
weighted_count (item ∷ items) = by (eq_ℚ item.weight 0ℚ) (weighted_count items)
  where
    by : (v : Bool) → length (weighted_kept items) ≤ length items
        → length (if v then weighted_kept items else item ∷ weighted_kept items) ≤ suc (length items)
    by true h = omega arith
    by false h = omega arith

module _ (m : RobustModel) (cuts : List Cut) (weight : ℕ → Fraction) where
  pub items_in_order : InOrder IsNotBehind (run_items m cuts weight)
  items_in_order = by_form_in_order (length (matrices m)) (cut_items m (cuts_of cuts) weight)

  pub items_in : Each (IsCut m) cuts
      → Each (λ (item : Item). (item.form < length (matrices m)) × (length item.vector ≡ length m.parameters))
      (run_items m cuts weight)
  items_in h =
      each_by_form (λ (item : Item). (item.form < length (matrices m)) × (length item.vector ≡ length m.parameters))
      (length (matrices m)) (cut_items m (cuts_of cuts) weight)
      (each_weighted (λ (item : Item). (item.form < length (matrices m)) × (length item.vector ≡ length m.parameters))
      (length cuts) (cut_item m (cuts_of cuts) weight)
      (λ q l. (
        (are_cuts m cuts h).forms q l,
        length-tabulate (length m.parameters) (λ c. of_int ((cuts_of cuts).vector q c)),
      )))

  pub items_count : length (run_items m cuts weight) ≤ length cuts
  items_count =
      let a : length (run_items m cuts weight) ≤ length (cut_items m (cuts_of cuts) weight) =
      by_form_count (length (matrices m)) (cut_items m (cuts_of cuts) weight) in
      let b : length (cut_items m (cuts_of cuts) weight)
      ≤ length (tabulate (length cuts) (cut_item m (cuts_of cuts) weight)) =
      weighted_count (tabulate (length cuts) (cut_item m (cuts_of cuts) weight)) in
      let c : length (tabulate (length cuts) (cut_item m (cuts_of cuts) weight)) ≡ length cuts =
      length-tabulate (length cuts) (cut_item m (cuts_of cuts) weight) in
      omega arith
