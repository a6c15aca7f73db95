-- Covers and items that are read have the shape of a certificate's: they stand in order, and none is 0.
use Rattle.std.proofs.Common.{◌≡◌, ◌≢◌, ℕ, suc, ◌<◌, ◌≤◌, List, [], ◌∷◌, length, refl, arith, Bool, true, false, inl, inr}
use Rattle.std.specs.Prelude.{if◌then◌else◌}
use Rattle.rob_algebra.specs.Fraction.{Fraction, ◌-ℚ◌}
use Rattle.rob_meaning.specs.Certificates.{Cover, Item, IsBefore}
use Rattle.rob_meaning.specs.Places.{0ℚ, Each, tabulate, InOrder}
use Rattle.rob_counterpart.specs.RobustProgram.{RobustProgram}
use Rattle.rob_counterpart.specs.Reform.{positive_row, negative_row}
use Rattle.rob_counterpart.proofs.Pairs.TabulateLemmas.{length-tabulate}
use Rattle.rob_counterpart.specs.ReadNumbers.{cover_at, covers_at, covers_to, vector_at, item_at, items_to, items_kept, concat, all_zero}
use Rattle.rob_counterpart.proofs.Proving.KeptOrder.{ordered_concat, each_concat, kept_ordered, kept_nonzero, kept_each}
use Rattle.rob_meaning.proofs.Lists.OrderLemmas.{ordered_tabulate}
use Rattle.rob_meaning.proofs.Lists.TabulateLemmas.{each_tabulate}

-- ---- what is kept of a list
items_each : (P : Item → Type 0) (is : List Item) → Each P is → Each P (items_kept is)
items_each P [] h = tt
items_each P (i ∷ is) h = by (all_zero (i.base ∷ i.vector)) (items_each P is h.1)
  where
    by : (v : Bool) → Each P (items_kept is) → Each P (if v then items_kept is else i ∷ items_kept is)
    by true k = k
    by false k = (h.0, k)

items_ordered : (R : Item → Item → Type 0) (is : List Item) → InOrder R is → InOrder R (items_kept is)
items_ordered R [] h = tt
items_ordered R (i ∷ is) h = by (all_zero (i.base ∷ i.vector)) (items_ordered R is h.1)
  where
    by : (v : Bool) → InOrder R (items_kept is) → InOrder R (if v then items_kept is else i ∷ items_kept is)
    by true k = k
    by false k = (items_each (R i) is h.0, k)

items_few : (is : List Item) → length (items_kept is) ≤ length is
items_few [] = omega arith
items_few (i ∷ is) = by (all_zero (i.base ∷ i.vector)) (items_few is)
  where
    by : (v : Bool) → length (items_kept is) ≤ length is → length (if v then items_kept is else i ∷ items_kept is) ≤
        suc (length is)
    by true h = omega arith
    by false h = omega arith

-- ---- the covers and items that are read
module _ (d : RobustProgram) (x : ℕ → Fraction) where
  pub covers_inside : (n : ℕ) → Each (λ (c : Cover). (c.form < n) × (c.set_row < d.set_rows)) (covers_to d n x)
  covers_inside n =
      kept_each (λ (c : Cover). (c.form < n) × (c.set_row < d.set_rows)) (concat (tabulate n (covers_at d x)))
      (each_concat (λ (c : Cover). (c.form < n) × (c.set_row < d.set_rows)) n (covers_at d x)
      (λ i l. each_tabulate (λ (c : Cover). (c.form < n) × (c.set_row < d.set_rows)) d.set_rows (cover_at d x i)
      (λ r rl. (l, rl))))

  pub covers_nonzero : (n : ℕ) → Each (λ (c : Cover). c.amount ≢ 0ℚ) (covers_to d n x)
  covers_nonzero n = kept_nonzero (concat (tabulate n (covers_at d x)))

  pub covers_ordered : (n : ℕ) → InOrder IsBefore (covers_to d n x)
  covers_ordered n =
      kept_ordered (concat (tabulate n (covers_at d x)))
      (ordered_concat n (covers_at d x) (λ i l. ordered_tabulate IsBefore d.set_rows (cover_at d x i)
      (λ j k jk kl. inr (refl, jk)))
      (λ j k jk kl. each_tabulate (λ c. Each (IsBefore c) (covers_at d x k)) d.set_rows (cover_at d x j)
      (λ r rl. each_tabulate (IsBefore (cover_at d x j r)) d.set_rows (cover_at d x k) (λ q ql. inl jk))))

  pub items_inside : (n : ℕ) → Each (λ (i : Item). (i.form < n) × (length i.vector ≡ d.parameters)) (items_to d n x)
  items_inside n =
      items_each (λ (i : Item). (i.form < n) × (length i.vector ≡ d.parameters)) (tabulate n (item_at d x))
      (each_tabulate (λ (i : Item). (i.form < n) × (length i.vector ≡ d.parameters)) n (item_at d x)
      (λ i l. (l, vector_length i)))
    where
      vector_length : (i : ℕ) → length (vector_at d x i) ≡ d.parameters
      vector_length i = length-tabulate d.parameters (λ c. x (negative_row d i c) -ℚ x (positive_row d i c))

  pub items_in_order : (n : ℕ) → InOrder (λ (a b : Item). a.form ≤ b.form) (items_to d n x)
  items_in_order n =
      items_ordered (λ (a b : Item). a.form ≤ b.form) (tabulate n (item_at d x))
      (ordered_tabulate (λ (a b : Item). a.form ≤ b.form) n (item_at d x) (λ j k jk kl. omega arith))

  pub items_count : (n : ℕ) → length (items_to d n x) ≤ n
  items_count n = let e : length (tabulate n (item_at d x)) ≡ n = length-tabulate n (item_at d x) in
      let f : length (items_kept (tabulate n (item_at d x))) ≤ length (tabulate n (item_at d x)) =
      items_few (tabulate n (item_at d x)) in omega arith
