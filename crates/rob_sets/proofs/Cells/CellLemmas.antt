-- The cells of a table: where a number is, and what the entries of a table say.
use Rattle.std.specs.Prelude.{◌≡◌, ℕ, zero, suc, ◌<◌, Bool, true, false, cond, [], ◌∷◌, Option, Some, pos, ◌⊎◌, refl}
use Rattle.std.proofs.Common.{sym, ◌∙◌, ap, ap₂, arith, inl, inr}
use Rattle.std.proofs.lemmas.Cmp.{ranked}
use Rattle.std.specs.BTreeMap.{is_at}
use Rattle.std.specs.Ordering.{nat_cmp, ordering_then, is_eq, MatchOrdering}
use Rattle.std.specs.declared.cmp.Ordering.{Ordering}
use Rattle.std.specs.declared.cmp.Ordering.TheVariants.{Less, Equal, Greater}
use Rattle.rob_algebra.specs.Fraction.{Fraction, ratio, ◌+ℚ◌, ◌*ℚ◌}
use Rattle.rob_algebra.specs.FractionLaws as Q
use Rattle.rob_algebra.specs.Polynomials.{lit, minus as minus', ◌:+◌, ◌:*◌, v0, v1, v2}
use Rattle.rob_meaning.specs.Values.{signed}
use Rattle.rob_meaning.specs.Coefficients.{unit, single}
use Rattle.rob_meaning.specs.Places.{0ℚ, 1ℚ}
use Rattle.rob_sets.specs.Tables.{cell_cmp, number_or_zero}
use Rattle.rob_sets.specs.declared.table.Cell.{Cell}
use Rattle.rob_model.proofs.ValueLemmas.{add-zero_ℚ, mul-one_ℚ}
use Rattle.rob_meaning.proofs.Tables.TableLemmas.{zero_times, times_zero}

-- ---- units
pub unit-same : (a : ℕ) → unit a a ≡ 1ℚ
unit-same zero = refl
unit-same (suc a) = unit-same a

pub unit-other : (a k : ℕ) → (a ≡ k → ⊥) → unit a k ≡ 0ℚ
unit-other zero zero h = absurd (h refl)
unit-other zero (suc k) h = refl
unit-other (suc a) zero h = refl
unit-other (suc a) (suc k) h = unit-other a k (λ e. h (ap suc e))

-- two places are one cell, or the 1 in the first is not at the second
abbrev pub AreOne : ℕ → ℕ → ℕ → ℕ → Ordering → Type 0
AreOne a c k j o = ((is_eq o ≡ true) × (a ≡ k) × (c ≡ j)) ⊎ ((is_eq o ≡ false) × (single a c k j ≡ 0ℚ))

by_columns : (a c k j : ℕ) (p : Ordering) → a ≡ k → MatchOrdering p (c < j) (c ≡ j) (j < c)
    → AreOne a c k j (ordering_then Equal p)
by_columns a c k j Less e h =
    inr (refl, ap (λ u. unit a k *ℚ u) (unit-other c j (λ e. absurd (omega arith))) ∙ times_zero (unit a k))
by_columns a c k j Equal e h = inl (refl, e, h)
by_columns a c k j Greater e h =
    inr (refl, ap (λ u. unit a k *ℚ u) (unit-other c j (λ e. absurd (omega arith))) ∙ times_zero (unit a k))

by_rows : (a c k j : ℕ) (o p : Ordering) → MatchOrdering o (a < k) (a ≡ k) (k < a)
    → MatchOrdering p (c < j) (c ≡ j) (j < c)
    → AreOne a c k j (ordering_then o p)
by_rows a c k j Less p h g =
    inr (refl, ap (λ u. u *ℚ unit c j) (unit-other a k (λ e. absurd (omega arith))) ∙ zero_times (unit c j))
by_rows a c k j Equal p h g = by_columns a c k j p h g
by_rows a c k j Greater p h g =
    inr (refl, ap (λ u. u *ℚ unit c j) (unit-other a k (λ e. absurd (omega arith))) ∙ zero_times (unit c j))

pub are_one : (a c k j : ℕ) → AreOne a c k j (ordering_then (nat_cmp a k) (nat_cmp c j))
are_one a c k j =
    by_rows a c k j (nat_cmp a k) (nat_cmp c j) (ranked a k (nat_cmp a k) refl) (ranked c j (nat_cmp c j) refl)

pub single-same : (a c : ℕ) → single a c a c ≡ 1ℚ
single-same a c = ap₂ ◌*ℚ◌ (unit-same a) (unit-same c) ∙ Q.ring [] (lit (pos 1) :* lit (pos 1)) (lit (pos 1)) refl

unit-sym : (a k : ℕ) → unit a k ≡ unit k a
unit-sym zero zero = refl
unit-sym zero (suc k) = refl
unit-sym (suc a) zero = refl
unit-sym (suc a) (suc k) = unit-sym a k

pub single-sym : (a c k j : ℕ) → single a c k j ≡ single k j a c
single-sym a c k j = ap₂ ◌*ℚ◌ (unit-sym a k) (unit-sym c j)

zero_is_one : 0ℚ ≡ 1ℚ → ⊥
unfolding ratio
zero_is_one h = let e : pos 0 ≡ pos 1 = ap (λ (x : Fraction). x.num) h in cc

pub same_cell : (a c : ℕ) → is_eq (ordering_then (nat_cmp a a) (nat_cmp c c)) ≡ true
same_cell a c = by (are_one a c a c)
  where
    by : AreOne a c a c (ordering_then (nat_cmp a a) (nat_cmp c c))
        → is_eq (ordering_then (nat_cmp a a) (nat_cmp c c)) ≡ true
    by (inl here) = here.0
    by (inr apart) = absurd (zero_is_one (sym apart.1 ∙ single-same a c))

-- ---- signs
pub signed_parts : (minus : Bool) (x s y : Fraction)
    → signed minus x *ℚ s +ℚ signed minus y ≡ signed minus (x *ℚ s +ℚ y)
signed_parts true x s y = Q.ring (x ∷ s ∷ y ∷ []) (minus' v0 :* v1 :+ minus' v2) (minus' (v0 :* v1 :+ v2)) refl
signed_parts false x s y = refl

-- ---- a number is added at a cell
module _ {N : Type 0} (value : N → Fraction) where
  pub added_at : (cell : Cell) (x sum : N) (old : Cell → Option N) (k j : ℕ) (found : Option N)
      → found ≡ cond (is_at (cell_cmp cell) (record { row = k; column = j })) (Some sum)
      (old (record { row = k; column = j }))
      → value sum ≡ number_or_zero value (old cell) +ℚ value x
      → number_or_zero value found ≡ number_or_zero value (old (record { row = k; column = j }))
      +ℚ value x *ℚ single cell.row cell.column k j
  added_at cell x sum old k j found is e = by (are_one cell.row cell.column k j)
    where
      by : AreOne cell.row cell.column k j (cell_cmp cell (record { row = k; column = j }))
          → number_or_zero value found ≡ number_or_zero value (old (record { row = k; column = j }))
          +ℚ value x *ℚ single cell.row cell.column k j
      by (inl here) =
          ap (number_or_zero value) (is ∙ ap (λ b. cond b (Some sum) (old (record { row = k; column = j }))) here.0)
          ∙ e
          ∙ ap₂ (λ (c : Cell) (u : Fraction). number_or_zero value (old c) +ℚ u)
          (ap₂ (λ (r c : ℕ). let cell : Cell = record { row = r; column = c } in cell) here.1 here.2)
          (sym (ap (λ u. value x *ℚ u) (ap₂ (λ (r c : ℕ). single cell.row cell.column r c) (sym here.1) (sym here.2)
          ∙ single-same cell.row cell.column) ∙ mul-one_ℚ (value x)))
      by (inr apart) =
          ap (number_or_zero value) (is ∙ ap (λ b. cond b (Some sum) (old (record { row = k; column = j }))) apart.0)
          ∙ sym (ap (λ u. number_or_zero value (old (record { row = k; column = j })) +ℚ u)
          (ap (λ u. value x *ℚ u) apart.1 ∙ times_zero (value x))
          ∙ add-zero_ℚ (number_or_zero value (old (record { row = k; column = j }))))
