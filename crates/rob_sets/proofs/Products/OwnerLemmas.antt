-- Products of two tables of which at most one has parameters and at most one has decision columns: each of their
-- coefficients is the product of one coefficient of each.
use Rattle.std.specs.Prelude.{◌≡◌, ℕ, zero, suc, max, Bool, true, false, not, pos, [], ◌∷◌, ◌⊎◌, refl}
use Rattle.std.proofs.Common.{sym, ◌∙◌, ap, arith, inl, inr}
use Rattle.rob_algebra.specs.Fraction.{Fraction, ◌*ℚ◌}
use Rattle.rob_algebra.specs.FractionLaws as Q
use Rattle.rob_algebra.specs.Polynomials.{lit, ◌:+◌, ◌:*◌, v0, v1, v2, v3}
use Rattle.rob_meaning.specs.Coefficients.{Table, unit, table_times}
use Rattle.rob_meaning.specs.Places.{0ℚ}
use Rattle.rob_meaning.proofs.Tables.TableLemmas.{zero_times, times_zero}
use Rattle.rob_model.proofs.ValueLemmas.{mul-one_ℚ}
use Rattle.rob_sets.specs.Tables.{AreApart, HasNoParameters, HasNoColumns}

-- ---- whose the parameters are, and whose the columns
-- the number, or 0
abbrev pub sel : Bool → ℕ → ℕ
sel true k = k
sel false k = 0

-- all but the first row, or column, of one of the two tables is 0: of the second where `owner` is true
abbrev pub Lacks : Bool → Type 0 → Type 0 → Type 0
Lacks true of_first of_second = of_second
Lacks false of_first of_second = of_first

-- the parameters belong to the first table or to the second, and so do the columns
pub record Owners (f g : Table) : Type 0 where
  pub p : Bool
  pub c : Bool
  pub parameters : Lacks p (HasNoParameters f) (HasNoParameters g)
  pub columns : Lacks c (HasNoColumns f) (HasNoColumns g)

pub owners : (f g : Table) → AreApart f g → Owners f g
owners f g h = by h.parameters h.columns
  where
    by : HasNoParameters f ⊎ HasNoParameters g → HasNoColumns f ⊎ HasNoColumns g → Owners f g
    by (inl a) (inl b) = record { p = false; c = false; parameters = a; columns = b }
    by (inl a) (inr b) = record { p = false; c = true; parameters = a; columns = b }
    by (inr a) (inl b) = record { p = true; c = false; parameters = a; columns = b }
    by (inr a) (inr b) = record { p = true; c = true; parameters = a; columns = b }

-- ---- a coefficient of a product
module _ (f g : Table) where
  -- the parameters and the columns belong to the second table
  by_second : HasNoParameters f → HasNoColumns f → (k j : ℕ) → table_times f g k j ≡ f 0 0 *ℚ g k j
  by_second np nc zero zero = refl
  by_second np nc (suc k) zero =
      rw (np k 0) (Q.ring (g 0 0 ∷ (f 0 0 *ℚ g (suc k) 0) ∷ []) (lit (pos 0) :* v0 :+ v1) v1 refl)
  by_second np nc zero (suc j) =
      rw (nc 0 j) (Q.ring (g 0 0 ∷ (f 0 0 *ℚ g 0 (suc j)) ∷ []) (lit (pos 0) :* v0 :+ v1) v1 refl)
  by_second np nc (suc k) (suc j) =
      rw (np k (suc j), np k 0, nc 0 j)
      (Q.ring (g 0 0 ∷ g 0 (suc j) ∷ g (suc k) 0 ∷ (f 0 0 *ℚ g (suc k) (suc j)) ∷ [])
      ((lit (pos 0) :* v0 :+ lit (pos 0) :* v1) :+ (lit (pos 0) :* v2 :+ v3)) v3 refl)

  -- to the first
  by_first : HasNoParameters g → HasNoColumns g → (k j : ℕ) → table_times f g k j ≡ f k j *ℚ g 0 0
  by_first np nc zero zero = refl
  by_first np nc (suc k) zero =
      rw (np k 0) (Q.ring (f 0 0 ∷ (f (suc k) 0 *ℚ g 0 0) ∷ []) (v1 :+ v0 :* lit (pos 0)) v1 refl)
  by_first np nc zero (suc j) =
      rw (nc 0 j) (Q.ring (f 0 0 ∷ (f 0 (suc j) *ℚ g 0 0) ∷ []) (v1 :+ v0 :* lit (pos 0)) v1 refl)
  by_first np nc (suc k) (suc j) =
      rw (np k (suc j), np k 0, nc 0 j)
      (Q.ring (f 0 0 ∷ f 0 (suc j) ∷ f (suc k) 0 ∷ (f (suc k) (suc j) *ℚ g 0 0) ∷ [])
      ((v3 :+ v2 :* lit (pos 0)) :+ (v1 :* lit (pos 0) :+ v0 :* lit (pos 0))) v3 refl)

  -- the columns to the first, the parameters to the second
  by_both : HasNoParameters f → HasNoColumns g → (k j : ℕ) → table_times f g k j ≡ f 0 j *ℚ g k 0
  by_both np nc zero zero = refl
  by_both np nc (suc k) zero =
      rw (np k 0) (Q.ring (g 0 0 ∷ (f 0 0 *ℚ g (suc k) 0) ∷ []) (lit (pos 0) :* v0 :+ v1) v1 refl)
  by_both np nc zero (suc j) =
      rw (nc 0 j) (Q.ring (f 0 0 ∷ (f 0 (suc j) *ℚ g 0 0) ∷ []) (v1 :+ v0 :* lit (pos 0)) v1 refl)
  by_both np nc (suc k) (suc j) =
      rw (np k (suc j), np k 0, nc (suc k) j)
      (Q.ring (g 0 0 ∷ g 0 (suc j) ∷ (f 0 (suc j) *ℚ g (suc k) 0) ∷ f 0 0 ∷ [])
      ((lit (pos 0) :* v0 :+ lit (pos 0) :* v1) :+ (v2 :+ v3 :* lit (pos 0))) v2 refl)

  -- the parameters to the first, the columns to the second
  by_order : HasNoParameters g → HasNoColumns f → (k j : ℕ) → table_times f g k j ≡ f k 0 *ℚ g 0 j
  by_order np nc zero zero = refl
  by_order np nc (suc k) zero =
      rw (np k 0) (Q.ring (f 0 0 ∷ (f (suc k) 0 *ℚ g 0 0) ∷ []) (v1 :+ v0 :* lit (pos 0)) v1 refl)
  by_order np nc zero (suc j) =
      rw (nc 0 j) (Q.ring (g 0 0 ∷ (f 0 0 *ℚ g 0 (suc j)) ∷ []) (lit (pos 0) :* v0 :+ v1) v1 refl)
  by_order np nc (suc k) (suc j) =
      rw (nc (suc k) j, nc 0 j, np k (suc j))
      (Q.ring (g 0 0 ∷ (f (suc k) 0 *ℚ g 0 (suc j)) ∷ g (suc k) 0 ∷ f 0 0 ∷ [])
      ((lit (pos 0) :* v0 :+ v1) :+ (lit (pos 0) :* v2 :+ v3 :* lit (pos 0))) v1 refl)

  pub split : (o : Owners f g) (k j : ℕ)
      → table_times f g k j ≡ f (sel o.p k) (sel o.c j) *ℚ g (sel (not o.p) k) (sel (not o.c) j)
  split o k j = by o.p o.c o.parameters o.columns
    where
      by : (p c : Bool) → Lacks p (HasNoParameters f) (HasNoParameters g) → Lacks c (HasNoColumns f) (HasNoColumns g)
          → table_times f g k j ≡ f (sel p k) (sel c j) *ℚ g (sel (not p) k) (sel (not c) j)
      by true true np nc = by_first np nc k j
      by true false np nc = by_order np nc k j
      by false true np nc = by_both np nc k j
      by false false np nc = by_second np nc k j

-- ---- the cell of a product of two numbers
module _ (f g : Table) where
  -- of the two rows, or columns, the one of the table that has none is 0
  abbrev pub Shaped : Bool → ℕ → ℕ → Type 0
  Shaped true a b = b ≡ 0
  Shaped false a b = a ≡ 0

  pub sel-first : (p : Bool) (a b : ℕ) → Shaped p a b → sel p (max a b) ≡ a
  sel-first true a b h = omega arith
  sel-first false a b h = omega arith

  pub sel-second : (p : Bool) (a b : ℕ) → Shaped p a b → sel (not p) (max a b) ≡ b
  sel-second true a b h = omega arith
  sel-second false a b h = omega arith

  pub unit-split : (p : Bool) (a b k : ℕ) → Shaped p a b → unit (max a b) k ≡ unit a (sel p k) *ℚ unit b (sel (not p) k)
  unit-split true a b k h =
      let e : max a b ≡ a = omega arith in
      ap (λ n. unit n k) e ∙ sym (ap (λ n. unit a k *ℚ unit n 0) h ∙ mul-one_ℚ (unit a k))
  unit-split false a b k h =
      let e : max a b ≡ b = omega arith in
      ap (λ n. unit n k) e ∙ sym (ap (λ n. unit n 0 *ℚ unit b k) h ∙ Q.ℚ-one-mul (unit b k))

  pub zero_row : (p : Bool) → Lacks p (HasNoParameters f) (HasNoParameters g) → (a i b j : ℕ) (x y : Fraction)
      → (x ≡ 0ℚ) ⊎ (x ≡ f a i) → (y ≡ 0ℚ) ⊎ (y ≡ g b j) → (x *ℚ y ≡ 0ℚ) ⊎ Shaped p a b
  zero_row true h a i zero j x y xf yg = inr refl
  zero_row true h a i (suc b) j x y xf (inl e) = inl (ap (λ u. x *ℚ u) e ∙ times_zero x)
  zero_row true h a i (suc b) j x y xf (inr e) = inl (ap (λ u. x *ℚ u) (e ∙ h b j) ∙ times_zero x)
  zero_row false h zero i b j x y xf yg = inr refl
  zero_row false h (suc a) i b j x y (inl e) yg = inl (ap (λ u. u *ℚ y) e ∙ zero_times y)
  zero_row false h (suc a) i b j x y (inr e) yg = inl (ap (λ u. u *ℚ y) (e ∙ h a i) ∙ zero_times y)

  pub zero_column : (c : Bool) → Lacks c (HasNoColumns f) (HasNoColumns g) → (a i b j : ℕ) (x y : Fraction)
      → (x ≡ 0ℚ) ⊎ (x ≡ f a i) → (y ≡ 0ℚ) ⊎ (y ≡ g b j) → (x *ℚ y ≡ 0ℚ) ⊎ Shaped c i j
  zero_column true h a i b zero x y xf yg = inr refl
  zero_column true h a i b (suc j) x y xf (inl e) = inl (ap (λ u. x *ℚ u) e ∙ times_zero x)
  zero_column true h a i b (suc j) x y xf (inr e) = inl (ap (λ u. x *ℚ u) (e ∙ h b j) ∙ times_zero x)
  zero_column false h a zero b j x y xf yg = inr refl
  zero_column false h a (suc i) b j x y (inl e) yg = inl (ap (λ u. u *ℚ y) e ∙ zero_times y)
  zero_column false h a (suc i) b j x y (inr e) yg = inl (ap (λ u. u *ℚ y) (e ∙ h a i) ∙ zero_times y)
