-- The product of two numbers of two tables: its cell, the coefficient there, and whether that is wide.
use Rattle.std.specs.Prelude.{◌≡◌, ℕ, ◌≤◌, max, not, pos, [], ◌∷◌, ◌⊎◌, refl}
use Rattle.std.proofs.Common.{sym, ◌∙◌, ap, ap₂, arith, subst, inl, inr}
use Rattle.rob_algebra.specs.Fraction.{Fraction, ◌+ℚ◌, ◌*ℚ◌}
use Rattle.rob_algebra.specs.FractionLaws as Q
use Rattle.rob_algebra.specs.Polynomials.{lit, ◌:+◌, ◌:*◌, v0, v1, v2, v3, v4, v5}
use Rattle.rob_algebra.specs.Width.{Fits, IsWide}
use Rattle.rob_algebra.proofs.WidthLaws.{Fits-of_int, fits_not_wide}
use Rattle.rob_meaning.specs.Coefficients.{Table, unit, single, table_times}
use Rattle.rob_meaning.specs.Places.{0ℚ}
use Rattle.rob_meaning.proofs.Tables.TableLemmas.{zero_times, times_zero}
use Rattle.rob_model.proofs.ValueLemmas.{add-zero_ℚ}
use Rattle.rob_sets.proofs.Cells.CellLemmas.{single-same}
use Rattle.rob_sets.proofs.Products.OwnerLemmas.{Owners, Shaped, sel, sel-first, sel-second, split, unit-split, zero_column, zero_row}

-- two numbers, each the table's at its cell, or 0
module _ (f g : Table) (o : Owners f g) (a i b j : ℕ) (x y : Fraction) (xf : (x ≡ 0ℚ) ⊎ (x ≡ f a i))
    (yg : (y ≡ 0ℚ) ⊎ (y ≡ g b j)) where
  -- their product is 0, or their cells are shaped as the tables are
  shaped : (x *ℚ y ≡ 0ℚ) ⊎ (Shaped f g o.p a b × Shaped f g o.c i j)
  shaped = by (zero_row f g o.p o.parameters a i b j x y xf yg) (zero_column f g o.c o.columns a i b j x y xf yg)
    where
      by : (x *ℚ y ≡ 0ℚ) ⊎ Shaped f g o.p a b → (x *ℚ y ≡ 0ℚ) ⊎ Shaped f g o.c i j → (x *ℚ y ≡ 0ℚ)
          ⊎ (Shaped f g o.p a b × Shaped f g o.c i j)
      by (inl e) h = inl e
      by (inr r) (inl e) = inl e
      by (inr r) (inr s) = inr (r, s)

  -- their product, in the cell of both, is the product of what each is in its own cell
  pub product_cell : (k l : ℕ) → x *ℚ y *ℚ single (max a b) (max i j) k l
      ≡ x *ℚ single a i (sel o.p k) (sel o.c l) *ℚ (y *ℚ single b j (sel (not o.p) k) (sel (not o.c) l))
  product_cell k l = by shaped
    where
      s : Fraction
      s = single a i (sel o.p k) (sel o.c l)

      t : Fraction
      t = single b j (sel (not o.p) k) (sel (not o.c) l)

      by : (x *ℚ y ≡ 0ℚ) ⊎ (Shaped f g o.p a b × Shaped f g o.c i j) → x *ℚ y *ℚ single (max a b) (max i j) k l
          ≡ x *ℚ single a i (sel o.p k) (sel o.c l) *ℚ (y *ℚ single b j (sel (not o.p) k) (sel (not o.c) l))
      by (inl e) =
          ap (λ u. u *ℚ single (max a b) (max i j) k l) e ∙ zero_times (single (max a b) (max i j) k l)
          ∙ sym (Q.ring
          (x ∷ y ∷ single a i (sel o.p k) (sel o.c l) ∷ single b j (sel (not o.p) k) (sel (not o.c) l) ∷ [])
          (v0 :* v2 :* (v1 :* v3)) (v0 :* v1 :* (v2 :* v3)) refl
          ∙ ap (λ u. u *ℚ (single a i (sel o.p k) (sel o.c l) *ℚ single b j (sel (not o.p) k) (sel (not o.c) l))) e
          ∙ zero_times (single a i (sel o.p k) (sel o.c l) *ℚ single b j (sel (not o.p) k) (sel (not o.c) l)))
      by (inr h) =
          ap₂ (λ u v. x *ℚ y *ℚ (u *ℚ v)) (unit-split f g o.p a b k h.0) (unit-split f g o.c i j l h.1)
          ∙ Q.ring (x ∷ y ∷ unit a (sel o.p k) ∷ unit b (sel (not o.p) k) ∷ unit i (sel o.c l)
          ∷ unit j (sel (not o.c) l) ∷ [])
          (v0 :* v1 :* ((v2 :* v3) :* (v4 :* v5))) (v0 :* (v2 :* v4) :* (v1 :* (v3 :* v5))) refl

  -- their product is 0, or the coefficient in the cell of both
  pub product_is : (x *ℚ y ≡ 0ℚ) ⊎ (table_times f g (max a b) (max i j) ≡ x *ℚ y)
  product_is = by shaped xf yg
    where
      by : (x *ℚ y ≡ 0ℚ) ⊎ (Shaped f g o.p a b × Shaped f g o.c i j) → (x ≡ 0ℚ) ⊎ (x ≡ f a i) → (y ≡ 0ℚ) ⊎ (y ≡ g b j)
          → (x *ℚ y ≡ 0ℚ) ⊎ (table_times f g (max a b) (max i j) ≡ x *ℚ y)
      by (inl e) p q = inl e
      by (inr h) (inl e) q = inl (ap (λ u. u *ℚ y) e ∙ zero_times y)
      by (inr h) (inr d) (inl e) = inl (ap (λ u. x *ℚ u) e ∙ times_zero x)
      by (inr h) (inr d) (inr e) =
          inr (split f g o (max a b) (max i j)
          ∙ ap₂ ◌*ℚ◌
          (ap₂ f (sel-first f g o.p a b h.0) (sel-first f g o.c i j h.1) ∙ sym d)
          (ap₂ g (sel-second f g o.p a b h.0) (sel-second f g o.c i j h.1) ∙ sym e))

  -- the numbers so far, with that product, are the coefficient in the cell of both; or the product is 0
  pub sum_is : (left_first left_second : Table) (so_far total : Fraction) → left_second b j ≡ y → left_first a i ≡ 0ℚ
      → so_far +ℚ x *ℚ single a i (sel o.p (max a b)) (sel o.c (max i j))
      *ℚ left_second (sel (not o.p) (max a b)) (sel (not o.c) (max i j))
      +ℚ left_first (sel o.p (max a b)) (sel o.c (max i j))
      *ℚ g (sel (not o.p) (max a b)) (sel (not o.c) (max i j)) ≡ total
      → (x *ℚ y ≡ 0ℚ) ⊎ (so_far +ℚ x *ℚ y ≡ total)
  sum_is left_first left_second so_far total head behind h = by shaped
    where
      by : (x *ℚ y ≡ 0ℚ) ⊎ (Shaped f g o.p a b × Shaped f g o.c i j) → (x *ℚ y ≡ 0ℚ) ⊎ (so_far +ℚ x *ℚ y ≡ total)
      by (inl e) = inl e
      by (inr s) =
          inr (Q.ring (so_far ∷ x ∷ y ∷ g (sel (not o.p) (max a b)) (sel (not o.c) (max i j)) ∷ []) (v0 :+ v1 :* v2)
          (v0 :+ v1 :* lit (pos 1) :* v2 :+ lit (pos 0) :* v3) refl
          ∙ ap₂ (λ u v. so_far +ℚ x *ℚ u *ℚ v +ℚ 0ℚ *ℚ g (sel (not o.p) (max a b)) (sel (not o.c) (max i j)))
          (sym (ap₂ (single a i) (sel-first f g o.p a b s.0) (sel-first f g o.c i j s.1) ∙ single-same a i))
          (sym (ap₂ left_second (sel-second f g o.p a b s.0) (sel-second f g o.c i j s.1) ∙ head))
          ∙ ap (λ w. so_far +ℚ x *ℚ single a i (sel o.p (max a b)) (sel o.c (max i j))
          *ℚ left_second (sel (not o.p) (max a b)) (sel (not o.c) (max i j))
          +ℚ w *ℚ g (sel (not o.p) (max a b)) (sel (not o.c) (max i j)))
          (sym (ap₂ left_first (sel-first f g o.p a b s.0) (sel-first f g o.c i j s.1) ∙ behind))
          ∙ h)

-- ---- 0 is not wide
pub zero_not_wide : (limit : ℕ) (x : Fraction) → 1 ≤ limit → x ≡ 0ℚ → IsWide limit x → ⊥
zero_not_wide limit x one e w =
    fits_not_wide limit 0ℚ (Fits-of_int limit (pos 0) one (omega arith)) (subst (IsWide limit) e w)

-- ---- what is wide
module _ (f g : Table) (o : Owners f g) (a i b j : ℕ) (x y : Fraction) (xf : (x ≡ 0ℚ) ⊎ (x ≡ f a i))
    (yg : (y ≡ 0ℚ) ⊎ (y ≡ g b j))
    (limit : ℕ) (one : 1 ≤ limit) where
  -- a product that is wide is a coefficient
  pub wide_product : IsWide limit (x *ℚ y) → IsWide limit (table_times f g (max a b) (max i j))
  wide_product w = by (product_is f g o a i b j x y xf yg)
    where
      by : (x *ℚ y ≡ 0ℚ) ⊎ (table_times f g (max a b) (max i j) ≡ x *ℚ y)
          → IsWide limit (table_times f g (max a b) (max i j))
      by (inl e) = absurd (zero_not_wide limit (x *ℚ y) one e w)
      by (inr e) = subst (IsWide limit) (sym e) w

  -- a sum that is wide, of a number that fits and a product, is a coefficient
  pub wide_sum : (left_first left_second : Table) (so_far : Fraction) → left_second b j ≡ y → left_first a i ≡ 0ℚ
      → so_far +ℚ x *ℚ single a i (sel o.p (max a b)) (sel o.c (max i j))
      *ℚ left_second (sel (not o.p) (max a b)) (sel (not o.c) (max i j))
      +ℚ left_first (sel o.p (max a b)) (sel o.c (max i j)) *ℚ g (sel (not o.p) (max a b)) (sel (not o.c) (max i j))
      ≡ table_times f g (max a b) (max i j)
      → Fits limit so_far → IsWide limit (so_far +ℚ x *ℚ y) → IsWide limit (table_times f g (max a b) (max i j))
  wide_sum left_first left_second so_far head behind h fits w =
      by (sum_is f g o a i b j x y xf yg left_first left_second so_far
      (table_times f g (max a b) (max i j)) head behind h)
    where
      by : (x *ℚ y ≡ 0ℚ) ⊎ (so_far +ℚ x *ℚ y ≡ table_times f g (max a b) (max i j))
          → IsWide limit (table_times f g (max a b) (max i j))
      by (inl e) =
          absurd (fits_not_wide limit so_far fits
          (subst (IsWide limit) (ap (λ u. so_far +ℚ u) e ∙ add-zero_ℚ so_far) w))
      by (inr e) = subst (IsWide limit) e w
