-- The fractions are an ordered field. (Birkhoff, Mac Lane, A Survey of Modern Algebra, chapter 2.)
use Rattle.std.specs.Prelude.{◌≡◌, ◌*◌, ℤ, pos, ◌+ℤ◌, ◌*ℤ◌, neg_ℤ, ◌≤ℤ◌, ◌<ℤ◌, ◌⊎◌, refl}
use Rattle.std.proofs.Common.{List, [], ◌∷◌, arith, subst, inl, inr}
use Rattle.std.proofs.lemmas.Int.{ints}
use mathlib.Core.HLevel.{Discrete}
use Rattle.rob_algebra.specs.IntegerOrder.{mul_nonneg, mul-pos_z, le_total, le_antisym, le_of_lt_z, nonneg_sub, pos_sub}
use Rattle.rob_algebra.specs.Polynomials.{Expr, lit, minus, norm, ◌:+◌, ◌:-◌, ◌:*◌, v0, v1, v2, v3}
use Rattle.rob_algebra.specs.RingSolver.{eval}
use Rattle.rob_algebra.specs.IntRing as Z
use Rattle.rob_algebra.specs.Fraction.{Fraction, of_int, ◌+ℚ◌, ◌-ℚ◌, ◌*ℚ◌, ◌≤ℚ◌, ◌<ℚ◌, den_pos}
use Rattle.rob_algebra.specs.FractionPairs.{Is, is_self, is_int, is_add, is_mul, is_neg, eq_from_cross, pos_lt}
use Rattle.rob_algebra.specs.PairOrder.{is_nonneg_in, is_nonneg_out, is_pos_in, is_pos_out}
use Rattle.rob_algebra.specs.FractionLaws.{ℚ_ring, ring}

pub le_refl_ℚ : (x : Fraction) → x ≤ℚ x
le_refl_ℚ x = record { le = omega (arith, ints) }

pub le_total_ℚ : (x y : Fraction) → (x ≤ℚ y) ⊎ (y <ℚ x)
le_total_ℚ x y = by (le_total (x.num *ℤ pos y.den) (y.num *ℤ pos x.den))
  where
    by : ((x.num *ℤ pos y.den) ≤ℤ (y.num *ℤ pos x.den))
        ⊎ ((y.num *ℤ pos x.den) <ℤ (x.num *ℤ pos y.den)) → (x ≤ℚ y) ⊎ (y <ℚ x)
    by (inl h) = inl record { le = h }
    by (inr h) = inr record { lt = h }

pub le_antisym_ℚ : (x y : Fraction) → x ≤ℚ y → y ≤ℚ x → x ≡ y
le_antisym_ℚ x y h k = eq_from_cross x y (le_antisym (x.num *ℤ pos y.den) (y.num *ℤ pos x.den) h.le k.le)

pub not_lt_ℚ : (x y : Fraction) → x ≤ℚ y → y <ℚ x → ⊥
not_lt_ℚ x y h k = let p : (x.num *ℤ pos y.den) ≤ℤ (y.num *ℤ pos x.den) = h.le in
    let q : (y.num *ℤ pos x.den) <ℤ (x.num *ℤ pos y.den) = k.lt in omega (arith, ints)

pub le_of_lt_ℚ : (x y : Fraction) → x <ℚ y → x ≤ℚ y
le_of_lt_ℚ x y h = record { le = le_of_lt_z (x.num *ℤ pos y.den) (y.num *ℤ pos x.den) h.lt }

is_sub : (x y : Fraction) → Is (y -ℚ x) (y.num *ℤ pos x.den +ℤ neg_ℤ x.num *ℤ pos y.den) (y.den * x.den)
is_sub x y = is_add (is_self y) (is_neg (is_self x))

pub sub_nonneg_ℚ : (x y : Fraction) → of_int (pos 0) ≤ℚ y -ℚ x → x ≤ℚ y
sub_nonneg_ℚ x y h =
    record {
      le = Z.le_from (x.num ∷ pos x.den ∷ y.num ∷ pos y.den ∷ []) (v0 :* v3) (v2 :* v1)
          (v2 :* v1 :+ minus v0 :* v3) refl (is_nonneg_out (is_sub x y) h);
    }

pub nonneg_sub_ℚ : (x y : Fraction) → x ≤ℚ y → of_int (pos 0) ≤ℚ y -ℚ x
nonneg_sub_ℚ x y h =
    is_nonneg_in (is_sub x y)
    (Z.le_from (x.num ∷ pos x.den ∷ y.num ∷ pos y.den ∷ []) (lit (pos 0)) (v2 :* v1 :+ minus v0 :* v3)
    (v2 :* v1 :- v0 :* v3) refl (nonneg_sub (x.num *ℤ pos y.den) (y.num *ℤ pos x.den) h.le))

pub sub_pos_ℚ : (x y : Fraction) → of_int (pos 0) <ℚ y -ℚ x → x <ℚ y
sub_pos_ℚ x y h =
    record {
      lt = Z.lt_from (x.num ∷ pos x.den ∷ y.num ∷ pos y.den ∷ []) (v0 :* v3) (v2 :* v1)
          (v2 :* v1 :+ minus v0 :* v3) refl (is_pos_out (is_sub x y) h);
    }

pub pos_sub_ℚ : (x y : Fraction) → x <ℚ y → of_int (pos 0) <ℚ y -ℚ x
pos_sub_ℚ x y h =
    is_pos_in (is_sub x y)
    (Z.lt_from (x.num ∷ pos x.den ∷ y.num ∷ pos y.den ∷ []) (lit (pos 0)) (v2 :* v1 :+ minus v0 :* v3)
    (v2 :* v1 :- v0 :* v3) refl (pos_sub (x.num *ℤ pos y.den) (y.num *ℤ pos x.den) h.lt))

pub mul_nonneg_ℚ : (x y : Fraction) → of_int (pos 0) ≤ℚ x → of_int (pos 0) ≤ℚ y → of_int (pos 0) ≤ℚ x *ℚ y
mul_nonneg_ℚ x y h k =
    is_nonneg_in (is_mul (is_self x) (is_self y))
    (mul_nonneg x.num y.num (is_nonneg_out (is_self x) h) (is_nonneg_out (is_self y) k))

pub mul_pos_ℚ : (x y : Fraction) → of_int (pos 0) <ℚ x → of_int (pos 0) <ℚ y → of_int (pos 0) <ℚ x *ℚ y
mul_pos_ℚ x y h k =
    is_pos_in (is_mul (is_self x) (is_self y))
    (mul-pos_z x.num y.num (is_pos_out (is_self x) h) (is_pos_out (is_self y) k))

pub add_nonneg_ℚ : (x y : Fraction) → of_int (pos 0) ≤ℚ x → of_int (pos 0) ≤ℚ y → of_int (pos 0) ≤ℚ x +ℚ y
add_nonneg_ℚ x y h k =
    let p : pos 0 ≤ℤ (x.num *ℤ pos y.den) =
    mul_nonneg x.num (pos y.den) (is_nonneg_out (is_self x) h) (omega (arith, ints)) in
    let q : pos 0 ≤ℤ (y.num *ℤ pos x.den) =
    mul_nonneg y.num (pos x.den) (is_nonneg_out (is_self y) k) (omega (arith, ints)) in
    is_nonneg_in (is_add (is_self x) (is_self y)) (omega (arith, ints))

pub add_pos_ℚ : (x y : Fraction) → of_int (pos 0) <ℚ x → of_int (pos 0) ≤ℚ y → of_int (pos 0) <ℚ x +ℚ y
add_pos_ℚ x y h k =
    let p : pos 0 <ℤ (x.num *ℤ pos y.den) =
    mul-pos_z x.num (pos y.den) (is_pos_out (is_self x) h) (pos_lt y.den (den_pos y)) in
    let q : pos 0 ≤ℤ (y.num *ℤ pos x.den) =
    mul_nonneg y.num (pos x.den) (is_nonneg_out (is_self y) k) (omega (arith, ints)) in
    is_pos_in (is_add (is_self x) (is_self y)) (omega (arith, ints))

-- r - l is d, and d is not negative, or positive
pub le_from : (ρ : List Fraction) (l r d : Expr) → norm (r :- l :- d) ≡ [] → of_int (pos 0) ≤ℚ eval ℚ_ring ρ d
    → eval ℚ_ring ρ l ≤ℚ eval ℚ_ring ρ r
le_from ρ l r d e h = sub_nonneg_ℚ (eval ℚ_ring ρ l) (eval ℚ_ring ρ r) (rw (ring ρ (r :- l) d e) h)

pub lt_from : (ρ : List Fraction) (l r d : Expr) → norm (r :- l :- d) ≡ [] → of_int (pos 0) <ℚ eval ℚ_ring ρ d
    → eval ℚ_ring ρ l <ℚ eval ℚ_ring ρ r
lt_from ρ l r d e h = sub_pos_ℚ (eval ℚ_ring ρ l) (eval ℚ_ring ρ r) (rw (ring ρ (r :- l) d e) h)

-- r - l is i * (q - p), and i is not negative
pub le_one : (ρ : List Fraction) (l r i p q : Expr) → norm (r :- l :- i :* (q :- p)) ≡ []
    → of_int (pos 0) ≤ℚ eval ℚ_ring ρ i → eval ℚ_ring ρ p ≤ℚ eval ℚ_ring ρ q → eval ℚ_ring ρ l ≤ℚ eval ℚ_ring ρ r
le_one ρ l r i p q e n h =
    le_from ρ l r (i :* (q :- p)) e
    (mul_nonneg_ℚ (eval ℚ_ring ρ i) (eval ℚ_ring ρ (q :- p)) n (nonneg_sub_ℚ (eval ℚ_ring ρ p) (eval ℚ_ring ρ q) h))

-- r - l is i * (q - p) + j * (t - s), and i and j are not negative
pub le_two : (ρ : List Fraction) (l r i p q j s t : Expr) → norm (r :- l :- (i :* (q :- p) :+ j :* (t :- s))) ≡ [] →
    of_int (pos 0) ≤ℚ eval ℚ_ring ρ i → eval ℚ_ring ρ p ≤ℚ eval ℚ_ring ρ q → of_int (pos 0) ≤ℚ eval ℚ_ring ρ j
    → eval ℚ_ring ρ s ≤ℚ eval ℚ_ring ρ t → eval ℚ_ring ρ l ≤ℚ eval ℚ_ring ρ r
le_two ρ l r i p q j s t e n h m k =
    le_from ρ l r (i :* (q :- p) :+ j :* (t :- s)) e
    (add_nonneg_ℚ (eval ℚ_ring ρ (i :* (q :- p))) (eval ℚ_ring ρ (j :* (t :- s)))
    (mul_nonneg_ℚ (eval ℚ_ring ρ i) (eval ℚ_ring ρ (q :- p)) n (nonneg_sub_ℚ (eval ℚ_ring ρ p) (eval ℚ_ring ρ q) h))
    (mul_nonneg_ℚ (eval ℚ_ring ρ j) (eval ℚ_ring ρ (t :- s)) m (nonneg_sub_ℚ (eval ℚ_ring ρ s) (eval ℚ_ring ρ t) k)))

-- a numeral's sign
pub int_nonneg : (z : ℤ) → pos 0 ≤ℤ z → of_int (pos 0) ≤ℚ of_int z
int_nonneg z h = is_nonneg_in (is_int z) h

pub add_mono_ℚ : (x y z w : Fraction) → x ≤ℚ y → z ≤ℚ w → x +ℚ z ≤ℚ y +ℚ w
add_mono_ℚ x y z w h k =
    le_from (x ∷ y ∷ z ∷ w ∷ []) (v0 :+ v2) (v1 :+ v3) ((v1 :- v0) :+ (v3 :- v2)) refl
    (add_nonneg_ℚ (y -ℚ x) (w -ℚ z) (nonneg_sub_ℚ x y h) (nonneg_sub_ℚ z w k))

pub add_mono_lt_ℚ : (x y z w : Fraction) → x <ℚ y → z ≤ℚ w → x +ℚ z <ℚ y +ℚ w
add_mono_lt_ℚ x y z w h k =
    lt_from (x ∷ y ∷ z ∷ w ∷ []) (v0 :+ v2) (v1 :+ v3) ((v1 :- v0) :+ (v3 :- v2)) refl
    (add_pos_ℚ (y -ℚ x) (w -ℚ z) (pos_sub_ℚ x y h) (nonneg_sub_ℚ z w k))

pub le_trans_ℚ : (x y z : Fraction) → x ≤ℚ y → y ≤ℚ z → x ≤ℚ z
le_trans_ℚ x y z h k =
    le_from (x ∷ y ∷ z ∷ []) v0 v2 ((v1 :- v0) :+ (v2 :- v1)) refl
    (add_nonneg_ℚ (y -ℚ x) (z -ℚ y) (nonneg_sub_ℚ x y h) (nonneg_sub_ℚ y z k))

pub lt_le_trans_ℚ : (x y z : Fraction) → x <ℚ y → y ≤ℚ z → x <ℚ z
lt_le_trans_ℚ x y z h k =
    lt_from (x ∷ y ∷ z ∷ []) v0 v2 ((v1 :- v0) :+ (v2 :- v1)) refl
    (add_pos_ℚ (y -ℚ x) (z -ℚ y) (pos_sub_ℚ x y h) (nonneg_sub_ℚ y z k))

pub le_lt_trans_ℚ : (x y z : Fraction) → x ≤ℚ y → y <ℚ z → x <ℚ z
le_lt_trans_ℚ x y z h k =
    lt_from (x ∷ y ∷ z ∷ []) v0 v2 ((v2 :- v1) :+ (v1 :- v0)) refl
    (add_pos_ℚ (z -ℚ y) (y -ℚ x) (pos_sub_ℚ y z k) (nonneg_sub_ℚ x y h))

pub mul_mono_ℚ : (x y c : Fraction) → x ≤ℚ y → of_int (pos 0) ≤ℚ c → c *ℚ x ≤ℚ c *ℚ y
mul_mono_ℚ x y c h k =
    le_from (x ∷ y ∷ c ∷ []) (v2 :* v0) (v2 :* v1) (v2 :* (v1 :- v0)) refl
    (mul_nonneg_ℚ c (y -ℚ x) k (nonneg_sub_ℚ x y h))

pub mul_mono_lt_ℚ : (x y c : Fraction) → x <ℚ y → of_int (pos 0) <ℚ c → c *ℚ x <ℚ c *ℚ y
mul_mono_lt_ℚ x y c h k =
    lt_from (x ∷ y ∷ c ∷ []) (v2 :* v0) (v2 :* v1) (v2 :* (v1 :- v0)) refl (mul_pos_ℚ c (y -ℚ x) k (pos_sub_ℚ x y h))

pub cancel_le_ℚ : (x y c : Fraction) → of_int (pos 0) <ℚ c → c *ℚ x ≤ℚ c *ℚ y → x ≤ℚ y
cancel_le_ℚ x y c h k = by (le_total_ℚ x y)
  where
    by : (x ≤ℚ y) ⊎ (y <ℚ x) → x ≤ℚ y
    by (inl l) = l
    by (inr l) = absurd (not_lt_ℚ (c *ℚ x) (c *ℚ y) k (mul_mono_lt_ℚ y x c l h))

-- x is below y, equal to it, or above it
pub Trichotomy : Fraction → Fraction → Type 0
Trichotomy x y = (x <ℚ y) ⊎ ((x ≡ y) ⊎ (y <ℚ x))

pub trichotomy : (x y : Fraction) → Trichotomy x y
unfolding Trichotomy
trichotomy x y = by (le_total_ℚ x y) (le_total_ℚ y x)
  where
    by : (x ≤ℚ y) ⊎ (y <ℚ x) → (y ≤ℚ x) ⊎ (x <ℚ y) → (x <ℚ y) ⊎ ((x ≡ y) ⊎ (y <ℚ x))
    by (inr h) k = inr (inr h)
    by (inl h) (inl k) = inr (inl (le_antisym_ℚ x y h k))
    by (inl h) (inr k) = inl k

pub lt_irrefl_ℚ : (x : Fraction) → x <ℚ x → ⊥
lt_irrefl_ℚ x h = not_lt_ℚ x x (le_refl_ℚ x) h

pub ℚ_discrete : Discrete Fraction
unfolding Trichotomy
ℚ_discrete x y = by (trichotomy x y)
  where
    by : Trichotomy x y → Dec (x ≡ y)
    by (inl h) = no (λ e. lt_irrefl_ℚ y (subst (λ z. z <ℚ y) e h))
    by (inr (inl h)) = yes h
    by (inr (inr h)) = no (λ e. lt_irrefl_ℚ y (subst (λ z. y <ℚ z) e h))
