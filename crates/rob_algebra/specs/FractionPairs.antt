-- Any pair of a fraction, in lowest terms or not: which fractions are equal, and what the operations are, at any pairs.
use Rattle.std.specs.Prelude.{◌≡◌, ℕ, zero, suc, ◌*◌, ◌/◌, ◌<◌, ℤ, pos, negsuc, ◌+ℤ◌, ◌*ℤ◌, neg_ℤ, nat_abs, ◌<ℤ◌, ◌↔◌, refl}
use Rattle.std.proofs.Common.{[], ◌∷◌, arith, sym, ◌∙◌, ap, subst, mul-pos}
use Rattle.std.proofs.lemmas.Int.{ints}
use Rattle.std.proofs.lemmas.Nat.Gcd.{dvd_antisymm}
use Rattle.std.proofs.Math.Nat.{dvd-mul_left}
use Prim.Native.Nat.{◌∣◌}
use Rattle.rob_algebra.specs.Gcd.{gcd, gauss, gcd-div_left, gcd-div_right}
use Rattle.rob_algebra.specs.IntegerOrder.{cancel_eq}
use Rattle.rob_algebra.specs.Polynomials.{lit, minus, ◌:+◌, ◌:*◌, v0, v1, v2, v3, v4, v5, v6, v7}
use Rattle.rob_algebra.specs.IntRing.{ring, from_one, from_two, from_three}
use Rattle.rob_algebra.specs.Fraction.{Fraction, ext, den_pos, coprime, int_over, nat_abs-neg, times-over, of_pair, of_int, ◌+ℚ◌, neg_ℚ, ◌*ℚ◌}

-- x is n / d, in lowest terms or not
pub record Is (x : Fraction) (n : ℤ) (d : ℕ) : Type 0 where
  pub some : 0 < d
  pub cross : x.num *ℤ pos d ≡ n *ℤ pos x.den

pub is_self : (x : Fraction) → Is x x.num x.den
is_self x = record { some = den_pos x; cross = refl }

pub pos_lt : (n : ℕ) → 0 < n → pos 0 <ℤ pos n
pos_lt n h = omega (arith, ints)

pub is_of_pair : (n : ℤ) (d : ℕ) → 0 < d → Is (of_pair n d) n d
unfolding of_pair
is_of_pair n zero h = absurd (omega arith)
is_of_pair n (suc k) h =
    record {
      some = h;
      cross = lowest n (suc k) (gcd (nat_abs n) (suc k)) (gcd-div_left (nat_abs n) (suc k))
          (gcd-div_right (nat_abs n) (suc k));
    }
  where
    lowest : (n : ℤ) (d g : ℕ) → (nat_abs n / g) * g ≡ nat_abs n → (d / g) * g ≡ d
        → int_over n g *ℤ pos d ≡ n *ℤ pos (d / g)
    lowest n d g e h =
        ap (λ m. int_over n g *ℤ pos m) (sym h)
        ∙ ring (int_over n g ∷ pos (d / g) ∷ pos g ∷ []) (v0 :* (v1 :* v2)) (v0 :* v2 :* v1) refl
        ∙ ap (λ z. z *ℤ pos (d / g)) (times-over n g e)

-- ---- equality
pub nat_abs-times : (a : ℤ) (d : ℕ) → nat_abs (a *ℤ pos d) ≡ nat_abs a * d
nat_abs-times (pos n) d = refl
nat_abs-times (negsuc n) d = nat_abs-neg (suc n * d)

-- two fractions are equal where their cross products are
pub eq_from_cross : (x y : Fraction) → x.num *ℤ pos y.den ≡ y.num *ℤ pos x.den → x ≡ y
eq_from_cross x y e =
    ext x y (cancel_eq x.num y.num (pos x.den) (pos_lt x.den (den_pos x)) (ap (λ m. x.num *ℤ pos m) dens ∙ e)) dens
  where
    sizes : nat_abs x.num * y.den ≡ nat_abs y.num * x.den
    sizes = sym (nat_abs-times x.num y.den) ∙ ap nat_abs e ∙ nat_abs-times y.num x.den

    dens : x.den ≡ y.den
    dens =
        dvd_antisymm
        (gauss (nat_abs x.num) x.den y.den (coprime x)
        (subst (λ m. x.den ∣ m) (sym sizes) (dvd-mul_left x.den (nat_abs y.num))))
        (gauss (nat_abs y.num) y.den x.den (coprime y)
        (subst (λ m. y.den ∣ m) sizes (dvd-mul_left y.den (nat_abs x.num))))

-- x is n / d and y is m / e: equal numbers are equal fractions
pub same_is : {x y : Fraction} {n m : ℤ} {d e : ℕ} → Is x n d → Is y m e → n *ℤ pos e ≡ m *ℤ pos d → x ≡ y
same_is {x} {y} {n} {m} {d} {e} p q h =
    eq_from_cross x y
    (cancel_eq (x.num *ℤ pos y.den) (y.num *ℤ pos x.den) (pos (d * e)) (pos_lt (d * e) (mul-pos p.some q.some))
    (from_three (x.num ∷ pos x.den ∷ y.num ∷ pos y.den ∷ n ∷ pos d ∷ m ∷ pos e ∷ [])
    (v0 :* v3 :* (v5 :* v7)) (v2 :* v1 :* (v5 :* v7))
    (v3 :* v7) (v0 :* v5) (v4 :* v1)
    (v1 :* v3) (v4 :* v7) (v6 :* v5)
    (lit (negsuc 0) :* v5 :* v1) (v2 :* v7) (v6 :* v3)
    refl p.cross h q.cross))

-- one fraction, as two pairs
pub is_same : {x : Fraction} {n m : ℤ} {d e : ℕ} → Is x n d → Is x m e → n *ℤ pos e ≡ m *ℤ pos d
is_same {x} {n} {m} {d} {e} p q =
    cancel_eq (n *ℤ pos e) (m *ℤ pos d) (pos x.den) (pos_lt x.den (den_pos x))
    (from_two (x.num ∷ pos x.den ∷ n ∷ pos d ∷ m ∷ pos e ∷ [])
    (v2 :* v5 :* v1) (v4 :* v3 :* v1)
    (lit (negsuc 0) :* v5) (v0 :* v3) (v2 :* v1)
    v3 (v0 :* v5) (v4 :* v1)
    refl p.cross q.cross)

-- the law of `of_pair`
pub of_pair_eq : (a c : ℤ) (b d : ℕ) → 0 < b → 0 < d → (of_pair a b ≡ of_pair c d) ↔ (a *ℤ pos d ≡ c *ℤ pos b)
of_pair_eq a c b d h k = (
  λ e. is_same (is_of_pair a b h) (subst (λ z. Is z c d) (sym e) (is_of_pair c d k)),
  λ e. same_is (is_of_pair a b h) (is_of_pair c d k) e,
)

pub of_pair_parts : (x : Fraction) → of_pair x.num x.den ≡ x
of_pair_parts x = same_is (is_of_pair x.num x.den (den_pos x)) (is_self x) refl

-- ---- what the operations are, at any pairs
pub is_int : (z : ℤ) → Is (of_int z) z 1
unfolding of_int
is_int z = is_of_pair z 1 (omega arith)

-- an operation is given at the lowest pairs, and any pairs of its arguments serve
is_along : {x : Fraction} {n m : ℤ} {d e : ℕ} → Is x n d → 0 < e → n *ℤ pos e ≡ m *ℤ pos d → Is x m e
is_along {x} {n} {m} {d} {e} p h q =
    record {
      some = h;
      cross =
          cancel_eq (x.num *ℤ pos e) (m *ℤ pos x.den) (pos d) (pos_lt d p.some)
          (from_two (x.num ∷ pos x.den ∷ n ∷ pos d ∷ m ∷ pos e ∷ [])
          (v0 :* v5 :* v3) (v4 :* v1 :* v3)
          v5 (v0 :* v3) (v2 :* v1)
          v1 (v2 :* v5) (v4 :* v3)
          refl p.cross q);
    }

pub is_add : {x y : Fraction} {n m : ℤ} {d e : ℕ} → Is x n d → Is y m e → Is (x +ℚ y) (n *ℤ pos e +ℤ m *ℤ pos d) (d * e)
unfolding ◌+ℚ◌
is_add {x} {y} {n} {m} {d} {e} p q =
    is_along (is_of_pair (x.num *ℤ pos y.den +ℤ y.num *ℤ pos x.den) (x.den * y.den) (mul-pos (den_pos x) (den_pos y)))
    (mul-pos p.some q.some)
    (from_two (x.num ∷ pos x.den ∷ y.num ∷ pos y.den ∷ n ∷ pos d ∷ m ∷ pos e ∷ [])
    ((v0 :* v3 :+ v2 :* v1) :* (v5 :* v7)) ((v4 :* v7 :+ v6 :* v5) :* (v1 :* v3))
    (v3 :* v7) (v0 :* v5) (v4 :* v1)
    (v1 :* v5) (v2 :* v7) (v6 :* v3)
    refl p.cross q.cross)

pub is_mul : {x y : Fraction} {n m : ℤ} {d e : ℕ} → Is x n d → Is y m e → Is (x *ℚ y) (n *ℤ m) (d * e)
unfolding ◌*ℚ◌
is_mul {x} {y} {n} {m} {d} {e} p q =
    is_along (is_of_pair (x.num *ℤ y.num) (x.den * y.den) (mul-pos (den_pos x) (den_pos y))) (mul-pos p.some q.some)
    (from_two (x.num ∷ pos x.den ∷ y.num ∷ pos y.den ∷ n ∷ pos d ∷ m ∷ pos e ∷ [])
    ((v0 :* v2) :* (v5 :* v7)) ((v4 :* v6) :* (v1 :* v3))
    (v2 :* v7) (v0 :* v5) (v4 :* v1)
    (v4 :* v1) (v2 :* v7) (v6 :* v3)
    refl p.cross q.cross)

pub is_neg : {x : Fraction} {n : ℤ} {d : ℕ} → Is x n d → Is (neg_ℚ x) (neg_ℤ n) d
unfolding neg_ℚ
is_neg {x} {n} {d} p =
    is_along (is_of_pair (neg_ℤ x.num) x.den (den_pos x)) p.some
    (from_one (x.num ∷ pos x.den ∷ n ∷ pos d ∷ [])
    (minus v0 :* v3) (minus v2 :* v1)
    (lit (negsuc 0)) (v0 :* v3) (v2 :* v1)
    refl p.cross)
