-- The order of fractions, at any pairs.
use Rattle.std.specs.Prelude.{◌≡◌, ℕ, ◌*◌, ◌<◌, ℤ, pos, ◌*ℤ◌, ◌≤ℤ◌, ◌<ℤ◌, refl}
use Rattle.std.proofs.Common.{[], ◌∷◌, sym, mul-pos}
use Rattle.rob_algebra.specs.IntegerOrder.{cancel_le, cancel_lt, mul_mono, mul_mono_lt, le_of_lt_z, nonneg_sub, pos_sub}
use Rattle.rob_algebra.specs.Polynomials.{◌:*◌, v0, v1, v2, v3, v4, v5, v6, v7, lit, ◌:-◌}
use Rattle.rob_algebra.specs.IntRing.{from_one}
use Rattle.rob_algebra.specs.Fraction.{Fraction, den_pos, ◌≤ℚ◌, ◌<ℚ◌, of_int}
use Rattle.rob_algebra.specs.FractionPairs.{Is, pos_lt, is_int}
use Rattle.rob_algebra.specs.IntRing as Z

along_le : {a b c d : ℤ} → a ≡ c → b ≡ d → a ≤ℤ b → c ≤ℤ d
along_le p q h = rw (← p, ← q) h

along_lt : {a b c d : ℤ} → a ≡ c → b ≡ d → a <ℤ b → c <ℤ d
along_lt p q h = rw (← p, ← q) h

-- the cross product of the lowest pairs, and that of any
crossed : {x y : Fraction} {n m : ℤ} {d e : ℕ} → Is x n d → Is y m e
    → x.num *ℤ pos y.den *ℤ (pos d *ℤ pos e) ≡ n *ℤ pos e *ℤ (pos x.den *ℤ pos y.den)
crossed {x} {y} {n} {m} {d} {e} p q =
    from_one (x.num ∷ pos x.den ∷ y.num ∷ pos y.den ∷ n ∷ pos d ∷ m ∷ pos e ∷ [])
    (v0 :* v3 :* (v5 :* v7)) (v4 :* v7 :* (v1 :* v3))
    (v3 :* v7) (v0 :* v5) (v4 :* v1)
    refl p.cross

crossed' : {x y : Fraction} {n m : ℤ} {d e : ℕ} → Is x n d → Is y m e
    → y.num *ℤ pos x.den *ℤ (pos d *ℤ pos e) ≡ m *ℤ pos d *ℤ (pos x.den *ℤ pos y.den)
crossed' {x} {y} {n} {m} {d} {e} p q =
    from_one (x.num ∷ pos x.den ∷ y.num ∷ pos y.den ∷ n ∷ pos d ∷ m ∷ pos e ∷ [])
    (v2 :* v1 :* (v5 :* v7)) (v6 :* v5 :* (v1 :* v3))
    (v1 :* v5) (v2 :* v7) (v6 :* v3)
    refl q.cross

both_pos : {d e : ℕ} → 0 < d → 0 < e → pos 0 <ℤ (pos d *ℤ pos e)
both_pos {d} {e} h k = pos_lt (d * e) (mul-pos h k)

pub is_le_out : {x y : Fraction} {n m : ℤ} {d e : ℕ} → Is x n d → Is y m e → x ≤ℚ y → (n *ℤ pos e) ≤ℤ (m *ℤ pos d)
is_le_out {x} {y} {n} {m} {d} {e} p q h =
    cancel_le (n *ℤ pos e) (m *ℤ pos d) (pos x.den *ℤ pos y.den) (both_pos (den_pos x) (den_pos y))
    (along_le (crossed p q) (crossed' p q)
    (mul_mono (x.num *ℤ pos y.den) (y.num *ℤ pos x.den) (pos d *ℤ pos e) h.le
    (le_of_lt_z (pos 0) (pos d *ℤ pos e) (both_pos p.some q.some))))

pub is_le_in : {x y : Fraction} {n m : ℤ} {d e : ℕ} → Is x n d → Is y m e → (n *ℤ pos e) ≤ℤ (m *ℤ pos d) → x ≤ℚ y
is_le_in {x} {y} {n} {m} {d} {e} p q h =
    record {
      le =
          cancel_le (x.num *ℤ pos y.den) (y.num *ℤ pos x.den) (pos d *ℤ pos e) (both_pos p.some q.some)
          (along_le (sym (crossed p q)) (sym (crossed' p q))
          (mul_mono (n *ℤ pos e) (m *ℤ pos d) (pos x.den *ℤ pos y.den) h
          (le_of_lt_z (pos 0) (pos x.den *ℤ pos y.den) (both_pos (den_pos x) (den_pos y)))));
    }

pub is_lt_out : {x y : Fraction} {n m : ℤ} {d e : ℕ} → Is x n d → Is y m e → x <ℚ y → (n *ℤ pos e) <ℤ (m *ℤ pos d)
is_lt_out {x} {y} {n} {m} {d} {e} p q h =
    cancel_lt (n *ℤ pos e) (m *ℤ pos d) (pos x.den *ℤ pos y.den)
    (le_of_lt_z (pos 0) (pos x.den *ℤ pos y.den) (both_pos (den_pos x) (den_pos y)))
    (along_lt (crossed p q) (crossed' p q)
    (mul_mono_lt (x.num *ℤ pos y.den) (y.num *ℤ pos x.den) (pos d *ℤ pos e) h.lt (both_pos p.some q.some)))

pub is_lt_in : {x y : Fraction} {n m : ℤ} {d e : ℕ} → Is x n d → Is y m e → (n *ℤ pos e) <ℤ (m *ℤ pos d) → x <ℚ y
is_lt_in {x} {y} {n} {m} {d} {e} p q h =
    record {
      lt =
          cancel_lt (x.num *ℤ pos y.den) (y.num *ℤ pos x.den) (pos d *ℤ pos e)
          (le_of_lt_z (pos 0) (pos d *ℤ pos e) (both_pos p.some q.some))
          (along_lt (sym (crossed p q)) (sym (crossed' p q))
          (mul_mono_lt (n *ℤ pos e) (m *ℤ pos d) (pos x.den *ℤ pos y.den) h (both_pos (den_pos x) (den_pos y))));
    }

-- ---- signs, at any pair
pub is_nonneg_in : {x : Fraction} {n : ℤ} {d : ℕ} → Is x n d → pos 0 ≤ℤ n → of_int (pos 0) ≤ℚ x
is_nonneg_in {x} {n} {d} p h =
    is_le_in (is_int (pos 0)) p (Z.le_from (n ∷ pos d ∷ []) (lit (pos 0) :* v1) (v0 :* lit (pos 1)) v0 refl h)

pub is_nonneg_out : {x : Fraction} {n : ℤ} {d : ℕ} → Is x n d → of_int (pos 0) ≤ℚ x → pos 0 ≤ℤ n
is_nonneg_out {x} {n} {d} p h =
    Z.le_from (n ∷ pos d ∷ []) (lit (pos 0)) v0 (v0 :* lit (pos 1) :- lit (pos 0) :* v1) refl
    (nonneg_sub (pos 0 *ℤ pos d) (n *ℤ pos 1) (is_le_out (is_int (pos 0)) p h))

pub is_pos_in : {x : Fraction} {n : ℤ} {d : ℕ} → Is x n d → pos 0 <ℤ n → of_int (pos 0) <ℚ x
is_pos_in {x} {n} {d} p h =
    is_lt_in (is_int (pos 0)) p (Z.lt_from (n ∷ pos d ∷ []) (lit (pos 0) :* v1) (v0 :* lit (pos 1)) v0 refl h)

pub is_pos_out : {x : Fraction} {n : ℤ} {d : ℕ} → Is x n d → of_int (pos 0) <ℚ x → pos 0 <ℤ n
is_pos_out {x} {n} {d} p h =
    Z.lt_from (n ∷ pos d ∷ []) (lit (pos 0)) v0 (v0 :* lit (pos 1) :- lit (pos 0) :* v1) refl
    (pos_sub (pos 0 *ℤ pos d) (n *ℤ pos 1) (is_lt_out (is_int (pos 0)) p h))
