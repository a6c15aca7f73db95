-- Whole numbers over one scale: sums, products with whole numbers, and the order.
use Rattle.std.proofs.Common.{◌≡◌, ◌≢◌, [], ◌∷◌, refl, sym, ap, ◌∙◌, subst, arith}
use Rattle.std.proofs.lemmas.Int.{ints}
use lib.IntN.{ℤ, pos, ◌+ℤ◌, ◌-ℤ◌, ◌*ℤ◌, neg_ℤ}
use lib.Signed.{◌<ℤ◌, ◌≤ℤ◌}
use Rattle.rob_algebra.specs.Fraction.{Fraction, of_int, inv_ℚ, neg_ℚ, ◌+ℚ◌, ◌-ℚ◌, ◌*ℚ◌, ◌/ℚ◌, ◌≤ℚ◌, ◌<ℚ◌}
use Rattle.rob_algebra.specs.FractionPairs.{Is, is_int, is_same}
use Rattle.rob_algebra.specs.PairOrder.{is_le_in, is_lt_in, is_pos_in}
use Rattle.rob_algebra.specs.FractionLaws as Q
use Rattle.rob_algebra.specs.FractionOrderLaws.{le_of_lt_ℚ, mul_nonneg_ℚ, mul_pos_ℚ, le_one, int_nonneg, mul_mono_lt_ℚ}
use Rattle.rob_algebra.specs.FractionLaws.{ℚ_ring, of_int-add, of_int-mul}
use Rattle.rob_algebra.specs.RingSolver as Solver
use Rattle.rob_algebra.specs.Polynomials.{lit, minus, ◌:+◌, ◌:*◌, v0, v1, v2, v3, v4, v5}
use Rattle.rob_meaning.specs.Places.{0ℚ, 1ℚ}
use Rattle.rob_meaning.proofs.Lists.AbsoluteLemmas.{pos_some, inv_pos}

-- z / s
abbrev pub over : ℤ → ℤ → Fraction
over z s = of_int z /ℚ of_int s

pub over-add : (a b s : ℤ) → over (a +ℤ b) s ≡ over a s +ℚ over b s
over-add a b s =
    ap (λ z. z /ℚ of_int s) (of_int-add a b)
    ∙ Q.ring (of_int a ∷ of_int b ∷ inv_ℚ (of_int s) ∷ []) ((v0 :+ v1) :* v2) (v0 :* v2 :+ v1 :* v2) refl

pub over-mul : (a b s : ℤ) → over (a *ℤ b) s ≡ of_int a *ℚ over b s
over-mul a b s =
    ap (λ z. z /ℚ of_int s) (of_int-mul a b)
    ∙ Q.ring (of_int a ∷ of_int b ∷ inv_ℚ (of_int s) ∷ []) (v0 :* v1 :* v2) (v0 :* (v1 :* v2)) refl

pub over-mul_right : (a b s : ℤ) → over (a *ℤ b) s ≡ over a s *ℚ of_int b
over-mul_right a b s =
    ap (λ z. z /ℚ of_int s) (of_int-mul a b)
    ∙ Q.ring (of_int a ∷ of_int b ∷ inv_ℚ (of_int s) ∷ []) (v0 :* v1 :* v2) (v0 :* v2 :* v1) refl

pub over-zero : (s : ℤ) → over (pos 0) s ≡ 0ℚ
over-zero s = Q.ring (inv_ℚ (of_int s) ∷ []) (lit (pos 0) :* v0) (lit (pos 0)) refl

pub int_pos : (s : ℤ) → pos 0 <ℤ s → 0ℚ <ℚ of_int s
int_pos s h = is_pos_in (is_int s) h

int_some : (s : ℤ) → pos 0 <ℤ s → of_int s ≢ 0ℚ
int_some s h = pos_some (of_int s) (int_pos s h)

pub over-self : (s : ℤ) → pos 0 <ℤ s → over s s ≡ 1ℚ
over-self s h = Q.mul_inv (of_int s) (int_some s h)

pub over-one : (z : ℤ) → over z (pos 1) ≡ of_int z
over-one z =
    Solver.from_one ℚ_ring (of_int z ∷ inv_ℚ 1ℚ ∷ []) (v0 :* v1) v0 v0 (lit (pos 1) :* v1) (lit (pos 1)) refl
    (over-self (pos 1) (omega (arith, ints)))

inv_nonneg : (s : ℤ) → pos 0 <ℤ s → 0ℚ ≤ℚ inv_ℚ (of_int s)
inv_nonneg s h = le_of_lt_ℚ 0ℚ (inv_ℚ (of_int s)) (inv_pos (of_int s) (int_pos s h))

pub over_nonneg : (z s : ℤ) → pos 0 <ℤ s → pos 0 ≤ℤ z → 0ℚ ≤ℚ over z s
over_nonneg z s h k = mul_nonneg_ℚ (of_int z) (inv_ℚ (of_int s)) (int_nonneg z k) (inv_nonneg s h)

pub over_pos : (z s : ℤ) → pos 0 <ℤ s → pos 0 <ℤ z → 0ℚ <ℚ over z s
over_pos z s h k = mul_pos_ℚ (of_int z) (inv_ℚ (of_int s)) (int_pos z k) (inv_pos (of_int s) (int_pos s h))

pub over_le : (a b s : ℤ) → pos 0 <ℤ s → a ≤ℤ b → over a s ≤ℚ over b s
over_le a b s h k =
    le_one (of_int a ∷ of_int b ∷ inv_ℚ (of_int s) ∷ []) (v0 :* v2) (v1 :* v2) v2 v0 v1 refl (inv_nonneg s h)
    (is_le_in (is_int a) (is_int b) (omega (arith, ints)))

pub over_lt : (a b s : ℤ) → pos 0 <ℤ s → a <ℤ b → over a s <ℚ over b s
over_lt a b s h k =
    subst (λ x. x <ℚ over b s) (Q.ℚ-mul_comm (inv_ℚ (of_int s)) (of_int a))
    (subst (λ x. inv_ℚ (of_int s) *ℚ of_int a <ℚ x) (Q.ℚ-mul_comm (inv_ℚ (of_int s)) (of_int b))
    (mul_mono_lt_ℚ (of_int a) (of_int b) (inv_ℚ (of_int s)) (is_lt_in (is_int a) (is_int b) (omega (arith, ints)))
    (inv_pos (of_int s) (int_pos s h))))

pub over-neg : (z s : ℤ) → over (neg_ℤ z) s ≡ neg_ℚ (over z s)
over-neg z s =
    let e : over (neg_ℤ z) s +ℚ over z s ≡ 0ℚ =
    sym (over-add (neg_ℤ z) z s)
    ∙ ap (λ v. over v s) (let e : neg_ℤ z +ℤ z ≡ pos 0 = omega (arith, ints) in e) ∙ over-zero s in
    Solver.from_one ℚ_ring (over (neg_ℤ z) s ∷ over z s ∷ []) v0 (minus v1) (lit (pos 1))
    (v0 :+ v1) (lit (pos 0)) refl e

-- the numerator of 0 is 0
pub over_zero_out : (z s : ℤ) → pos 0 <ℤ s → over z s ≡ 0ℚ → z ≡ pos 0
over_zero_out z s h e =
    let w : of_int z ≡ 0ℚ =
    Solver.from_two ℚ_ring (of_int z ∷ of_int s ∷ inv_ℚ (of_int s) ∷ []) v0 (lit (pos 0)) (minus v0) (v1 :* v2)
    (lit (pos 1)) v1 (v0 :* v2) (lit (pos 0)) refl (over-self s h) e in
    let c : z *ℤ pos 1 ≡ pos 0 *ℤ pos 1 = is_same (subst (λ (x : Fraction). Is x z 1) w (is_int z)) (is_int (pos 0)) in
    omega (arith, ints)

-- one number over two scales
pub over_same : (a b s t : ℤ) → pos 0 <ℤ s → pos 0 <ℤ t → a *ℤ t ≡ b *ℤ s → over a s ≡ over b t
over_same a b s t sp tp e =
    Solver.from_three ℚ_ring (of_int a ∷ of_int b ∷ of_int s ∷ of_int t ∷ inv_ℚ (of_int s) ∷ inv_ℚ (of_int t) ∷ [])
    (v0 :* v4) (v1 :* v5)
    (v4 :* v5) (v0 :* v3) (v1 :* v2)
    (minus (v0 :* v4)) (v3 :* v5) (lit (pos 1))
    (v1 :* v5) (v2 :* v4) (lit (pos 1))
    refl (sym (of_int-mul a t) ∙ ap of_int e ∙ of_int-mul b s) (over-self t tp) (over-self s sp)

-- a number that is z when it is multiplied by s
pub over_from : (q : Fraction) (z s : ℤ) → pos 0 <ℤ s → of_int s *ℚ q ≡ of_int z → q ≡ over z s
over_from q z s sp e =
    Solver.from_two ℚ_ring (q ∷ of_int z ∷ of_int s ∷ inv_ℚ (of_int s) ∷ []) v0 (v1 :* v3)
    (minus v0) (v2 :* v3) (lit (pos 1)) v3 (v2 :* v0) v1 refl (over-self s sp) e

pub over-sub : (a b s : ℤ) → over (a -ℤ b) s ≡ over a s -ℚ over b s
over-sub a b s = over-add a (neg_ℤ b) s ∙ ap (λ x. over a s +ℚ x) (over-neg b s)

-- z over s, s times
pub times-over : (z s : ℤ) → pos 0 <ℤ s → of_int s *ℚ over z s ≡ of_int z
times-over z s sp =
    Solver.from_one ℚ_ring (of_int z ∷ of_int s ∷ inv_ℚ (of_int s) ∷ []) (v1 :* (v0 :* v2)) v0 v0 (v1 :* v2)
    (lit (pos 1)) refl (over-self s sp)
