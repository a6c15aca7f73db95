-- The row that clears others may be any positive multiple of the one that is taken.
use Rattle.std.proofs.Common.{◌≡◌, ℕ, ◌<◌, sym, ap, ◌∙◌, subst}
use lib.IntN.{ℤ, pos, ◌-ℤ◌, ◌*ℤ◌}
use lib.Signed.{◌<ℤ◌}
use Rattle.rob_algebra.specs.Integer.{ring, mul_assoc, mul_left_comm, mul-sub, mul-zero, *ℤ_comm}
use Rattle.rob_algebra.specs.IntegerOrder.{mul-pos_z, mul_cancel_zero, mul_cancel_lt}
use Rattle.rob_linear.specs.Vectors.{Vector}
use Rattle.rob_linear.specs.Multiples.{IsClearedBy}
use Rattle.rob_entries.specs.Updates.{IsMultipleOf, IsWideCleared}

-- in so many places, as another name for their number says
pub multiple_in : {w n : ℕ} {whole part : Vector} → w ≡ n → IsMultipleOf w whole part → IsMultipleOf n whole part
multiple_in {whole = whole} {part = part} e m = subst (λ k. IsMultipleOf k whole part) e m

carried : (t d n p l q w : ℤ) → t *ℤ (d *ℤ n) ≡ t *ℤ ((p *ℤ l) -ℤ (q *ℤ w))
    → (t *ℤ d) *ℤ n ≡ ((t *ℤ p) *ℤ l) -ℤ (q *ℤ (t *ℤ w))
carried t d n p l q w e = regroup t d n ∙ e ∙ parts t p l q w
  where
    regroup : (t d n : ℤ) → (t *ℤ d) *ℤ n ≡ t *ℤ (d *ℤ n)
    regroup t d n = simp ring

    parts : (t p l q w : ℤ) → t *ℤ ((p *ℤ l) -ℤ (q *ℤ w)) ≡ ((t *ℤ p) *ℤ l) -ℤ (q *ℤ (t *ℤ w))
    parts t p l q w = simp ring

module _ {width : ℕ} {whole part : Vector} (m : IsMultipleOf width whole part) where
  pub cleared_whole : (place : ℕ) (low new : Vector) → IsClearedBy width place low part new
      → IsClearedBy width place low whole new
  cleared_whole place low new c = record {
    divisor = m.times *ℤ c.divisor;
    p = m.times *ℤ c.p;
    q = c.q;
    divides = mul-pos_z m.times c.divisor m.positive c.divides;
    positive = mul-pos_z m.times c.p m.positive c.positive;
    entries = λ k l.
        carried m.times c.divisor (new k) c.p (low k) c.q (part k) (ap (λ v. m.times *ℤ v) (c.entries k l))
        ∙ ap (λ v. ((m.times *ℤ c.p) *ℤ low k) -ℤ (c.q *ℤ v)) (m.entries k l);
    cleared = c.cleared;
  }

  pub wide_whole : (limit place : ℕ) (low : Vector) → IsWideCleared limit width place low part
      → IsWideCleared limit width place low whole
  wide_whole limit place low w = (w.0, cleared_whole place low w.0 w.1, w.2, w.3)

  -- signs and zeros are those of the multiple
  pub part_positive : (k : ℕ) → k < width → pos 0 <ℤ whole k → pos 0 <ℤ part k
  part_positive k l h =
      mul_cancel_lt m.times (pos 0) (part k) m.positive
      (subst (λ v. v <ℤ (m.times *ℤ part k)) (sym (mul-zero m.times)) (subst (λ v. pos 0 <ℤ v) (sym (m.entries k l)) h))

  pub part_zero : (k : ℕ) → k < width → whole k ≡ pos 0 → part k ≡ pos 0
  part_zero k l h = mul_cancel_zero m.times (part k) m.positive (m.entries k l ∙ h)

-- a row that clears may be taken times d
pub times_ring : (D d p q x a b b' : ℤ) → D *ℤ x ≡ (p *ℤ a) -ℤ (q *ℤ b) → d *ℤ b ≡ b'
    → (D *ℤ d) *ℤ x ≡ ((p *ℤ d) *ℤ a) -ℤ (q *ℤ b')
times_ring D d p q x a b b' e f =
    ap (λ t. t *ℤ x) (*ℤ_comm D d) ∙ mul_assoc d D x ∙ ap (λ t. d *ℤ t) e ∙ mul-sub d (p *ℤ a) (q *ℤ b)
    ∙ ap (λ t. t -ℤ (d *ℤ (q *ℤ b))) (mul_left_comm d p a ∙ sym (mul_assoc p d a))
    ∙ ap (λ t. ((p *ℤ d) *ℤ a) -ℤ t) (mul_left_comm d q b ∙ ap (λ t. q *ℤ t) f)

pub cleared_by_times : (n column : ℕ) (low low' top top' new new' : ℕ → ℤ) (d : ℤ) → pos 0 <ℤ d
    → ((k : ℕ) → k < n → low k ≡ low' k) → ((k : ℕ) → k < n → d *ℤ top k ≡ top' k) → ((k : ℕ) → k < n → new' k ≡ new k)
    → column < n → IsClearedBy n column low top new → IsClearedBy n column low' top' new'
cleared_by_times n column low low' top top' new new' d dp el et en cl c = record {
  divisor = c.divisor *ℤ d;
  p = c.p *ℤ d;
  q = c.q;
  divides = mul-pos_z c.divisor d c.divides dp;
  positive = mul-pos_z c.p d c.positive dp;
  entries = λ k l.
      ap (λ t. (c.divisor *ℤ d) *ℤ t) (en k l)
      ∙ times_ring c.divisor d c.p c.q (new k) (low k) (top k) (top' k) (c.entries k l) (et k l)
      ∙ ap (λ t. ((c.p *ℤ d) *ℤ t) -ℤ (c.q *ℤ top' k)) (el k l);
  cleared = en column cl ∙ c.cleared;
}
