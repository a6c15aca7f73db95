-- A row in lowest terms is a multiple of the row, primitive, and shows the same quotients.
use Rattle.std.proofs.Common.{◌≡◌, ℕ, zero, suc, ◌*◌, ◌<◌, sym, ap, ◌∙◌, subst, arith, inl, inr}
use Rattle.std.proofs.Math.Nat.{div-mul_cancel, mul-dvd-mul_left, dvd_of_mul-dvd-mul_left, eq-one_of_dvd-one, pos_of_dvd_of_pos}
use Rattle.std.proofs.lemmas.Int.{ints, unsigned_abs-mul}
use Rattle.std.proofs.lemmas.Bool.{cases_eq}
use Rattle.std.proofs.lemmas.Nat.Gcd.{dvd_trans, dvd-zero}
use Rattle.std.specs.Int.RustNames.{unsigned_abs}
use Rattle.std.specs.Int.{◌∣◌, IsGcd}
use lib.IntN.{ℤ, pos, neg_ℤ, nat_abs, ◌*ℤ◌}
use lib.Signed.{◌<ℤ◌}
use Rattle.rob_algebra.specs.Fraction.{of_pair, times-over}
use Rattle.rob_algebra.specs.FractionPairs.{of_pair_eq}
use Rattle.rob_algebra.specs.Gcd.{gcd, IsGcd-gcd}
use Rattle.rob_algebra.specs.Integer.{*ℤ_comm, neg-mul}
use Rattle.rob_linear.specs.Vectors.{Vector}
use Rattle.rob_number.specs.Lowest.{size_back}
use Rattle.rob_linear.specs.Systems.{IsPrimitive}
use Rattle.rob_linear.specs.Multiples.{IsParallel}
use Rattle.rob_linear.proofs.RowForms.Multiples.{divided_parallel, parallel_quotient}
use Rattle.rob_simplex.specs.LowestTerms.{content, lowest_terms}

content_divides : (n : ℕ) (r : Vector) (k : ℕ) → k < n → content n r ∣ unsigned_abs (r k)
unfolding content
content_divides zero r k l = absurd (omega arith)
content_divides (suc n) r k l =
    let g : IsGcd (content n r) (unsigned_abs (r n)) (gcd (content n r) (unsigned_abs (r n))) =
    IsGcd-gcd (content n r) (unsigned_abs (r n)) in
    elim (cases_eq k n) [
      | inl e ↦ subst (λ v. gcd (content n r) (unsigned_abs (r n)) ∣ unsigned_abs (r v)) (sym e) g.1
      | inr d ↦ dvd_trans (gcd (content n r) (unsigned_abs (r n))) g.0 (content_divides n r k (omega arith))
    ]

content_greatest : (n : ℕ) (r : Vector) (d : ℕ) → ((k : ℕ) → k < n → d ∣ unsigned_abs (r k)) → d ∣ content n r
unfolding content
content_greatest zero r d h = dvd-zero d
content_greatest (suc n) r d h =
    (IsGcd-gcd (content n r) (unsigned_abs (r n))).2 d (content_greatest n r d (λ k l. h k (omega arith)))
    (h n (omega arith))

lowest_times : (n : ℕ) (r : Vector) (k : ℕ) → k < n → pos (content n r) *ℤ lowest_terms n r k ≡ r k
unfolding lowest_terms
lowest_times n r k l =
    *ℤ_comm (pos (content n r)) (lowest_terms n r k)
    ∙ times-over (r k) (content n r) (div-mul_cancel (content n r) (content_divides n r k l))

module _ (n : ℕ) (r : Vector) (k : ℕ) (kl : k < n) (positive : pos 0 <ℤ r k) where
  content_positive : 0 < content n r
  content_positive =
      let some : 0 < unsigned_abs (r k) = omega (arith, ints) in pos_of_dvd_of_pos (content_divides n r k kl) some

  pub lowest_parallel : IsParallel n r (lowest_terms n r)
  lowest_parallel =
      divided_parallel n r (lowest_terms n r) (pos (content n r))
      (let c : 0 < content n r = content_positive in omega (arith, ints)) (λ j l. lowest_times n r j l)

  pub lowest_primitive : IsPrimitive n (lowest_terms n r)
  lowest_primitive d h =
      let all : content n r * d ∣ content n r =
      content_greatest n r (content n r * d) (λ j l.
      subst (λ v. content n r * d ∣ v)
      (sym (unsigned_abs-mul (pos (content n r)) (lowest_terms n r j)) ∙ ap unsigned_abs (lowest_times n r j l))
      (mul-dvd-mul_left d (content n r) (h j l))) in
      let one : content n r ≡ content n r * 1 = omega arith in
      eq-one_of_dvd-one (dvd_of_mul-dvd-mul_left d content_positive (subst (λ v. content n r * d ∣ v) one all))

-- ---- quotients of parallel rows
pub same_quotient : (x y p q : ℤ) → pos 0 <ℤ p → pos 0 <ℤ q → x *ℤ q ≡ y *ℤ p
    → of_pair x (nat_abs p) ≡ of_pair y (nat_abs q)
same_quotient x y p q pp pq e =
    (of_pair_eq x y (nat_abs p) (nat_abs q) (omega (arith, ints)) (omega (arith, ints))).1
    (ap (λ t. x *ℤ t) (size_back q pq) ∙ e ∙ ap (λ t. y *ℤ t) (sym (size_back p pp)))

-- an entry over another one
pub parallel_over : (n : ℕ) (r s : Vector) (j k : ℕ) → IsParallel n r s → j < n → k < n → pos 0 <ℤ r k → pos 0 <ℤ s k
    → of_pair (r j) (nat_abs (r k)) ≡ of_pair (s j) (nat_abs (s k))
parallel_over n r s j k h jl kl rp sp =
    same_quotient (r j) (s j) (r k) (s k) rp sp (parallel_quotient n r s j k h jl kl)

pub parallel_minus_over : (n : ℕ) (r s : Vector) (j k : ℕ) → IsParallel n r s → j < n → k < n → pos 0 <ℤ r k
    → pos 0 <ℤ s k → of_pair (neg_ℤ (r j)) (nat_abs (r k)) ≡ of_pair (neg_ℤ (s j)) (nat_abs (s k))
parallel_minus_over n r s j k h jl kl rp sp =
    same_quotient (neg_ℤ (r j)) (neg_ℤ (s j)) (r k) (s k) rp sp
    (neg-mul (r j) (s k) ∙ ap neg_ℤ (parallel_quotient n r s j k h jl kl) ∙ sym (neg-mul (s j) (r k)))
