-- Forms with whole values: how great they are at least, wherever they aren't below 0.
use Rattle.std.proofs.Common.{◌≡◌, ℕ, ◌+◌, ◌-◌, ◌*◌, ◌/◌, ◌%◌, ◌<◌, ◌⊎◌, inl, inr, List, [], refl, sym, ap, ◌∙◌, subst, mod-lt, div-add-mod', arith}
use Rattle.std.specs.Prelude.{ℤ, nat_abs, pos, negsuc, ◌+ℤ◌, ◌*ℤ◌, ◌≤ℤ◌, true}
use Rattle.std.specs.Int.{int_rem_euclid, IsNonNegative}
use Rattle.std.proofs.lemmas.Int.{ints}
use Rattle.std.proofs.Math.Nat.{mul_comm}
use Rattle.rob_algebra.specs.Integer.{products, mul-add, mul_left_comm}
use Rattle.rob_algebra.specs.IntegerOrder.{mul_nonneg}
use Rattle.rob_index.specs.Statements.{digits}
use Rattle.rob_index.specs.Forms.{Form, value_of, plus_times}
use Rattle.rob_index.specs.Fast.{atom_form, sign_factor}
use Rattle.rob_index.proofs.Faults.FormLemmas.{plus_times_is}
use Rattle.rob_ranges.specs.declared.short.Short.{Short}
use Rattle.rob_ranges.specs.DigitLists.{wide_of}
use Rattle.rob_ranges.specs.Shorts.{first_of, second_of, short_value}
use Rattle.rob_settings.specs.Rests.{IsRest}

-- ---- division
-- a number of at least 0 is its size
pub size_of : (z : ℤ) → IsNonNegative z → z ≡ pos (nat_abs z)
size_of (pos n) h = refl
size_of (negsuc n) h = absurd h

pub rest_is : (z : ℤ) (n r : ℕ) → 0 < n → int_rem_euclid z (pos n) ≡ pos r → IsRest z n r
rest_is (pos a) n r over is =
    let same : a % n ≡ r = cc in
    let parts : a / n * n + a % n ≡ a = div-add-mod' a n in
    let low : a % n < n = mod-lt a over in
    let e : pos n *ℤ pos (a / n) ≡ pos (a / n * n) = ap pos (mul_comm n (a / n)) in
    record {
      quotient = pos (a / n);
      whole = omega (arith, ints, parts, same, e);
      less = omega (arith, low, same);
    }
rest_is (negsuc a) n r over is =
    let same : n - 1 - a % n ≡ r = cc in
    let parts : a / n * n + a % n ≡ a = div-add-mod' a n in
    let low : a % n < n = mod-lt a over in
    let q = a / n in
    let next = pos q +ℤ pos 1 in
    let negated : negsuc q ≡ negsuc 0 *ℤ next = omega (arith, ints) in
    let product : pos n *ℤ pos q ≡ pos (q * n) = ap pos (mul_comm n q) in
    let apart : pos n *ℤ next ≡ (pos n *ℤ pos q) +ℤ (pos n *ℤ pos 1) = mul-add (pos n) (pos q) (pos 1) in
    let e : pos n *ℤ negsuc q ≡ negsuc 0 *ℤ (pos n *ℤ next) =
    ap (λ (z : ℤ). pos n *ℤ z) negated ∙ mul_left_comm (pos n) (negsuc 0) next in
    record {
      quotient = negsuc (a / n);
      whole = omega (arith, ints, parts, same, e, apart, product, low);
      less = omega (arith, low, same);
    }

-- ---- a multiple and a rest, together at least 0
pub least_rest : (n r : ℕ) (m : ℤ) → r < n → pos 0 ≤ℤ ((pos n *ℤ m) +ℤ pos r) → pos r ≤ℤ ((pos n *ℤ m) +ℤ pos r)
least_rest n r (pos m) low h =
    let a = mul_nonneg (pos n) (pos m) (omega (arith, ints)) (omega (arith, ints)) in omega (arith, ints, a)
least_rest n r (negsuc m) low h =
    let a = mul_nonneg (pos n) (pos m) (omega (arith, ints)) (omega (arith, ints)) in
    let e : pos n *ℤ negsuc m ≡ (negsuc 0 *ℤ (pos n *ℤ pos m)) +ℤ (negsuc 0 *ℤ pos n) =
    simp products (omega (arith, ints)) in
    absurd (omega (arith, ints, h, a, e, low))

-- ---- a form
module _ (f : Short) (vs : List ℤ) (n : ℕ) where
  parts_are : (a : IsRest f.first n 0) (b : IsRest f.second n 0) (r : ℕ) (c : IsRest (wide_of f.constant) n r)
      → short_value f vs
      ≡ (pos n *ℤ ((c.quotient +ℤ (a.quotient *ℤ first_of vs)) +ℤ (b.quotient *ℤ second_of vs))) +ℤ pos r
  parts_are a b r c =
      (λ i. (c.whole i +ℤ (a.whole i *ℤ first_of vs)) +ℤ (b.whole i *ℤ second_of vs))
      ∙ simp products (omega (arith, ints))

  pub least_is : (p q r least : ℕ) → IsRest f.first n p → IsRest f.second n q → IsRest (wide_of f.constant) n r
      → (least ≡ 0) ⊎ ((p ≡ 0) × ((q ≡ 0) × (least ≡ r))) → pos 0 ≤ℤ short_value f vs
      → pos least ≤ℤ short_value f vs
  least_is p q r least a b c (inl none) h = subst (λ (k : ℕ). pos k ≤ℤ short_value f vs) (sym none) h
  least_is p q r least a b c (inr is) h =
      let first : IsRest f.first n 0 = subst (λ (k : ℕ). IsRest f.first n k) is.0 a in
      let second : IsRest f.second n 0 = subst (λ (k : ℕ). IsRest f.second n k) is.1.0 b in
      let e = parts_are first second r c in
      subst (λ (k : ℕ). pos k ≤ℤ short_value f vs) (sym is.1.1)
      (subst (λ (z : ℤ). pos r ≤ℤ z) (sym e)
      (least_rest n r ((c.quotient +ℤ (first.quotient *ℤ first_of vs)) +ℤ (second.quotient *ℤ second_of vs)) c.less
      (subst (λ (z : ℤ). pos 0 ≤ℤ z) e h)))

-- a form that is lowered by so much
pub lower_least : (f g : Form) (least : ℕ) (vs : List ℤ)
    → g ≡ plus_times f (sign_factor true) (atom_form [] (digits least))
    → (pos 0 ≤ℤ value_of f vs → pos least ≤ℤ value_of f vs) → pos 0 ≤ℤ value_of f vs → pos 0 ≤ℤ value_of g vs
lower_least f g least vs is over h =
    let e = plus_times_is f (sign_factor true) (atom_form [] (digits least)) vs in
    let z : value_of (atom_form [] (digits least)) vs ≡ pos least = omega (arith, ints) in
    let k = over h in
    subst (λ (s : Form). pos 0 ≤ℤ value_of s vs) (sym is) (omega (arith, ints, e, z, k))
