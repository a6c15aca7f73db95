-- Forms over two values at most: what their numbers say of the form, and the value as it is computed.
use Rattle.std.proofs.Common.{◌≡◌, ◌<◌, ◌≤◌, ◌^◌, List, [], ◌∷◌, length, get_or, refl, sym, ap, ◌∙◌, subst, arith}
use Rattle.std.specs.Prelude.{FitsSigned, ℤ, pos, nat_abs, ◌+ℤ◌, ◌*ℤ◌}
use Rattle.std.specs.Int.{w128}
use Rattle.std.proofs.lemmas.Int.{ints, to_z-of_z}
use mir.Syntax.{w16, w32, w64}
use mir.Val.{SFits, to_z, of_z}
use Rattle.std.proofs.Math.IntN.{*ℤ-zero, zero-*ℤ}
use Rattle.rob_algebra.specs.Integer.{add_assoc}
use Rattle.rob_index.specs.Forms.{Form, value_of, weighed}
use Rattle.rob_ranges.specs.declared.digits.Wide.{Wide}
use Rattle.rob_ranges.specs.DigitLists.{wide_of}
use Rattle.rob_ranges.specs.Digits.{base, number_of}
use Rattle.rob_ranges.specs.Shorts.{first_of, second_of, short_value}
use Rattle.rob_ranges.proofs.DigitLemmas.{one_digit}

-- ---- a form by its numbers
-- the list of no number, of one, and of two
none_alone : (fs : List ℤ) → length fs < 1 → fs ≡ []
none_alone [] h = refl
none_alone (x ∷ xs) h = absurd (omega (arith, h))

one_alone : (fs : List ℤ) (a : ℤ) → 1 ≤ length fs → length fs < 2 → a ≡ get_or fs 0 a → fs ≡ a ∷ []
one_alone [] a h k e = absurd (omega (arith, h))
one_alone (x ∷ []) a h k e = ap (λ (z : ℤ). z ∷ []) (sym e)
one_alone (x ∷ y ∷ ys) a h k e = absurd (omega (arith, k))

two_alone : (fs : List ℤ) (a b : ℤ) → 2 ≤ length fs → length fs < 3 → a ≡ get_or fs 0 a → b ≡ get_or fs 1 b
    → fs ≡ a ∷ b ∷ []
two_alone [] a b h k e f = absurd (omega (arith, h))
two_alone (x ∷ []) a b h k e f = absurd (omega (arith, h))
two_alone (x ∷ y ∷ []) a b h k e f = λ i. sym e i ∷ sym f i ∷ []
two_alone (x ∷ y ∷ z ∷ zs) a b h k e f = absurd (omega (arith, k))

-- the weight of factors at some values
none_weighed : (xs : List ℤ) → weighed [] xs ≡ (pos 0 *ℤ first_of xs) +ℤ (pos 0 *ℤ second_of xs)
none_weighed xs = omega (arith, ints, zero-*ℤ (first_of xs), zero-*ℤ (second_of xs))

one_weighed : (a : ℤ) (xs : List ℤ) → weighed (a ∷ []) xs ≡ (a *ℤ first_of xs) +ℤ (pos 0 *ℤ second_of xs)
one_weighed a [] = omega (arith, ints, *ℤ-zero a)
one_weighed a (x ∷ xs) = omega (arith, ints, zero-*ℤ (first_of xs))

two_weighed : (a b : ℤ) (xs : List ℤ) → weighed (a ∷ b ∷ []) xs ≡ (a *ℤ first_of xs) +ℤ (b *ℤ second_of xs)
two_weighed a b [] = omega (arith, ints, *ℤ-zero a, *ℤ-zero b)
two_weighed a b (x ∷ []) = omega (arith, ints, *ℤ-zero b)
two_weighed a b (x ∷ y ∷ ys) = omega (arith, ints)

-- a form whose constant is k, and whose factors are those of `fs`
module _ (f : Form) (c : ℤ) (k : Wide) (fs : List ℤ) (is_c : c ≡ f.constant) (is_k : c ≡ wide_of k)
    (is_fs : fs ≡ f.factors) where
  constant_is : f.constant ≡ wide_of k
  constant_is = sym is_c ∙ is_k

  pub none_short : length fs < 1 → (xs : List ℤ) → value_of f xs
      ≡ short_value (record { constant = k; first = pos 0; second = pos 0 }) xs
  none_short n xs =
      (λ i. constant_is i +ℤ weighed ((sym is_fs ∙ none_alone fs n) i) xs)
      ∙ ap (λ (z : ℤ). wide_of k +ℤ z) (none_weighed xs)
      ∙ sym (add_assoc (wide_of k) (pos 0 *ℤ first_of xs) (pos 0 *ℤ second_of xs))

  pub one_short : (x a : ℤ) → 1 ≤ length fs → length fs < 2 → x ≡ get_or fs 0 x → x ≡ a → SFits w32 a
      → (xs : List ℤ) → value_of f xs
      ≡ short_value (record { constant = k; first = to_z w32 (of_z w32 a); second = pos 0 }) xs
  one_short x a h n e is_a fa xs =
      let factors : f.factors ≡ to_z w32 (of_z w32 a) ∷ [] =
      sym is_fs ∙ one_alone fs x h n e ∙ ap (λ (z : ℤ). z ∷ []) (is_a ∙ sym (to_z-of_z w32 a fa)) in
      (λ i. constant_is i +ℤ weighed (factors i) xs)
      ∙ ap (λ (z : ℤ). wide_of k +ℤ z) (one_weighed (to_z w32 (of_z w32 a)) xs)
      ∙ sym (add_assoc (wide_of k) (to_z w32 (of_z w32 a) *ℤ first_of xs) (pos 0 *ℤ second_of xs))

  pub two_short : (x y a b : ℤ) → 2 ≤ length fs → length fs < 3 → x ≡ get_or fs 0 x → y ≡ get_or fs 1 y
      → x ≡ a → SFits w32 a → y ≡ b → SFits w32 b
      → (xs : List ℤ) → value_of f xs
      ≡ short_value (record { constant = k; first = to_z w32 (of_z w32 a); second = to_z w32 (of_z w32 b) }) xs
  two_short x y a b h n e g is_a fa is_b fb xs =
      let p : x ≡ to_z w32 (of_z w32 a) = is_a ∙ sym (to_z-of_z w32 a fa) in
      let q : y ≡ to_z w32 (of_z w32 b) = is_b ∙ sym (to_z-of_z w32 b fb) in
      let factors : f.factors ≡ to_z w32 (of_z w32 a) ∷ to_z w32 (of_z w32 b) ∷ [] =
      sym is_fs ∙ two_alone fs x y h n e g ∙ (λ i. p i ∷ q i ∷ []) in
      (λ i. constant_is i +ℤ weighed (factors i) xs)
      ∙ ap (λ (z : ℤ). wide_of k +ℤ z) (two_weighed (to_z w32 (of_z w32 a)) (to_z w32 (of_z w32 b)) xs)
      ∙ sym (add_assoc (wide_of k) (to_z w32 (of_z w32 a) *ℤ first_of xs) (to_z w32 (of_z w32 b) *ℤ second_of xs))

-- ---- a value as it is computed
seen : (z : ℤ) → nat_abs z ≤ 2 ^ 113 → to_z w128 (of_z w128 z) ≡ z
seen z h = omega (arith, ints)

small_fits : (z : ℤ) → nat_abs z ≤ 2 ^ 113 → FitsSigned w128 z
small_fits z h = omega (arith, ints)

-- a number whose second digit is 0 is the first
pub low_alone : (w : Wide) → w.high ≡ pos 0 → w.low ≡ wide_of w
low_alone w h =
    let e : pos base *ℤ w.high ≡ pos 0 = ap (λ (z : ℤ). pos base *ℤ z) h ∙ *ℤ-zero (pos base) in
    omega (arith, ints, e)

-- the list of one number
in_front : (xs : List ℤ) → 1 ≤ length xs → length xs < 2 → xs ≡ get_or xs 0 (pos 0) ∷ []
in_front [] h k = absurd (omega (arith, h))
in_front (x ∷ []) h k = refl
in_front (x ∷ y ∷ ys) h k = absurd (omega (arith, k))

-- digits of which none, or one of 16 bits, is behind the lowest
pub none_wide : (d : ℤ) (more xs : List ℤ) → SFits w64 d → xs ≡ more → length xs < 1
    → number_of (d ∷ more) ≡ wide_of (record { low = to_z w64 (of_z w64 d); high = pos 0 })
none_wide d more xs f e n =
    let low = to_z-of_z w64 d f in
    λ i. sym low i +ℤ (pos base *ℤ number_of ((sym e ∙ none_alone xs n) i))

pub one_wide : (d a : ℤ) (more xs : List ℤ) → SFits w64 d → SFits w64 (get_or xs 0 (pos 0)) → SFits w16 a → xs ≡ more
    → 1 ≤ length xs → length xs < 2 → to_z w64 (of_z w64 (get_or xs 0 (pos 0))) ≡ a
    → number_of (d ∷ more) ≡ wide_of (record { low = to_z w64 (of_z w64 d); high = to_z w16 (of_z w16 a) })
one_wide d a more xs f g h e n m is =
    let low = to_z-of_z w64 d f in
    let first : get_or xs 0 (pos 0) ≡ to_z w16 (of_z w16 a) =
    sym (to_z-of_z w64 (get_or xs 0 (pos 0)) g) ∙ is ∙ sym (to_z-of_z w16 a h) in
    let behind : number_of more ≡ to_z w16 (of_z w16 a) =
    ap number_of (sym e ∙ in_front xs n m) ∙ one_digit (get_or xs 0 (pos 0)) ∙ first in
    λ i. sym low i +ℤ (pos base *ℤ behind i)

-- a factor as it is passed
pub passed : (a p w : ℤ) → SFits w32 a → p ≡ to_z w32 (of_z w32 a) *ℤ w → p ≡ a *ℤ w
passed a p w f e = e ∙ ap (λ (z : ℤ). z *ℤ w) (to_z-of_z w32 a f)

module _ (k p q : ℤ) (f : nat_abs k ≤ 2 ^ 79) (h : nat_abs p ≤ 2 ^ 111) (g : nat_abs q ≤ 2 ^ 111) where
  first_seen : to_z w128 (of_z w128 k) +ℤ to_z w128 (of_z w128 p) ≡ k +ℤ p
  first_seen =
      let a = seen k (omega (arith, f)) in
      let b = seen p (omega (arith, h)) in
      λ i. a i +ℤ b i

  both_seen : to_z w128 (of_z w128 (to_z w128 (of_z w128 k) +ℤ to_z w128 (of_z w128 p))) +ℤ to_z w128 (of_z w128 q)
      ≡ (k +ℤ p) +ℤ q
  both_seen =
      let a = ap (λ (z : ℤ). to_z w128 (of_z w128 z)) first_seen ∙ seen (k +ℤ p) (omega (arith, ints, f, h)) in
      let b = seen q (omega (arith, g)) in
      λ i. a i +ℤ b i

  pub first_fits : FitsSigned w128 (to_z w128 (of_z w128 k) +ℤ to_z w128 (of_z w128 p))
  first_fits =
      subst (λ (z : ℤ). FitsSigned w128 z) (sym first_seen) (small_fits (k +ℤ p) (omega (arith, ints, f, h)))

  pub both_fits : FitsSigned w128
      (to_z w128 (of_z w128 (to_z w128 (of_z w128 k) +ℤ to_z w128 (of_z w128 p))) +ℤ to_z w128 (of_z w128 q))
  both_fits =
      subst (λ (z : ℤ). FitsSigned w128 z) (sym both_seen)
      (small_fits ((k +ℤ p) +ℤ q) (omega (arith, ints, f, h, g)))

  pub value_seen : to_z w128 (of_z w128
      (to_z w128 (of_z w128 (to_z w128 (of_z w128 k) +ℤ to_z w128 (of_z w128 p))) +ℤ to_z w128 (of_z w128 q)))
      ≡ (k +ℤ p) +ℤ q
  value_seen =
      ap (λ (z : ℤ). to_z w128 (of_z w128 z)) both_seen ∙ seen ((k +ℤ p) +ℤ q) (omega (arith, ints, f, h, g))
