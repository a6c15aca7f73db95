-- Numbers in lowest terms, as the code computes them.
use Rattle.std.proofs.Common.{◌≡◌, ◌≢◌, ℕ, zero, suc, ◌/◌, ◌^◌, ◌<◌, ◌≤◌, ℤ, pos, negsuc, ◌*ℤ◌, ◌<ℤ◌, nat_abs, ◌⊎◌, inl, inr, Some, None, arith, sym, ◌∙◌, ap, ap₂, refl, to_z, of_z, w64, SFits}
use Rattle.std.specs.Int.{w128}
use Rattle.std.proofs.lemmas.Int.{ints}
use Rattle.rob_algebra.specs.Gcd.{gcd, gcd_comm}
use Rattle.rob_algebra.specs.Fraction.{Fraction, of_pair, of_int, inv_ℚ, sign_of, int_over, nat_abs-neg, ext, den_pos, coprime}
use Rattle.rob_algebra.specs.Width.{Fits, kept}
use Rattle.rob_algebra.proofs.Parts.{lowest_parts, of_int-parts, size_some}
use Rattle.rob_algebra.proofs.WidthLaws.{kept-fits, kept-wide}
use Rattle.rob_number.specs.Lowest.{IsLowest, with_sign, limit_of, limit_low}
use Rattle.rob_number.proofs.CastLemmas.{seen, seen_up, seen_down, fits_small, natural_seen, within_limit}

-- ---- the parts of n / d
int_over-signed : (n : ℤ) (g : ℕ) → int_over n g ≡ with_sign n (nat_abs n / g)
int_over-signed (pos n) g = refl
int_over-signed (negsuc n) g = refl

-- the numerator is the quotient by the greatest common divisor, with its sign
pub of_pair-num : (n : ℤ) (d : ℕ) → 0 < d → (of_pair n d).num ≡ with_sign n (nat_abs n / gcd (nat_abs n) d)
unfolding of_pair
of_pair-num n zero h = absurd (omega arith)
of_pair-num n (suc k) h = int_over-signed n (gcd (nat_abs n) (suc k))

pub of_pair-den : (n : ℤ) (d : ℕ) → 0 < d → (of_pair n d).den ≡ d / gcd (nat_abs n) d
unfolding of_pair
of_pair-den n zero h = absurd (omega arith)
of_pair-den n (suc k) h = refl

pub nat_abs-with_sign : (n : ℤ) (s : ℕ) → nat_abs (with_sign n s) ≡ s
nat_abs-with_sign (pos n) s = refl
nat_abs-with_sign (negsuc n) s = nat_abs-neg s

-- ---- what is kept, from parts that the code has computed
pub kept_parts : (l : ℕ) (y x : Fraction) → y.num ≡ x.num → y.den ≡ x.den → Fits l x → Some y ≡ kept l x
kept_parts l y x p q f = ap Some (ext y x p q) ∙ sym (kept-fits l x f)

pub wide_parts : (l : ℕ) (x : Fraction) → (l < nat_abs x.num) ⊎ (l < x.den) → None ≡ kept l x
wide_parts l x w = sym (kept-wide l x w)

pub lowest_of : (l : ℕ) (x : Fraction) (n d : ℤ) → n ≡ x.num → d ≡ pos x.den → Fits l x → IsLowest l n d
lowest_of l x n d p q f = rw (p, q) record {
  positive = positive;
  lowest = coprime x;
  num_fits = f.num_fits;
  den_fits = f.den_fits;
}
  where
    positive : pos 0 <ℤ pos x.den
    positive = let h : 0 < x.den = den_pos x in omega (arith, ints)

-- ---- the inverse
sign_of-mul : (n : ℤ) (d : ℕ) → 0 < nat_abs n → sign_of n *ℤ pos d ≡ with_sign n d
sign_of-mul (pos zero) d h = absurd (omega arith)
sign_of-mul (pos (suc n)) d h = omega (arith, ints)
sign_of-mul (negsuc n) d h = omega (arith, ints)

pub inv_parts : (x : Fraction) → x ≢ of_int (pos 0) → ((inv_ℚ x).num ≡ with_sign x.num x.den)
    × ((inv_ℚ x).den ≡ nat_abs x.num)
unfolding inv_ℚ
inv_parts x h =
    let some : 0 < nat_abs x.num = size_some x h in
    let top : sign_of x.num *ℤ pos x.den ≡ with_sign x.num x.den = sign_of-mul x.num x.den some in
    let p : ((of_pair (with_sign x.num x.den) (nat_abs x.num)).num ≡ with_sign x.num x.den)
    × ((of_pair (with_sign x.num x.den) (nat_abs x.num)).den ≡ nat_abs x.num) =
    lowest_parts (with_sign x.num x.den) (nat_abs x.num) some
    (ap (λ k. gcd k (nat_abs x.num)) (nat_abs-with_sign x.num x.den)
    ∙ gcd_comm x.den (nat_abs x.num) ∙ coprime x) in
    (ap (λ z. (of_pair z (nat_abs x.num)).num) top ∙ p.0, ap (λ z. (of_pair z (nat_abs x.num)).den) top ∙ p.1)

-- ---- n / d from the quotients by the greatest common divisor
-- x is n / d, and its parts have been computed: `top` is the size of the numerator, `bottom` the denominator
pub record IsComputed (x : Fraction) (n : ℤ) (top bottom : ℕ) : Type 0 where
  pub numerator : x.num ≡ with_sign n top
  pub denominator : x.den ≡ bottom

pub computed : (n : ℤ) (d size top bottom : ℕ) → 0 < d → size ≡ nat_abs n → top ≡ size / gcd size d
    → bottom ≡ d / gcd size d → IsComputed (of_pair n d) n top bottom
computed n d size top bottom h e p q = record {
  numerator = of_pair-num n d h ∙ ap (λ k. with_sign n (k / gcd k d)) (sym e) ∙ ap (with_sign n) (sym p);
  denominator = of_pair-den n d h ∙ ap (λ k. d / gcd k d) (sym e) ∙ sym q;
}

pub fits_computed : (l m : ℕ) (x : Fraction) (n : ℤ) (top bottom : ℕ) → IsComputed x n top bottom → m ≡ l
    → top ≤ m → bottom ≤ m → Fits l x
fits_computed l m x n top bottom p e h k =
    let size : nat_abs x.num ≡ top = ap nat_abs p.numerator ∙ nat_abs-with_sign n top in
    record { num_fits = omega arith; den_fits = omega (arith, p.denominator) }

pub wide_computed : (l m : ℕ) (x : Fraction) (n : ℤ) (top bottom : ℕ) → IsComputed x n top bottom → m ≡ l → (m < top)
    ⊎ ((top ≤ m) × (m < bottom)) → None ≡ kept l x
wide_computed l m x n top bottom p e (inl h) =
    let size : nat_abs x.num ≡ top = ap nat_abs p.numerator ∙ nat_abs-with_sign n top in
    wide_parts l x (inl (omega arith))
wide_computed l m x n top bottom p e (inr h) =
    let k : m < bottom = h.1 in
    wide_parts l x (inr (omega (arith, p.denominator)))

-- the machine numbers that hold the parts of a fraction that fits
module _ (B m : ℕ) (x : Fraction) (n : ℤ) (top bottom : ℕ) (s : ℤ) (p : IsComputed x n top bottom) (e : m ≡ limit_of B)
    (h : top ≤ m) (k : bottom ≤ m)
    (signed : s ≡ with_sign n (nat_abs (to_z w64 top))) where
  num_held : to_z w64 (of_z w64 s) ≡ x.num
  num_held =
      let held : to_z w64 top ≡ pos top = natural_seen top (within_limit B top (omega arith)) in
      let whole : s ≡ with_sign n top = signed ∙ ap (λ z. with_sign n (nat_abs z)) held in
      seen s (within_limit B (nat_abs s) (omega (arith, ap nat_abs whole, nat_abs-with_sign n top)))
      ∙ whole ∙ sym p.numerator

  den_held : to_z w64 bottom ≡ pos x.den
  den_held = natural_seen bottom (within_limit B bottom (omega arith)) ∙ ap pos (sym p.denominator)

  pub reduced_lowest : IsLowest (limit_of B) (to_z w64 (of_z w64 s)) (to_z w64 bottom)
  reduced_lowest =
      lowest_of (limit_of B) x (to_z w64 (of_z w64 s)) (to_z w64 bottom) num_held den_held
      (fits_computed (limit_of B) m x n top bottom p e h k)

  pub reduced_exact : (y : Fraction) → y.num ≡ to_z w64 (of_z w64 s) → y.den ≡ nat_abs (to_z w64 bottom)
      → Some y ≡ kept (limit_of B) x
  reduced_exact y f g =
      kept_parts (limit_of B) y x (f ∙ num_held) (g ∙ ap nat_abs den_held)
      (fits_computed (limit_of B) m x n top bottom p e h k)

-- ---- a whole number fits where its size does
pub whole_wide : (l m size : ℕ) (n : ℤ) → size ≡ nat_abs n → m ≡ l → m < size → None ≡ kept l (of_int n)
whole_wide l m size n p e h = wide_parts l (of_int n) (inl (omega (arith, ap nat_abs (of_int-parts n).0)))

-- the machine number that holds one
module _ (B m size : ℕ) (n : ℤ) (f : SFits w128 n) (p : size ≡ nat_abs n) (e : m ≡ limit_of B) (h : size ≤ m) where
  pub whole_held : to_z w64 (of_z w64 (to_z w128 (of_z w128 n))) ≡ n
  whole_held = seen_down n f (within_limit B (nat_abs n) (omega arith))

  whole_fits : Fits (limit_of B) (of_int n)
  whole_fits = record {
    num_fits = omega (arith, ap nat_abs (of_int-parts n).0);
    den_fits = omega (arith, (of_int-parts n).1, limit_low B);
  }

  pub whole_lowest : IsLowest (limit_of B) (to_z w64 (of_z w64 (to_z w128 (of_z w128 n)))) (pos 1)
  whole_lowest = lowest_of (limit_of B) (of_int n) (to_z w64 (of_z w64 (to_z w128 (of_z w128 n)))) (pos 1)
      (whole_held ∙ sym (of_int-parts n).0) (ap pos (sym (of_int-parts n).1)) whole_fits

  pub whole_exact : (y : Fraction) → y.num ≡ to_z w64 (of_z w64 (to_z w128 (of_z w128 n))) → y.den ≡ 1
      → Some y ≡ kept (limit_of B) (of_int n)
  whole_exact y q r =
      kept_parts (limit_of B) y (of_int n) (q ∙ whole_held ∙ sym (of_int-parts n).0)
      (r ∙ sym (of_int-parts n).1) whole_fits

-- ---- the machine numbers that hold an inverse
module _ (B : ℕ) (x : Fraction) (some : x ≢ of_int (pos 0)) (f : Fits (limit_of B) x) (n d m s a : ℤ)
    (n_is : n ≡ x.num) (n_small : nat_abs n < 2 ^ 62) (d_is : d ≡ pos x.den) (d_small : nat_abs d < 2 ^ 62)
    (m_is : m ≡ x.num) (m_small : nat_abs m < 2 ^ 62)
    (signed : s ≡ with_sign (to_z w128 (of_z w128 (to_z w64 (of_z w64 n)))) (nat_abs (to_z w64 (of_z w64 d))))
    (size : a ≡ pos (nat_abs (to_z w64 (of_z w64 m)))) where
  s_is : s ≡ with_sign x.num x.den
  s_is = signed ∙ ap₂ (λ z w. with_sign z (nat_abs w)) (seen_up n (fits_small n n_small) ∙ n_is) (seen d d_small ∙ d_is)

  a_is : a ≡ pos (nat_abs x.num)
  a_is = size ∙ ap (λ z. pos (nat_abs z)) (seen m m_small ∙ m_is)

  inverse_num : to_z w64 (of_z w64 s) ≡ (inv_ℚ x).num
  inverse_num =
      seen s (within_limit B (nat_abs s) (omega (arith, ap nat_abs s_is, nat_abs-with_sign x.num x.den, f.den_fits)))
      ∙ s_is ∙ sym (inv_parts x some).0

  inverse_den : to_z w64 (of_z w64 a) ≡ pos (inv_ℚ x).den
  inverse_den = seen a (within_limit B (nat_abs a) (omega (arith, ap nat_abs a_is, f.num_fits))) ∙ a_is
      ∙ ap pos (sym (inv_parts x some).1)

  inverse_fits : Fits (limit_of B) (inv_ℚ x)
  inverse_fits = record {
    num_fits = omega (arith, ap nat_abs (inv_parts x some).0, nat_abs-with_sign x.num x.den, f.den_fits);
    den_fits = omega (arith, (inv_parts x some).1, f.num_fits);
  }

  pub inverse_lowest : IsLowest (limit_of B) (to_z w64 (of_z w64 s)) (to_z w64 (of_z w64 a))
  inverse_lowest =
      lowest_of (limit_of B) (inv_ℚ x) (to_z w64 (of_z w64 s)) (to_z w64 (of_z w64 a)) inverse_num
      inverse_den inverse_fits

  pub inverse_value : (y : Fraction) → y.num ≡ to_z w64 (of_z w64 s)
      → y.den ≡ nat_abs (to_z w64 (of_z w64 a)) → y ≡ inv_ℚ x
  inverse_value y p q = ext y (inv_ℚ x) (p ∙ inverse_num) (q ∙ ap nat_abs inverse_den)
