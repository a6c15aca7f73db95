-- Linear forms: their values, and what back substitution keeps.
use Rattle.std.proofs.Common.{◌≡◌, List, [], ◌∷◌, refl, ◌∙◌, arith}
use Rattle.std.specs.Prelude.{ℤ, negsuc, ◌+ℤ◌, ◌-ℤ◌, ◌*ℤ◌}
use Rattle.std.proofs.lemmas.Int.{ints}
use Rattle.std.proofs.Math.IntN.{*ℤ-zero, zero-*ℤ}
use Rattle.rob_algebra.specs.Integer.{products}
use Rattle.rob_index.specs.Forms.{Form, weighed, value_of, joined, plus_times, minus, first_factor, other_factors, outer, Ends, far_end, without}

joined_is : (c : ℤ) (g f xs : List ℤ) → weighed (joined c g f) xs ≡ (c *ℤ weighed g xs) +ℤ weighed f xs
joined_is c [] f xs = omega (arith, ints, *ℤ-zero c)
joined_is c (b ∷ bs) [] [] = omega (arith, ints, *ℤ-zero c)
joined_is c (b ∷ bs) [] (x ∷ xs) = let h = joined_is c bs [] xs in simp (products, h) (omega (arith, ints))
joined_is c (b ∷ bs) (d ∷ ds) [] = omega (arith, ints, *ℤ-zero c)
joined_is c (b ∷ bs) (d ∷ ds) (x ∷ xs) = let h = joined_is c bs ds xs in simp (products, h) (omega (arith, ints))

-- the value of a form with c times another
pub plus_times_is : (f : Form) (c : ℤ) (g : Form) (xs : List ℤ)
    → value_of (plus_times f c g) xs ≡ value_of f xs +ℤ (c *ℤ value_of g xs)
plus_times_is f c g xs = let h = joined_is c g.factors f.factors xs in simp (products, h) (omega (arith, ints))

pub minus_is : (f g : Form) (xs : List ℤ) → value_of (minus f g) xs ≡ value_of f xs -ℤ value_of g xs
minus_is f g xs = plus_times_is f (negsuc 0) g xs ∙ omega (arith, ints)

split_factors : (cs : List ℤ) (x : ℤ) (xs : List ℤ)
    → weighed cs (x ∷ xs) ≡ (first_factor cs *ℤ x) +ℤ weighed (other_factors cs) xs
split_factors [] x xs = omega (arith, ints, zero-*ℤ x)
split_factors (c ∷ cs) x xs = refl

-- the innermost value apart
pub outer_is : (f : Form) (x : ℤ) (xs : List ℤ)
    → value_of f (x ∷ xs) ≡ value_of (outer f) xs +ℤ (first_factor f.factors *ℤ x)
outer_is f x xs = let h = split_factors f.factors x xs in simp h (omega (arith, ints))

pub without_is : (r : Ends) (f : Form) (xs : List ℤ)
    → value_of (without r f) xs
    ≡ value_of (outer f) xs +ℤ (first_factor f.factors *ℤ value_of (far_end (first_factor f.factors) r) xs)
without_is r f xs = plus_times_is (outer f) (first_factor f.factors) (far_end (first_factor f.factors) r) xs
