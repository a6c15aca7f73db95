-- How to prove what proofs above this crate keep meeting: each recipe is a checked example, named for what it shows.
-- For whoever writes a proof about whole numbers or fractions: find the example that looks like the goal, and copy its
-- right side. Over the whole numbers `omega` and `simp products` come first; the solver `ring` takes what they don't,
-- and all of what is said of fractions. `v0`, `v1` .. stand for the entries of the list, in order.
use Rattle.std.specs.Prelude.{◌≡◌, ℕ, ℤ, pos, negsuc, ◌+ℤ◌, ◌-ℤ◌, ◌*ℤ◌, ◌≤ℤ◌, ◌<ℤ◌, [], ◌∷◌, refl, Some, None}
use Rattle.std.proofs.Common.{arith}
use Rattle.std.proofs.lemmas.Int.{ints}
use Rattle.std.proofs.Math.IntN.{*ℤ_comm}
use Rattle.rob_algebra.specs.Gcd.{gcd}
use Rattle.rob_algebra.specs.Integer.{products}
use Rattle.rob_algebra.specs.IntegerOrder.{mul_mono, square_nonneg, nonneg_sub, pos_sub}
use Rattle.rob_algebra.specs.Fraction.{Fraction, of_pair, of_int, ratio, ◌+ℚ◌, ◌-ℚ◌, ◌*ℚ◌, ◌/ℚ◌, neg_ℚ, ◌≤ℚ◌}
use Rattle.rob_algebra.specs.FractionPairs.{is_self, is_mul, same_is}
use Rattle.rob_algebra.specs.Width.{kept}
use Rattle.rob_algebra.specs.FractionLaws as Q
use Rattle.rob_algebra.specs.FractionOrderLaws.{le_two, int_nonneg}
use Rattle.rob_algebra.specs.Ring as Solver
use Rattle.rob_algebra.specs.Polynomials.{lit, ◌:+◌, ◌:-◌, ◌:*◌, v0, v1, v2, v3, v4}
use Rattle.rob_algebra.specs.IntRing.{ring, le_from, lt_from, from_one}

-- ---- whole numbers: what is linear once each product is taken for one unknown
products_are_atoms : (a b c d : ℤ) → a ≤ℤ (b *ℤ c) → (c *ℤ b) ≤ℤ d → a ≤ℤ d
products_are_atoms a b c d h k = omega (arith, ints)

nested_products_are_atoms : (a b c d e : ℤ) → (b *ℤ (c *ℤ e)) ≤ℤ a → a ≤ℤ d → (b *ℤ (c *ℤ e)) ≤ℤ d
nested_products_are_atoms a b c d e h k = omega (arith, ints)

numerals_in_front : (a b c d : ℤ) → (b *ℤ c +ℤ pos 3 *ℤ d) ≤ℤ a → pos 0 ≤ℤ d → (b *ℤ c) ≤ℤ a
numerals_in_front a b c d h k = omega (arith, ints)

equations_too : (a b c d : ℤ) → a *ℤ b +ℤ c ≡ d → d -ℤ c ≡ a *ℤ b
equations_too a b c d h = omega (arith, ints)

-- a bound times what isn't negative is a fact to list
bound_times_a_factor : (x y c z : ℤ) → x ≤ℤ y → pos 0 ≤ℤ c → (c *ℤ x +ℤ z) ≤ℤ (c *ℤ y +ℤ z)
bound_times_a_factor x y c z h k = omega (arith, ints, mul_mono x y c h k)

-- ---- whole numbers: sums that have to be multiplied out
multiplied_out : (a b c d : ℤ) → (a +ℤ b) *ℤ (c -ℤ d) ≡ a *ℤ c +ℤ b *ℤ c -ℤ (a *ℤ d +ℤ b *ℤ d)
multiplied_out a b c d = simp products (omega (arith, ints))

multiplied_out_at_degree_three : (a b c d e f : ℤ)
    → (a *ℤ d -ℤ c *ℤ b) *ℤ f +ℤ e *ℤ (b *ℤ d) ≡ a *ℤ (d *ℤ f) -ℤ (c *ℤ f -ℤ e *ℤ d) *ℤ b
multiplied_out_at_degree_three a b c d e f = simp products (omega (arith, ints))

multiplied_out_by_the_solver : (a b c d : ℤ) → (a +ℤ b) *ℤ (c -ℤ d) ≡ a *ℤ c +ℤ b *ℤ c -ℤ (a *ℤ d +ℤ b *ℤ d)
multiplied_out_by_the_solver a b c d =
    ring (a ∷ b ∷ c ∷ d ∷ []) ((v0 :+ v1) :* (v2 :- v3)) (v0 :* v2 :+ v1 :* v2 :- (v0 :* v3 :+ v1 :* v3)) refl

-- a premise is multiplied out too. A numeral inside a product, as in a * (2 * c), is not read: keep it in front
premise_multiplied_out : (a b c d e : ℤ) → (a *ℤ (b +ℤ c)) ≤ℤ d → d <ℤ (e -ℤ c *ℤ a)
    → (b *ℤ a +ℤ pos 2 *ℤ (c *ℤ a)) <ℤ e
premise_multiplied_out a b c d e h k =
    let p : (a *ℤ b +ℤ a *ℤ c) ≤ℤ d = simp products at h in omega (arith, ints, *ℤ_comm a b, *ℤ_comm a c)

-- ---- whole numbers: from premises, by the solver
-- the right side less the left is the sum of the premises' differences
bound_from_two_bounds : (a b c d e : ℤ) → (a *ℤ (b +ℤ c)) ≤ℤ d → d <ℤ (e -ℤ c *ℤ a) → (b *ℤ a +ℤ pos 2 *ℤ (a *ℤ c)) <ℤ e
bound_from_two_bounds a b c d e h k =
    lt_from (a ∷ b ∷ c ∷ d ∷ e ∷ []) (v1 :* v0 :+ lit (pos 2) :* (v0 :* v2)) v4
    ((v3 :- v0 :* (v1 :+ v2)) :+ (v4 :- v2 :* v0 :- v3)) refl
    (let p : pos 0 ≤ℤ (d -ℤ a *ℤ (b +ℤ c)) = nonneg_sub (a *ℤ (b +ℤ c)) d h in
    let q : pos 0 <ℤ (e -ℤ c *ℤ a -ℤ d) = pos_sub d (e -ℤ c *ℤ a) k in omega (arith, ints))

-- it is a square
bound_from_a_square : (a b : ℤ) → (pos 2 *ℤ (a *ℤ b)) ≤ℤ (a *ℤ a +ℤ b *ℤ b)
bound_from_a_square a b =
    le_from (a ∷ b ∷ []) (lit (pos 2) :* (v0 :* v1)) (v0 :* v0 :+ v1 :* v1) ((v0 :- v1) :* (v0 :- v1)) refl
    (square_nonneg (a -ℤ b))

-- the left side less the right is a multiple of the premise's difference
equation_from_an_equation : (a b c d : ℤ) → a *ℤ d ≡ c *ℤ b → a *ℤ d *ℤ d ≡ c *ℤ (b *ℤ d)
equation_from_an_equation a b c d h =
    from_one (a ∷ b ∷ c ∷ d ∷ []) (v0 :* v3 :* v3) (v2 :* (v1 :* v3)) v3 (v0 :* v3) (v2 :* v1) refl h

-- ---- fractions
identity_of_fractions : (x y z : Fraction) → (x +ℚ y) *ℚ (x -ℚ y) -ℚ z *ℚ of_int (pos 2) ≡ x *ℚ x -ℚ (y *ℚ y +ℚ z +ℚ z)
identity_of_fractions x y z =
    Q.ring (x ∷ y ∷ z ∷ []) ((v0 :+ v1) :* (v0 :- v1) :- v2 :* lit (pos 2)) (v0 :* v0 :- (v1 :* v1 :+ v2 :+ v2)) refl

identity_with_no_difference : (x y z w : Fraction) → (x +ℚ y) *ℚ z +ℚ w ≡ w +ℚ (z *ℚ y +ℚ x *ℚ z)
identity_with_no_difference x y z w =
    simp (Q.ℚ-add-mul, Q.ℚ-mul_comm, Q.ℚ-add_assoc, Q.ℚ-add_comm, Solver.add_left_comm Q.ℚ_ring)

-- 3 x ≤ y + z and y ≤ 2 x - w give x ≤ z - w, as the sum of once each
bound_of_fractions_from_two : (x y z w : Fraction) → of_int (pos 3) *ℚ x ≤ℚ y +ℚ z
    → y ≤ℚ of_int (pos 2) *ℚ x -ℚ w → x ≤ℚ z -ℚ w
bound_of_fractions_from_two x y z w h k =
    le_two (x ∷ y ∷ z ∷ w ∷ []) v0 (v2 :- v3)
    (lit (pos 1)) (lit (pos 3) :* v0) (v1 :+ v2)
    (lit (pos 1)) v1 (lit (pos 2) :* v0 :- v3)
    refl (int_nonneg (pos 1) (omega (arith, ints))) h (int_nonneg (pos 1) (omega (arith, ints))) k

-- facts that are equations go to `cc` and `rw` as any
equation_among_others : (f : Fraction → ℕ) (x y z : Fraction) → x ≡ y +ℚ z → f (z +ℚ y) ≡ 3 → f x ≡ 3
equation_among_others f x y z p q = cc (Q.ℚ-add_comm y z)

rewriting_by_a_law : (f : Fraction → ℕ) (x y : Fraction) → f (y *ℚ x) ≡ 3 → f (x *ℚ y) ≡ 3
rewriting_by_a_law f x y q = rw (Q.ℚ-mul_comm x y) q

-- a law of fractions goes through `Is`, any pair that a fraction is read from, to one identity of whole numbers
law_through_pairs : (x y z : Fraction) → (x *ℚ y) *ℚ z ≡ x *ℚ (y *ℚ z)
law_through_pairs x y z =
    same_is (is_mul (is_mul (is_self x) (is_self y)) (is_self z)) (is_mul (is_self x) (is_mul (is_self y) (is_self z)))
    (omega (arith, ints, regrouped x.num y.num z.num (pos x.den) (pos y.den) (pos z.den)))
  where
    regrouped : (a b c d e f : ℤ) → a *ℤ b *ℤ c *ℤ (d *ℤ (e *ℤ f)) ≡ a *ℤ (b *ℤ c) *ℤ (d *ℤ e *ℤ f)
    regrouped a b c d e f = simp products refl

-- ---- closed numbers compute, where their operations are unfolded
closed_sum : of_pair (pos 1) 2 +ℚ of_pair (pos 1) 3 ≡ of_pair (pos 5) 6
unfolding ratio
closed_sum = refl

closed_product : of_pair (negsuc 5) 4 *ℚ of_pair (pos 10) 9 ≡ neg_ℚ (of_pair (pos 5) 3)
unfolding ratio
closed_product = refl

closed_quotient_of_many_digits : of_pair (negsuc 5) 4 /ℚ of_pair (negsuc 0) 1000000000000000000000
    ≡ of_int (pos 1500000000000000000000)
unfolding ratio
closed_quotient_of_many_digits = refl

closed_order : of_pair (pos 1) 3 ≤ℚ of_pair (pos 1) 2
unfolding ratio
closed_order = record { le = omega (arith, ints) }

closed_divisor : gcd 123456789012345678 987654321098765432 ≡ 2
unfolding gcd
closed_divisor = refl

-- at 8 bits 200/3 * 3/200 is kept, and 1/17 + 1/19 is 36/323, which is wide
kept_at_eight_bits : kept 255 (of_pair (pos 200) 3 *ℚ of_pair (pos 3) 200) ≡ Some (of_int (pos 1))
unfolding ratio
kept_at_eight_bits = refl

wide_at_eight_bits : kept 255 (of_pair (pos 1) 17 +ℚ of_pair (pos 1) 19) ≡ None
unfolding ratio
wide_at_eight_bits = refl
