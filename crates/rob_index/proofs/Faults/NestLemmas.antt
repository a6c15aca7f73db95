-- The greatest value of a form over a nest of ranges: it is never passed, and reached where every range has a value.
use Rattle.std.proofs.Common.{◌≡◌, suc, Bool, true, false, List, [], ◌∷◌, refl, arith}
use Rattle.std.specs.Prelude.{ℤ, pos, negsuc, ◌*ℤ◌, ◌≤ℤ◌, ◌<ℤ◌, ◌||◌, int_le, int_lt}
use Rattle.std.proofs.lemmas.Int.{ints}
use Rattle.rob_algebra.specs.Integer.{neg-mul}
use Rattle.rob_algebra.specs.IntegerOrder.{mul_le_mul}
use Rattle.rob_index.specs.Forms.{Form, weighed, value_of, first_factor, Ends, AreWithin, far_end, without, greatest, length_form, lack_form, all_run, is_dead}
use Rattle.rob_index.proofs.Faults.FormLemmas.{minus_is, outer_is, without_is}
use Rattle.rob_index.proofs.LinesRead.ListLemmas.{both_true}

pub le_from : (a b : ℤ) → int_le a b ≡ true → a ≤ℤ b
le_from a b h = grind (arith, ints)

pub le_to : (a b : ℤ) → a ≤ℤ b → int_le a b ≡ true
le_to a b h = grind (arith, ints)

pub lt_from : (a b : ℤ) → int_lt a b ≡ true → a <ℤ b
lt_from a b h = grind (arith, ints)

pub lt_not : (a b : ℤ) → int_lt a b ≡ false → b ≤ℤ a
lt_not a b h = grind (arith, ints)

pub no_values : (cs : List ℤ) → weighed cs [] ≡ pos 0
no_values [] = refl
no_values (c ∷ cs) = refl

-- c times a value is at most c times the far end
far : (c x : ℤ) (r : Ends) (xs : List ℤ) → value_of r.from xs ≤ℤ x → x ≤ℤ value_of r.upto xs
    → (c *ℤ x) ≤ℤ (c *ℤ value_of (far_end c r) xs)
far (pos c) x r xs h k = mul_le_mul (pos c) x (value_of r.upto xs) (omega (arith, ints)) k
far (negsuc c) x r xs h k =
    let m = mul_le_mul (pos (suc c)) (value_of r.from xs) x (omega (arith, ints)) h in
    let a = neg-mul (pos (suc c)) (value_of r.from xs) in
    let b = neg-mul (pos (suc c)) x in
    omega (arith, ints, m, a, b)

pub never_over : (rs : List Ends) (f : Form) (xs : List ℤ) → AreWithin rs xs → value_of f xs ≤ℤ greatest rs f
never_over [] f [] w = let h = no_values f.factors in omega (arith, ints, h)
never_over [] f (x ∷ xs) w = absurd w
never_over (r ∷ rs) f [] w = absurd w
never_over (r ∷ rs) f (x ∷ xs) w =
    let h = far (first_factor f.factors) x r xs w.1 w.2 in
    let k = never_over rs (without r f) xs w.0 in
    omega (arith, ints, h, k, outer_is f x xs, without_is r f xs)

-- between the ends
ends_meet : (c : ℤ) (r : Ends) (xs : List ℤ) → value_of r.from xs ≤ℤ value_of r.upto xs
    → (value_of r.from xs ≤ℤ value_of (far_end c r) xs) × (value_of (far_end c r) xs ≤ℤ value_of r.upto xs)
ends_meet (pos c) r xs h = (h, omega (arith, ints))
ends_meet (negsuc c) r xs h = (omega (arith, ints), h)

pub attained : (rs : List Ends) (f : Form) → all_run rs ≡ true
    → (xs : List ℤ) × AreWithin rs xs × (value_of f xs ≡ greatest rs f)
attained [] f h = ([], tt, let e = no_values f.factors in omega (arith, ints, e))
attained (r ∷ rs) f h =
    let b = both_true (int_le (greatest rs (lack_form r)) (pos 0)) (all_run rs) h in
    let i = attained rs (without r f) b.1 in
    let low = never_over rs (lack_form r) i.0 i.1 in
    let none = le_from (greatest rs (lack_form r)) (pos 0) b.0 in
    let run : value_of r.from i.0 ≤ℤ value_of r.upto i.0 = omega (arith, ints, low, none, minus_is r.from r.upto i.0) in
    let ends = ends_meet (first_factor f.factors) r i.0 run in
    let x = value_of (far_end (first_factor f.factors) r) i.0 in
    (x ∷ i.0, (i.1, ends.0, ends.1), omega (arith, ints, i.2, outer_is f x i.0, without_is r f i.0))

pub dead : (rs : List Ends) (xs : List ℤ) → is_dead rs ≡ true → AreWithin rs xs → ⊥
dead [] xs h w = cc
dead (r ∷ rs) [] h w = w
dead (r ∷ rs) (x ∷ xs) h w = go (int_lt (greatest rs (length_form r)) (pos 0)) refl h (dead rs xs)
  where
    go : (b : Bool) → int_lt (greatest rs (length_form r)) (pos 0) ≡ b → (b || is_dead rs) ≡ true
        → (is_dead rs ≡ true → AreWithin rs xs → ⊥) → ⊥
    go true e h f =
        let l = lt_from (greatest rs (length_form r)) (pos 0) e in
        let k = never_over rs (length_form r) xs w.0 in
        omega (arith, ints, l, k, minus_is r.upto r.from xs, w.1, w.2)
    go false e h f = f h w.0
