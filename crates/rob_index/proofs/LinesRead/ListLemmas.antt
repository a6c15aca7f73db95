-- Items of lists, and tests on lists.
use Rattle.std.proofs.Common.{◌≡◌, ℕ, zero, suc, Bool, true, false, List, [], ◌∷◌, ◌++◌, map, ◌⊎◌, inl, inr, refl, sym, ap, ◌∙◌, subst, arith}
use Rattle.std.specs.Prelude.{ℤ, pos, negsuc, ◌+ℤ◌, ◌-ℤ◌, ◌≤ℤ◌, ◌<ℤ◌, ◌||◌, ◌&&◌}
use Rattle.std.specs.List.{list_any, flat_map}
use Rattle.std.proofs.lemmas.Int.{ints, by_lt_z}
use Rattle.std.proofs.lemmas.List.Folds.{list_any-append}
use Rattle.rob_index.specs.Membership.{Among, here, there}
use Rattle.rob_index.specs.Settings.{natural, count, upwards}

-- ---- truth values
pub both_true : (a b : Bool) → (a && b) ≡ true → (a ≡ true) × (b ≡ true)
both_true true b h = (refl, h)
both_true false b h = cc

pub true_both : {a b : Bool} → a ≡ true → b ≡ true → (a && b) ≡ true
true_both {a} {b} h k = λ i. h i && k i

pub or_false : (a : Bool) → (a || false) ≡ a
or_false true = refl
or_false false = refl

pub or_assoc : (a b c : Bool) → ((a || b) || c) ≡ (a || (b || c))
or_assoc true b c = refl
or_assoc false b c = refl

pub or_swap : (a b c d : Bool) → ((a || b) || (c || d)) ≡ ((a || c) || (b || d))
or_swap true b c d = refl
or_swap false true true d = refl
or_swap false true false d = refl
or_swap false false c d = refl

pub same_truth : (a b : Bool) → (a ≡ true → b ≡ true) → (b ≡ true → a ≡ true) → a ≡ b
same_truth true true f g = refl
same_truth true false f g = sym (f refl)
same_truth false true f g = g refl
same_truth false false f g = refl

-- ---- tests on lists
pub any_true : {A : Type 0} (p : A → Bool) (xs : List A) → list_any p xs ≡ true → (x : A) × Among x xs × (p x ≡ true)
any_true p [] h = cc
any_true {A = A} p (x ∷ xs) h = go (p x) refl h (any_true p xs)
  where
    go : (b : Bool) → p x ≡ b → (b || list_any p xs) ≡ true
        → (list_any p xs ≡ true → (y : A) × Among y xs × (p y ≡ true)) → (y : A) × Among y (x ∷ xs) × (p y ≡ true)
    go true e h f = (x, here, e)
    go false e h f = let r = f h in (r.0, there r.1, r.2)

pub or_true : (b : Bool) → (b || true) ≡ true
or_true true = refl
or_true false = refl

pub any_from : {A : Type 0} (p : A → Bool) (xs : List A) (x : A) → Among x xs → p x ≡ true → list_any p xs ≡ true
any_from p [] x m e = elim m [ ]
any_from p (z ∷ zs) x here e = rw e
any_from p (z ∷ zs) x (there m) e = rw (any_from p zs x m e) (or_true (p z))

pub any_same : {A : Type 0} (p q : A → Bool) → ((x : A) → p x ≡ q x) → (xs : List A) → list_any p xs ≡ list_any q xs
any_same p q h [] = refl
any_same p q h (x ∷ xs) = rw (h x, any_same p q h xs)

pub any_flat : {A B : Type 0} (p : B → Bool) (f : A → List B) (xs : List A)
    → list_any p (flat_map f xs) ≡ list_any (λ x. list_any p (f x)) xs
any_flat p f [] = refl
any_flat p f (x ∷ xs) =
    list_any-append p (f x) (flat_map f xs) ∙ ap (λ (b : Bool). list_any p (f x) || b) (any_flat p f xs)

pub any_map : {A B : Type 0} (p : B → Bool) (f : A → B) (xs : List A)
    → list_any p (map f xs) ≡ list_any (λ x. p (f x)) xs
any_map p f [] = refl
any_map p f (x ∷ xs) = rw (any_map p f xs)

-- ---- items
pub among_append : {A : Type 0} (y : A) (xs ys : List A) → Among y (xs ++ ys) → Among y xs ⊎ Among y ys
among_append y [] ys m = inr m
among_append y (x ∷ xs) ys here = inl here
among_append y (x ∷ xs) ys (there m) = elim (among_append y xs ys m) [ inl a ↦ inl (there a) | inr b ↦ inr b ]

pub among_first : {A : Type 0} (y : A) (xs ys : List A) → Among y xs → Among y (xs ++ ys)
among_first y [] ys m = elim m [ ]
among_first y (x ∷ xs) ys here = here
among_first y (x ∷ xs) ys (there m) = there (among_first y xs ys m)

pub among_second : {A : Type 0} (y : A) (xs ys : List A) → Among y ys → Among y (xs ++ ys)
among_second y [] ys m = m
among_second y (x ∷ xs) ys m = there (among_second y xs ys m)

pub among_flat : {A B : Type 0} (f : A → List B) (xs : List A) (y : B) → Among y (flat_map f xs)
    → (x : A) × Among x xs × Among y (f x)
among_flat f [] y m = elim m [ ]
among_flat f (x ∷ xs) y m = elim (among_append y (f x) (flat_map f xs) m) [
  | inl a ↦ (x, here, a)
  | inr b ↦ let r = among_flat f xs y b in (r.0, there r.1, r.2)
]

pub flat_among : {A B : Type 0} (f : A → List B) (xs : List A) (x : A) (y : B) → Among x xs → Among y (f x)
    → Among y (flat_map f xs)
flat_among f [] x y m n = elim m [ ]
flat_among f (z ∷ xs) x y here n = among_first y (f z) (flat_map f xs) n
flat_among f (z ∷ xs) x y (there m) n = among_second y (f z) (flat_map f xs) (flat_among f xs x y m n)

-- ---- numbers upwards
pub natural_is : (z : ℤ) → pos 0 ≤ℤ z → pos (natural z) ≡ z
natural_is (pos n) h = refl
natural_is (negsuc n) h = absurd (omega (arith, ints))

pub natural_low : (z : ℤ) → z ≤ℤ pos 0 → natural z ≡ 0
natural_low (pos n) h = omega (arith, ints)
natural_low (negsuc n) h = refl

pub upwards_within : (n : ℕ) (a v : ℤ) → Among v (upwards a n) → (a ≤ℤ v) × (v <ℤ (a +ℤ pos n))
upwards_within zero a v m = elim m [ ]
upwards_within (suc n) a v here = (omega (arith, ints), omega (arith, ints))
upwards_within (suc n) a v (there m) =
    let h = upwards_within n (a +ℤ pos 1) v m in (omega (arith, ints, h.0, h.1), omega (arith, ints, h.0, h.1))

pub within_upwards : (n : ℕ) (a v : ℤ) → a ≤ℤ v → v <ℤ (a +ℤ pos n) → Among v (upwards a n)
within_upwards zero a v h k = absurd (omega (arith, ints))
within_upwards (suc n) a v h k =
    by_lt_z a v
    (λ l. there (within_upwards n (a +ℤ pos 1) v (omega (arith, ints)) (omega (arith, ints))))
    (λ l. let e : v ≡ a = omega (arith, ints) in subst (λ (z : ℤ). Among z (a ∷ upwards (a +ℤ pos 1) n)) (sym e) here)

pub values_within : (a b v : ℤ) → Among v (upwards a (count a b)) → (a ≤ℤ v) × (v ≤ℤ b)
values_within a b v m =
    let h = upwards_within (count a b) a v m in
    by_lt_z (pos 0) ((b +ℤ pos 1) -ℤ a)
    (λ l. let e = natural_is ((b +ℤ pos 1) -ℤ a) (omega (arith, ints)) in (h.0, omega (arith, ints, h.1, e)))
    (λ l. let e = natural_low ((b +ℤ pos 1) -ℤ a) l in absurd (omega (arith, ints, h.0, h.1, e)))

pub within_values : (a b v : ℤ) → a ≤ℤ v → v ≤ℤ b → Among v (upwards a (count a b))
within_values a b v h k =
    let e = natural_is ((b +ℤ pos 1) -ℤ a) (omega (arith, ints)) in
    within_upwards (count a b) a v h (omega (arith, ints, e))
