-- The fast judgement of rules 26 and 27 is the plain one.
use Rattle.std.proofs.Common.{◌≡◌, ℕ, ◌==◌, ◌<◌, Bool, true, false, List, [], ◌∷◌, ◌++◌, map, refl, sym, ap, ◌∙◌, arith}
use Rattle.std.specs.Prelude.{ℤ, pos, ◌+ℤ◌, ◌-ℤ◌, ◌*ℤ◌, ◌||◌, int_le, int_lt, nat_lt, if◌then◌else◌}
use Rattle.std.specs.List.{list_any, flat_map}
use Rattle.std.proofs.lemmas.Int.{ints, by_lt_z}
use Rattle.std.proofs.lemmas.Bool.{ltb-true, lt-ltb}
use Rattle.rob_index.specs.Statements.{Atom, digits, bound, Step, Index, Range}
use Rattle.rob_index.specs.Settings.{Setting, value_at, atom_value, signed_value, steps_value, index_value, count, values, with_value, settings}
use Rattle.rob_index.specs.Forms.{weighed, value_of, minus, length_form, values_of, extensions}
use Rattle.rob_index.specs.Places.{Place, of_ref, of_range, Inside}
use Rattle.rob_index.specs.Rules.{is_long_at, is_out_at, is_long, is_out}
use Rattle.rob_index.specs.Fast.{setting_of, unit_at, atom_form, sign_factor, nothing, steps_form, index_form, ends_of, nest_of, names_in, goes_over, goes_below, grows_long, is_long_fast, is_out_fast}
use Rattle.rob_index.proofs.LinesRead.ListLemmas.{any_same, any_map, or_swap, same_truth, natural_is, natural_low}
use Rattle.rob_index.proofs.Faults.FormLemmas.{plus_times_is, minus_is}
use Rattle.rob_index.proofs.Faults.NestLemmas.{le_from, le_to}
use Rattle.rob_index.proofs.Faults.DecisionLemmas.{reaches_is}

-- ---- an index is its form
unit_is : (names : List ℕ) (xs : List ℤ) (k : ℕ) → value_at (setting_of names xs) k ≡ weighed (unit_at names k) xs
unit_is [] xs k = refl
unit_is (n ∷ ns) [] k = go (n == k)
  where
    go : (b : Bool) → pos 0 ≡ weighed (if b then (pos 1 ∷ []) else (pos 0 ∷ unit_at ns k)) []
    go true = refl
    go false = refl
unit_is (n ∷ ns) (x ∷ xs) k = go (n == k) (unit_is ns xs k)
  where
    go : (b : Bool) → value_at (setting_of ns xs) k ≡ weighed (unit_at ns k) xs
        → (if b then x else value_at (setting_of ns xs) k)
        ≡ weighed (if b then (pos 1 ∷ []) else (pos 0 ∷ unit_at ns k)) (x ∷ xs)
    go true h = omega (arith, ints)
    go false h = omega (arith, ints, h)

atom_is : (names : List ℕ) (xs : List ℤ) (a : Atom)
    → atom_value (setting_of names xs) a ≡ value_of (atom_form names a) xs
atom_is names xs (digits n) = omega (arith, ints)
atom_is names xs (bound k) = let h = unit_is names xs k in omega (arith, ints, h)

steps_are : (names : List ℕ) (xs : List ℤ) (ss : List Step)
    → steps_value (setting_of names xs) ss ≡ value_of (steps_form names ss) xs
steps_are names xs [] = omega (arith, ints)
steps_are names xs (s ∷ ss) =
    let h = plus_times_is (steps_form names ss) (sign_factor s.minus) (atom_form names s.atom) xs in
    go s.minus (atom_value (setting_of names xs) s.atom) (value_of (atom_form names s.atom) xs)
    (steps_are names xs ss) (atom_is names xs s.atom) ∙ sym h
  where
    go : (m : Bool) (a b : ℤ) → steps_value (setting_of names xs) ss ≡ value_of (steps_form names ss) xs → a ≡ b
        → (signed_value m a +ℤ steps_value (setting_of names xs) ss)
        ≡ (value_of (steps_form names ss) xs +ℤ (sign_factor m *ℤ b))
    go true a b h k = omega (arith, ints, h, k)
    go false a b h k = omega (arith, ints, h, k)

pub index_is : (names : List ℕ) (xs : List ℤ) (x : Index)
    → index_value (setting_of names xs) x ≡ value_of (index_form names x) xs
index_is names xs x =
    let h = plus_times_is (steps_form names x.more) (pos 1) (atom_form names x.first) xs in
    let a = atom_is names xs x.first in
    let b = steps_are names xs x.more in
    omega (arith, ints, h, a, b)

-- ---- the settings are the values within the ends
map_append : {A B : Type 0} (f : A → B) (xs ys : List A) → map f (xs ++ ys) ≡ map f xs ++ map f ys
map_append f [] ys = refl
map_append f (x ∷ xs) ys = ap (λ (l : List _). f x ∷ l) (map_append f xs ys)

pub map_flat : {A B C : Type 0} (f : B → C) (g : A → List B) (xs : List A)
    → map f (flat_map g xs) ≡ flat_map (λ x. map f (g x)) xs
map_flat f g [] = refl
map_flat f g (x ∷ xs) = map_append f (g x) (flat_map g xs) ∙ ap (λ (l : List _). map f (g x) ++ l) (map_flat f g xs)

pub flat_same : {A B : Type 0} (f g : A → List B) → ((x : A) → f x ≡ g x) → (xs : List A)
    → flat_map f xs ≡ flat_map g xs
flat_same f g h [] = refl
flat_same f g h (x ∷ xs) = rw (h x, flat_same f g h xs)

pub values_are : (names : List ℕ) (vs : List ℤ) (r : Range)
    → values (setting_of names vs) r ≡ values_of (ends_of names r) vs
values_are names vs r = let a = index_is names vs r.from in let b = index_is names vs r.upto in rw (a, b)

pub settings_are : (rs : List Range) (names : List ℕ) (vs : List ℤ)
    → settings rs (setting_of names vs) ≡ map (setting_of (names_in names rs)) (extensions (nest_of names rs) vs)
settings_are [] names vs = refl
settings_are (r ∷ rs) names vs =
    ap (λ (l : List ℤ). flat_map (λ v. settings rs (with_value r (setting_of names vs) v)) l) (values_are names vs r)
    ∙ flat_same (λ v. settings rs (with_value r (setting_of names vs) v))
    (λ v. map (setting_of (names_in (r.name ∷ names) rs)) (extensions (nest_of (r.name ∷ names) rs) (v ∷ vs)))
    (λ v. settings_are rs (r.name ∷ names) (v ∷ vs)) (values_of (ends_of names r) vs)
    ∙ sym (map_flat (setting_of (names_in (r.name ∷ names) rs))
    (λ v. extensions (nest_of (r.name ∷ names) rs) (v ∷ vs)) (values_of (ends_of names r) vs))

-- a test on settings is one on values
any_setting : (p : Setting → Bool) (rs : List Range)
    → list_any p (settings rs [])
    ≡ list_any (λ xs. p (setting_of (names_in [] rs) xs)) (extensions (nest_of [] rs) [])
any_setting p rs = ap (list_any p) (settings_are rs [] [])
    ∙ any_map p (setting_of (names_in [] rs)) (extensions (nest_of [] rs) [])

-- ---- the tests
long_is : (a b : ℤ) → nat_lt 100 (count a b) ≡ int_le (pos 100) (b -ℤ a)
long_is a b = same_truth (nat_lt 100 (count a b)) (int_le (pos 100) (b -ℤ a)) forth back
  where
    forth : nat_lt 100 (count a b) ≡ true → int_le (pos 100) (b -ℤ a) ≡ true
    forth h =
        let k : 100 < count a b = ltb-true 100 (count a b) h in
        by_lt_z (pos 0) ((b +ℤ pos 1) -ℤ a)
        (λ l. let e = natural_is ((b +ℤ pos 1) -ℤ a) (omega (arith, ints)) in le_to (pos 100) (b -ℤ a)
        (omega (arith, ints, e, k)))
        (λ l. let e = natural_low ((b +ℤ pos 1) -ℤ a) l in absurd (omega (arith, e, k)))

    back : int_le (pos 100) (b -ℤ a) ≡ true → nat_lt 100 (count a b) ≡ true
    back h =
        let l = le_from (pos 100) (b -ℤ a) h in
        let e = natural_is ((b +ℤ pos 1) -ℤ a) (omega (arith, ints)) in
        let k : 100 < count a b = omega (arith, ints, e, l) in
        lt-ltb 100 (count a b) k

over_is : (v : ℤ) → int_lt (pos 999) v ≡ int_le (pos 1000) v
over_is v = grind (arith, ints)

below_is : (v : ℤ) → int_lt v (pos 0) ≡ int_le (pos 1) (pos 0 -ℤ v)
below_is v = grind (arith, ints)

any_either : {A : Type 0} (p q : A → Bool) (xs : List A)
    → list_any (λ x. p x || q x) xs ≡ (list_any p xs || list_any q xs)
any_either p q [] = refl
any_either p q (x ∷ xs) = rw (any_either p q xs) (or_swap (p x) (q x) (list_any p xs) (list_any q xs))

-- ---- the rules
pub grows_is : (around : List Range) (r : Range) → list_any (is_long_at r) (settings around []) ≡ grows_long around r
grows_is around r =
    any_setting (is_long_at r) around
    ∙ any_same (λ xs. is_long_at r (setting_of (names_in [] around) xs))
    (λ xs. int_le (pos 100) (value_of (length_form (ends_of (names_in [] around) r)) xs)) each
    (extensions (nest_of [] around) [])
    ∙ sym (reaches_is (nest_of [] around) [] (length_form (ends_of (names_in [] around) r)) (pos 100))
  where
    each : (xs : List ℤ) → is_long_at r (setting_of (names_in [] around) xs)
        ≡ int_le (pos 100) (value_of (length_form (ends_of (names_in [] around) r)) xs)
    each xs =
        let a = index_is (names_in [] around) xs r.from in
        let b = index_is (names_in [] around) xs r.upto in
        let m = minus_is (index_form (names_in [] around) r.upto) (index_form (names_in [] around) r.from) xs in
        let e : index_value (setting_of (names_in [] around) xs) r.upto -ℤ index_value
        (setting_of (names_in [] around) xs) r.from
        ≡ value_of (length_form (ends_of (names_in [] around) r)) xs = omega (arith, ints, a, b, m) in
        long_is (index_value (setting_of (names_in [] around) xs) r.from)
        (index_value (setting_of (names_in [] around) xs) r.upto) ∙ ap (int_le (pos 100)) e

pub out_is : (around : List Range) (x : Index)
    → list_any (is_out_at x) (settings around []) ≡ (goes_below around x || goes_over around x)
out_is around x =
    any_either (λ setting. int_lt (index_value setting x) (pos 0)) (λ setting. int_lt (pos 999) (index_value setting x))
    (settings around [])
    ∙ both low high
  where
    both : {a b c d : Bool} → a ≡ c → b ≡ d → (a || b) ≡ (c || d)
    both e f = λ i. e i || f i

    low : list_any (λ setting. int_lt (index_value setting x) (pos 0)) (settings around []) ≡ goes_below around x
    low =
        any_setting (λ setting. int_lt (index_value setting x) (pos 0)) around
        ∙ any_same (λ xs. int_lt (index_value (setting_of (names_in [] around) xs) x) (pos 0))
        (λ xs. int_le (pos 1) (value_of (minus nothing (index_form (names_in [] around) x)) xs)) (λ xs.
        let a = index_is (names_in [] around) xs x in
        let m = minus_is nothing (index_form (names_in [] around) x) xs in
        let e : pos 0 -ℤ index_value (setting_of (names_in [] around) xs) x
        ≡ value_of (minus nothing (index_form (names_in [] around) x)) xs = omega (arith, ints, a, m) in
        below_is (index_value (setting_of (names_in [] around) xs) x) ∙ ap (int_le (pos 1)) e)
        (extensions (nest_of [] around) [])
        ∙ sym (reaches_is (nest_of [] around) [] (minus nothing (index_form (names_in [] around) x)) (pos 1))

    high : list_any (λ setting. int_lt (pos 999) (index_value setting x)) (settings around []) ≡ goes_over around x
    high =
        any_setting (λ setting. int_lt (pos 999) (index_value setting x)) around
        ∙ any_same (λ xs. int_lt (pos 999) (index_value (setting_of (names_in [] around) xs) x))
        (λ xs. int_le (pos 1000) (value_of (index_form (names_in [] around) x) xs)) (λ xs.
        over_is (index_value (setting_of (names_in [] around) xs) x)
        ∙ ap (int_le (pos 1000)) (index_is (names_in [] around) xs x)) (extensions (nest_of [] around) [])
        ∙ sym (reaches_is (nest_of [] around) [] (index_form (names_in [] around) x) (pos 1000))

pub is_long_is : (i : Inside) → is_long i ≡ is_long_fast i
is_long_is i = go i.place
  where
    go : (p : Place) → is_long (record { around = i.around; place = p })
        ≡ is_long_fast (record { around = i.around; place = p })
    go (of_ref x) = refl
    go (of_range r) = grows_is i.around r

pub is_out_is : (i : Inside) → is_out i ≡ is_out_fast i
is_out_is i = go i.place
  where
    go : (p : Place) → is_out (record { around = i.around; place = p })
        ≡ is_out_fast (record { around = i.around; place = p })
    go (of_ref x) = out_is i.around x
    go (of_range r) = refl
