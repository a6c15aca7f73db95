-- The names among names and numbers: where they are distinct, none stands there twice.
use Rattle.std.proofs.Common.{◌≡◌, ◌≢◌, ℕ, Bool, List, [], ◌∷◌, ◌++◌, map, false, refl, ap, ◌∙◌, arith}
use Rattle.std.specs.Prelude.{◌==◌, ◌||◌}
use Rattle.std.specs.List.{list_any}
use Rattle.std.proofs.lemmas.Bool.Decides.{nat_tests}
use Rattle.rob_meaning.specs.Named.{AreDistinct}
use Rattle.rob_meaning.specs.Places.{Each}
use Rattle.rob_rules.specs.Faults.{has_twice, is_name}
use Rattle.rob_rules.specs.declared.leaf.Leaf.{Leaf}
use Rattle.rob_rules.specs.declared.leaf.Leaf.TheVariants.{Name, Number}

-- the numbers of the names, in order
abbrev pub names_in : List Leaf → List ℕ
names_in [] = []
names_in (Name k ∷ xs) = k ∷ names_in xs
names_in (Number n ∷ xs) = names_in xs

pub names_in-append : (xs ys : List Leaf) → names_in (xs ++ ys) ≡ names_in xs ++ names_in ys
names_in-append [] ys = refl
names_in-append (Name k ∷ xs) ys = ap (λ (l : List ℕ). k ∷ l) (names_in-append xs ys)
names_in-append (Number n ∷ xs) ys = names_in-append xs ys

pub names_in-names : (ks : List ℕ) → names_in (map Name ks) ≡ ks
names_in-names [] = refl
names_in-names (k ∷ ks) = ap (λ (l : List ℕ). k ∷ l) (names_in-names ks)

not_same : (k j : ℕ) → k ≢ j → (k == j) ≡ false
not_same k j h = grind (arith, nat_tests)

other_names : (k : ℕ) (xs : List Leaf) → Each (λ j. k ≢ j) (names_in xs) → list_any (is_name k) xs ≡ false
other_names k [] h = refl
other_names k (Name j ∷ xs) h =
    ap (λ (b : Bool). b || list_any (is_name k) xs) (not_same k j h.0) ∙ other_names k xs h.1
other_names k (Number n ∷ xs) h = other_names k xs h

-- distinct names are no name twice
pub once : (xs : List Leaf) → AreDistinct (names_in xs) → has_twice xs ≡ false
once [] h = refl
once (Name k ∷ xs) h = ap (λ (b : Bool). b || has_twice xs) (other_names k xs h.0) ∙ once xs h.1
once (Number n ∷ xs) h = once xs h
