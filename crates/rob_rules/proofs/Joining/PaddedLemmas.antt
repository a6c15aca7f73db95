-- A list, and one value behind it until there are so many items.
use Rattle.std.proofs.Common.{◌≡◌, ℕ, zero, suc, ◌+◌, ◌-◌, ◌<◌, ◌≤◌, List, [], ◌∷◌, ◌++◌, length, get_or, Option, None, refl, ap, ◌∙◌, arith, append-nil, append_assoc, length-append}
use Rattle.std.specs.Prelude.{replicate}
use Rattle.std.proofs.lemmas.List.{length_push, length-replicate}
use Rattle.rob_index.specs.Statements.{Name}
use Rattle.rob_rules.specs.declared.sort.Sort.{Sort}
use Rattle.rob_rules.specs.Names.{widened}
use Rattle.rob_rules.specs.Scopes.{Earlier}
use Rattle.rob_rules.specs.Stages.{padded}

-- one more value
pub padded_more : {A : Type 0} (count : ℕ) (x : A) (xs : List A) → length xs < count
    → padded count x (xs ++ x ∷ []) ≡ padded count x xs
padded_more count x xs few =
    let next : suc (count - (length xs + 1)) ≡ count - length xs = omega (arith, few) in
    ap (λ (k : ℕ). (xs ++ x ∷ []) ++ replicate (count - k) x) (length_push xs x)
    ∙ append_assoc xs (x ∷ []) (replicate (count - (length xs + 1)) x)
    ∙ ap (λ (k : ℕ). xs ++ replicate k x) next

-- there are enough
pub padded_all : {A : Type 0} (count : ℕ) (x : A) (xs : List A) → count ≤ length xs → padded count x xs ≡ xs
padded_all count x xs enough =
    let none : count - length xs ≡ 0 = omega (arith, enough) in
    ap (λ (k : ℕ). xs ++ replicate k x) none ∙ append-nil xs

pub length-padded : {A : Type 0} (count : ℕ) (x : A) (xs : List A) → length xs ≤ count
    → length (padded count x xs) ≡ count
length-padded count x xs few =
    length-append xs (replicate (count - length xs) x)
    ∙ ap (λ (k : ℕ). length xs + k) (length-replicate (count - length xs) x) ∙ omega (arith, few)

-- one value at each place, and past the end
pub get_or-blank : {A : Type 0} (x : A) (n k : ℕ) → get_or (replicate n x) k x ≡ x
get_or-blank x zero k = refl
get_or-blank x (suc n) zero = refl
get_or-blank x (suc n) (suc k) = get_or-blank x n k

-- what stands at a place, or the value past the end
pub get_or-padded : {A : Type 0} (x : A) (xs : List A) (n k : ℕ) → get_or (xs ++ replicate n x) k x ≡ get_or xs k x
get_or-padded x [] n k = get_or-blank x n k
get_or-padded x (y ∷ xs) n zero = refl
get_or-padded x (y ∷ xs) n (suc k) = get_or-padded x xs n k

-- what is known, with what names stand for padded to as many words
pub widened_by : (words : List Name) (count : ℕ) (e : Earlier) (sorts : List (Option Sort)) → count ≡ length words
    → sorts ≡ padded count None e.sorts → record e { sorts = sorts } ≡ widened words e
widened_by words count e sorts count_is sorts_are =
    ap (λ (l : List (Option Sort)). record e { sorts = l })
    (sorts_are ∙ ap (λ (k : ℕ). padded k None e.sorts) count_is)
