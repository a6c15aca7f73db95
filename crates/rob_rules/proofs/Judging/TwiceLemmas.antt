-- A name stands twice where, on the way over a list, some name is among those that were seen before.
use Rattle.std.proofs.Common.{◌≡◌, ℕ, Bool, true, false, List, [], ◌∷◌, ◌++◌, refl, ap, ◌∙◌, arith}
use Rattle.std.specs.Prelude.{◌||◌, ◌==◌}
use Rattle.std.specs.List.{list_any}
use Rattle.std.proofs.lemmas.List.Folds.{list_any-append}
use Rattle.std.proofs.lemmas.Bool.Decides.{nat_tests}
use Rattle.rob_index.proofs.LinesRead.ListLemmas.{or_swap}
use Rattle.rob_rules.specs.declared.leaf.Leaf.{Leaf}
use Rattle.rob_rules.specs.declared.leaf.Leaf.TheVariants as leaf
use Rattle.rob_rules.specs.Faults.{is_name, has_twice}

-- some name there was seen already, or comes again
abbrev pub comes_again : List ℕ → List Leaf → Bool
comes_again seen [] = false
comes_again seen (leaf.Name k ∷ rest) = list_any (λ j. k == j) seen || comes_again (seen ++ k ∷ []) rest
comes_again seen (leaf.Number _ ∷ rest) = comes_again seen rest

-- it is a name that was seen
abbrev is_seen : List ℕ → Leaf → Bool
is_seen seen (leaf.Name k) = list_any (λ j. k == j) seen
is_seen seen _ = false

same_either_way : (j k : ℕ) → (j == k) || false ≡ (k == j)
same_either_way j k = grind (arith, nat_tests)

one_more : (seen : List ℕ) (k : ℕ) (s : Leaf) → is_seen (seen ++ k ∷ []) s ≡ is_seen seen s || is_name k s
one_more seen k (leaf.Name j) =
    list_any-append (λ i. j == i) seen (k ∷ []) ∙ ap (λ b. list_any (λ i. j == i) seen || b) (same_either_way j k)
one_more seen k (leaf.Number _) = refl

regroup_more : (a b c d : Bool) → a || ((b || c) || d) ≡ (a || b) || (c || d)
regroup_more true b c d = refl
regroup_more false true c d = refl
regroup_more false false c d = refl

any_more : (seen : List ℕ) (k : ℕ) (rest : List Leaf)
    → list_any (is_seen (seen ++ k ∷ [])) rest ≡ list_any (is_seen seen) rest || list_any (is_name k) rest
any_more seen k [] = refl
any_more seen k (s ∷ rest) =
    (λ i. one_more seen k s i || any_more seen k rest i)
    ∙ or_swap (is_seen seen s) (is_name k s) (list_any (is_seen seen) rest) (list_any (is_name k) rest)

again : (seen : List ℕ) (rest : List Leaf) → comes_again seen rest ≡ list_any (is_seen seen) rest || has_twice rest
again seen [] = refl
again seen (leaf.Name k ∷ rest) =
    ap (λ b. list_any (λ j. k == j) seen || b)
    (again (seen ++ k ∷ []) rest ∙ ap (λ b. b || has_twice rest) (any_more seen k rest))
    ∙ regroup_more (list_any (λ j. k == j) seen) (list_any (is_seen seen) rest) (list_any (is_name k) rest)
    (has_twice rest)
again seen (leaf.Number _ ∷ rest) = again seen rest

none_seen : (rest : List Leaf) → list_any (is_seen []) rest ≡ false
none_seen [] = refl
none_seen (leaf.Name _ ∷ rest) = none_seen rest
none_seen (leaf.Number _ ∷ rest) = none_seen rest

-- where none was seen, a name comes again exactly where one stands twice
pub comes_again_is : (rest : List Leaf) → comes_again [] rest ≡ has_twice rest
comes_again_is rest = again [] rest ∙ ap (λ b. b || has_twice rest) (none_seen rest)
