-- A loop's step: what is done so far, with what is left, is the whole.
use Rattle.std.proofs.Common.{◌≡◌, ℕ, suc, ◌+◌, ◌<◌, ◌≤◌, List, [], ◌∷◌, ◌++◌, length, drop, get_or, map, Option, Some, None, refl, sym, ap, ◌∙◌, add-one, drop-cons, length-append, arith}
use Rattle.std.specs.Prelude.{option_map, option_and_then}
use mathlib.Core.List.{append_assoc}
use Rattle.std.proofs.Math.ListN.{drop_of_length-le}
use Rattle.std.proofs.lemmas.List.{append-nil}
use Rattle.std.specs.Fmt.{decimal}
use Rattle.rob_case.specs.Numbers.{of_all}
use Rattle.rob_case.specs.Texts.{all_numbered, repeated}

module _ {X : Type 0} where
  -- some are done, and then those in front of what is left
  pub grows_by : (done new : List X) (first behind : Option (List X)) → first ≡ Some new
      → option_map (λ more. (done ++ new) ++ more) behind
      ≡ option_map (λ more. done ++ more) (option_and_then (λ some. option_map (λ more. some ++ more) behind) first)
  grows_by done new first None e = rw e refl
  grows_by done new first (Some more) e = rw e (ap Some (append_assoc done new more))

  -- the same, where what is done by then is told
  pub grown : (done new : List X) (first behind : Option (List X)) → option_map (λ more. done ++ more) first ≡ Some new
      → option_map (λ more. new ++ more) behind
      ≡ option_map (λ more. done ++ more) (option_and_then (λ some. option_map (λ more. some ++ more) behind) first)
  grown done new None behind h = absurd cc
  grown done new (Some n) behind h =
      let e : done ++ n ≡ new = cc in
      ap (λ (b : List X). option_map (λ more. b ++ more) behind) (sym e) ∙ grows_by done n (Some n) behind refl

  -- one is done, and then what is left
  pub grows : (done : List X) (x : X) (behind : Option (List X))
      → option_map (λ more. (done ++ x ∷ []) ++ more) behind
      ≡ option_map (λ more. done ++ more) (option_map (λ more. x ∷ more) behind)
  grows done x None = refl
  grows done x (Some more) = ap Some (append_assoc done (x ∷ []) more)

-- one item more is there
pub one_longer : {X : Type 0} (xs new : List X) (x : X) (n : ℕ) → new ≡ xs ++ x ∷ [] → length xs ≡ n → length new ≡ n + 1
one_longer xs new x n e l = ap length e ∙ simp length-append (omega arith)

-- where nothing comes of it, there was nothing
pub none_from : {X Y : Type 0} (f : X → Y) (wanted : Option X) → option_map f wanted ≡ None → wanted ≡ None
none_from f None h = refl
none_from f (Some x) h = absurd cc

-- a list of what a function gives of each item
module _ {X Y : Type 0} (f : X → Option Y) where
  nothing_before : (ys : Option (List Y)) → option_map (λ more. [] ++ more) ys ≡ ys
  nothing_before None = refl
  nothing_before (Some ys) = refl

  onto : (first : Option Y) (xs ys : Option (List Y))
      → option_and_then
      (λ y. option_map (λ more. y ∷ more) (option_and_then (λ some. option_map (λ more. some ++ more) ys) xs)) first
      ≡ option_and_then (λ some. option_map (λ more. some ++ more) ys)
      (option_and_then (λ y. option_map (λ more. y ∷ more) xs) first)
  onto None xs ys = refl
  onto (Some y) None ys = refl
  onto (Some y) (Some xs) None = refl
  onto (Some y) (Some xs) (Some ys) = refl

  pub of_all-append : (xs ys : List X)
      → of_all f (xs ++ ys) ≡ option_and_then (λ some. option_map (λ more. some ++ more) (of_all f ys)) (of_all f xs)
  of_all-append [] ys = sym (nothing_before (of_all f ys))
  of_all-append (x ∷ xs) ys = rw (of_all-append xs ys) (onto (f x) (of_all f xs) (of_all f ys))

  -- one item more is done
  pub of_all-next : (done new : List Y) (xs : List X) (i : ℕ) (d : X) (y : Y) → i < length xs → f (get_or xs i d) ≡ Some y
      → new ≡ done ++ y ∷ []
      → option_map (λ more. new ++ more) (of_all f (drop (i + 1) xs))
      ≡ option_map (λ more. done ++ more) (of_all f (drop i xs))
  of_all-next done new xs i d y l e n =
      rw (n, drop-cons xs i d, e, add-one) (grows done y (of_all f (drop (suc i) xs)))

  -- of one there is nothing
  pub of_all-stop : (xs : List X) (i : ℕ) (d : X) → i < length xs → f (get_or xs i d) ≡ None
      → of_all f (drop i xs) ≡ None
  of_all-stop xs i d l e = rw (drop-cons xs i d, e) refl

  -- all are done
  pub of_all-done : (done : List Y) (xs : List X) (i : ℕ) → length xs ≤ i
      → option_map (λ more. done ++ more) (of_all f (drop i xs)) ≡ Some done
  of_all-done done xs i l = rw (drop_of_length-le xs l) (ap Some (append-nil done))

map_one : {X Y : Type 0} (f : X → Y) (xs : List X) (x : X) → map f (xs ++ x ∷ []) ≡ map f xs ++ f x ∷ []
map_one f [] x = refl
map_one f (z ∷ xs) x = ap (λ more. f z ∷ more) (map_one f xs x)

-- a function at one item more
pub map_behind : {X Y : Type 0} (f : X → Y) (xs new : List X) (x : X) → new ≡ xs ++ x ∷ [] → map f new ≡ map f xs ++ f x ∷ []
map_behind f xs new x e = rw e (map_one f xs x)

-- one more piece
pub one_more_piece : (old now piece : List ℕ) (n : ℕ) → now ≡ old ++ repeated n piece
    → now ++ piece ≡ old ++ repeated (n + 1) piece
one_more_piece old now piece n e = rw (e, add-one n) (append_assoc old (repeated n piece) piece)

-- one more numbered line
pub one_more_line : (old now : List ℕ) (n : ℕ) (front back : List ℕ) → now ≡ old ++ all_numbered n front back
    → now ++ (front ++ (decimal n ++ (back ++ 10 ∷ []))) ≡ old ++ all_numbered (n + 1) front back
one_more_line old now n front back e = rw (e, add-one n) (simp append_assoc)

-- bytes with a line end behind them
pub one_line : (old new : List ℕ) (wanted : Option (List ℕ)) → option_map (λ more. old ++ more) wanted ≡ Some new
    → option_map (λ more. old ++ more) (option_map (λ bytes. bytes ++ 10 ∷ []) wanted) ≡ Some (new ++ 10 ∷ [])
one_line old new None h = absurd cc
one_line old new (Some more) h =
    let e : old ++ more ≡ new = cc in
    ap Some (sym (append_assoc old more (10 ∷ [])) ∙ ap (λ x. x ++ 10 ∷ []) e)
