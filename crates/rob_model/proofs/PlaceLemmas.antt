-- The groups of names by their numbers.
use Rattle.std.proofs.Common.{◌≡◌, ℕ, zero, suc, ◌+◌, ◌-◌, ◌<◌, ◌≤◌, List, [], ◌∷◌, ◌++◌, map, length, get_or, arith, refl, ap, sym, ◌∙◌, length-append}
use Rattle.std.specs.Prelude.{Option, Some, slice_get, option_map}
use Rattle.std.proofs.lemmas.List.{length-map}
use Rattle.std.proofs.lemmas.Option.{slice_get-map, slice_get-get_or}
use Rattle.rob_algebra.specs.Fraction.{Fraction}
use Rattle.rob_meaning.specs.Names.{Name}
use Rattle.rob_meaning.specs.RobustModel.{Parameter, SetLine}
use Rattle.rob_model.specs.NameGroups.{groups_by_number}
use Rattle.rob_model.specs.View.{parameter_of, set_line_of}
use Rattle.rob_model.specs.declared.model.Param.{Param}
use Rattle.rob_model.specs.declared.model.SetLine.{SetLine as SetLineOf}

module _ {A : Type 0} where
  -- an item of the first list, and of the second
  first_list : (xs rest : List A) (i : ℕ) (o : A) → slice_get xs i ≡ Some o → slice_get (xs ++ rest) i ≡ Some o
  first_list [] rest i o h = cc
  first_list (x ∷ xs) rest zero o h = h
  first_list (x ∷ xs) rest (suc i) o h = first_list xs rest i o h

  pub second_list : (xs rest : List A) (n i : ℕ) (o : Option A) → n ≡ length xs → n ≤ i → slice_get rest (i - n) ≡ o
      → slice_get (xs ++ rest) i ≡ o
  second_list xs rest n i o e h is = by xs i n e h is
    where
      by : (xs : List A) (i n : ℕ) → n ≡ length xs → n ≤ i → slice_get rest (i - n) ≡ o → slice_get (xs ++ rest) i ≡ o
      by [] i n e h is = ap (slice_get rest) (let same : i ≡ i - n = omega arith in same) ∙ is
      by (x ∷ xs) zero n e h is = absurd (omega arith)
      by (x ∷ xs) (suc i) n e h is =
          by xs i (n - 1) (omega arith) (omega arith)
          (ap (slice_get rest) (let same : i - (n - 1) ≡ suc i - n = omega arith in same) ∙ is)

module _ {X Z A : Type 0} (f : X → Z) (g : Z → A) (ys xs : List X) (same : xs ≡ ys) (i : ℕ) (h : i < length xs) (x : X)
    (is : x ≡ get_or xs i x) where
  -- the item of a list that is mapped twice
  pub mapped : slice_get (map g (map f ys)) i ≡ Some (g (f x))
  mapped =
      slice_get-map g (map f ys) i
      ∙ ap (option_map g) (slice_get-map f ys i
      ∙ ap (option_map f) (ap (λ (zs : List X). slice_get zs i) (sym same)
      ∙ slice_get-get_or xs i x h ∙ ap Some (sym is)))

  pub mapped_first : (rest : List A) → slice_get (map g (map f ys) ++ rest) i ≡ Some (g (f x))
  mapped_first rest = first_list (map g (map f ys)) rest i (g (f x)) mapped

-- ---- statements by number
by_number_at : (names : ℕ → SetLine → List Name) (n : ℕ) (cs : List SetLine) (i : ℕ)
    → slice_get (groups_by_number names n cs) i ≡ option_map (names (n + i)) (slice_get cs i)
by_number_at names n [] i = refl
by_number_at names n (c ∷ cs) zero = ap (λ k. Some (names k c)) (let e : n ≡ n + 0 = omega arith in e)
by_number_at names n (c ∷ cs) (suc i) =
    by_number_at names (suc n) cs i
    ∙ ap (λ k. option_map (names k) (slice_get cs i)) (let e : suc n + i ≡ n + suc i = omega arith in e)

pub length-by_number : (names : ℕ → SetLine → List Name) (n : ℕ) (cs : List SetLine)
    → length (groups_by_number names n cs) ≡ length cs
length-by_number names n [] = refl
length-by_number names n (c ∷ cs) = ap suc (length-by_number names (suc n) cs)

module _ {N : Type 0} (value : N → Fraction) (names : ℕ → SetLine → List Name) (ys xs : List (SetLineOf N))
    (same : xs ≡ ys) (i number : ℕ) (h : i < length xs)
    (number_is : number ≡ i + 1) (x : SetLineOf N) (is : x ≡ get_or xs i x) where
  pub statement : slice_get (groups_by_number names 1 (map (set_line_of value) ys)) i
      ≡ Some (names number (set_line_of value x))
  statement =
      by_number_at names 1 (map (set_line_of value) ys) i
      ∙ ap (option_map (names (1 + i))) (slice_get-map (set_line_of value) ys i
      ∙ ap (option_map (set_line_of value))
      (ap (λ (zs : List (SetLineOf N)). slice_get zs i) (sym same) ∙ slice_get-get_or xs i x h ∙ ap Some (sym is)))
      ∙ ap (λ k. Some (names k (set_line_of value x))) (let e : 1 + i ≡ number = omega arith in e)

  pub statement_first : (rest : List (List Name))
      → slice_get (groups_by_number names 1 (map (set_line_of value) ys) ++ rest) i
      ≡ Some (names number (set_line_of value x))
  statement_first rest =
      first_list (groups_by_number names 1 (map (set_line_of value) ys)) rest i
      (names number (set_line_of value x)) statement

-- ---- lengths
pub mapped_length : {X Z A : Type 0} (f : X → Z) (g : Z → A) (ys xs : List X) → xs ≡ ys
    → length xs ≡ length (map g (map f ys))
mapped_length f g ys xs same = ap length same ∙ sym (length-map ys f) ∙ sym (length-map (map f ys) g)

pub statement_length : {N : Type 0} (value : N → Fraction) (names : ℕ → SetLine → List Name)
    (ys xs : List (SetLineOf N)) → xs ≡ ys
    → length xs ≡ length (groups_by_number names 1 (map (set_line_of value) ys))
statement_length value names ys xs same =
    ap length same ∙ sym (length-map ys (set_line_of value))
    ∙ sym (length-by_number names 1 (map (set_line_of value) ys))

-- what is not in the first list is in the second
pub inside_second : {A : Type 0} (xs rest : List A) (i n k : ℕ) → i < length (xs ++ rest) → n ≡ length xs → n ≤ i
    → k ≡ length rest → i - n < k
inside_second xs rest i n k h e is f = omega (arith, length-append xs rest)

-- ---- a place behind the groups of the parameters
module _ {N : Type 0} (value : N → Fraction) (g : Parameter → List Name) (names : ℕ → SetLine → List Name)
    {declared ps : List (Param N)} {stated cs : List (SetLineOf N)} (params : ps ≡ declared) (lines : cs ≡ stated)
    (i : ℕ) (behind : length ps ≤ i) where
  -- it is a statement's
  pub statement_inside : i < length (map g (map (parameter_of value) declared)
      ++ groups_by_number names 1 (map (set_line_of value) stated)) → i - length ps < length cs
  statement_inside inside =
      inside_second (map g (map (parameter_of value) declared))
      (groups_by_number names 1 (map (set_line_of value) stated)) i (length ps) (length cs) inside
      (mapped_length (parameter_of value) g declared ps params) behind (statement_length value names stated cs lines)

  -- whose names stand there
  pub statement_behind : (number : ℕ) (l : SetLineOf N) → i - length ps < length cs → number ≡ i - length ps + 1
      → l ≡ get_or cs (i - length ps) l → slice_get (map g (map (parameter_of value) declared)
      ++ groups_by_number names 1 (map (set_line_of value) stated)) i ≡ Some (names number (set_line_of value l))
  statement_behind number l inside is at =
      second_list (map g (map (parameter_of value) declared))
      (groups_by_number names 1 (map (set_line_of value) stated)) (length ps) i
      (Some (names number (set_line_of value l))) (mapped_length (parameter_of value) g declared ps params) behind
      (statement value names stated cs lines (i - length ps) number inside is l at)
