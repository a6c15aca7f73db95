-- The words of a line: the first one, and those behind its space.
use Rattle.std.proofs.Common.{◌≡◌, ℕ, ◌+◌, ◌≤◌, Bool, true, false, ltb, eqb, ℤ, List, [], ◌∷◌, ◌++◌, length, refl, sym, ap, ◌∙◌, arith, Some, None}
use Rattle.std.specs.Prelude.{option_map, option_and_then, filter}
use Rattle.std.proofs.lemmas.Bool.{ltb-true, ltb-false}
use Rattle.std.specs.List.{slice_split, position_or_len}
use Rattle.std.proofs.Math.ListN.{drop_of_length-le}
use Rattle.std.proofs.lemmas.List.{append-nil, take_all}
use Rattle.std.proofs.lemmas.List.Splits.{slice_split_first}
use Rattle.std.proofs.lemmas.List.Elements.{filter-append}
use Rattle.rob_case.specs.Texts.{keyword_of, rest_of}
use Rattle.rob_case.specs.Numbers.{is_filled, of_all, words, whole_of, wholes_of}
use Rattle.rob_case.proofs.StepLemmas.{grown, none_from, of_all-append}

-- a space
abbrev is_space : ℕ → Bool
is_space byte = eqb byte 32

module _ {X : Type 0} (p : X → Bool) where
  more : (x : X) (xs : List X) (v : Bool) → p x ≡ v → length (x ∷ xs) ≤ position_or_len p (x ∷ xs)
      → (length xs ≤ position_or_len p xs → slice_split p xs ≡ xs ∷ []) → slice_split p (x ∷ xs) ≡ (x ∷ xs) ∷ []
  more x xs true e h rest = let k : length (x ∷ xs) ≤ 0 = rw e at h in absurd (omega arith)
  more x xs false e h rest =
      let k : length (x ∷ xs) ≤ 1 + position_or_len p xs = rw e at h in
      rw e (rw (rest (omega arith)) refl)

  -- a list in which none passes is one piece
  pub one_piece : (xs : List X) → length xs ≤ position_or_len p xs → slice_split p xs ≡ xs ∷ []
  one_piece [] h = refl
  one_piece (x ∷ xs) h = more x xs (p x) refl h (one_piece xs)

step : (line : List ℕ) (v : Bool) → ltb (position_or_len is_space line) (length line) ≡ v
    → words line ≡ filter is_filled (keyword_of line ∷ []) ++ words (rest_of line)
step line true e =
    ap (filter is_filled) (slice_split_first is_space line 0 (ltb-true _ _ e))
    ∙ filter-append is_filled (keyword_of line ∷ []) (slice_split is_space (rest_of line))
step line false e =
    let past : length line ≤ position_or_len is_space line = omega (arith, ltb-false _ _ e) in
    let front : keyword_of line ≡ line = take_all _ line past in
    let back : rest_of line ≡ [] = drop_of_length-le line (omega arith) in
    rw (front, back, append-nil) (ap (filter is_filled) (one_piece is_space line past))

-- the words of a line are the keyword, if there is one, and those behind it
pub words_step : (line : List ℕ) → words line ≡ filter is_filled (keyword_of line ∷ []) ++ words (rest_of line)
words_step line = step line (ltb (position_or_len is_space line) (length line)) refl

-- and so are their numbers
wholes_parts : (line : List ℕ) → wholes_of line
    ≡ option_and_then (λ some. option_map (λ more. some ++ more) (wholes_of (rest_of line)))
    (of_all whole_of (filter is_filled (keyword_of line ∷ [])))
wholes_parts line =
    ap (of_all whole_of) (words_step line)
    ∙ of_all-append whole_of (filter is_filled (keyword_of line ∷ [])) (words (rest_of line))

module _ (line word rest : List ℕ) (front : word ≡ keyword_of line) (back : rest ≡ rest_of line) (done : List ℤ) where
  -- the number in front is taken, and those of the rest are left
  pub wholes_more : (new : List ℤ)
      → option_map (λ more. done ++ more) (of_all whole_of (filter is_filled (word ∷ []))) ≡ Some new
      → option_map (λ more. new ++ more) (wholes_of rest) ≡ option_map (λ more. done ++ more) (wholes_of line)
  wholes_more new e =
      let taken =
      ap (λ w. option_map (λ more. done ++ more) (of_all whole_of (filter is_filled (w ∷ [])))) (sym front) ∙ e in
      rw (back, wholes_parts line)
      (grown done new (of_all whole_of (filter is_filled (keyword_of line ∷ []))) (wholes_of (rest_of line)) taken)

  -- the word in front is no number
  pub wholes_stop : option_map (λ more. done ++ more) (of_all whole_of (filter is_filled (word ∷ []))) ≡ None
      → option_map (λ more. done ++ more) (wholes_of line) ≡ None
  wholes_stop e =
      let none : of_all whole_of (filter is_filled (keyword_of line ∷ [])) ≡ None =
      ap (λ w. of_all whole_of (filter is_filled (w ∷ []))) (sym front) ∙ none_from (λ more. done ++ more) _ e in
      rw (wholes_parts line, none) refl
