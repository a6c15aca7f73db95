-- The bytes of `times N TEXT`, by what its number and its text are.
use Rattle.std.proofs.Common.{◌≡◌, ℕ, List, [], ◌++◌, Option, Some, None, Result, IsErrAnd, refl, sym, ap, ◌∙◌, subst}
use Rattle.std.specs.Prelude.{option_map, option_and_then}
use Rattle.rob_case.specs.Answers.{Appends, Explains}
use Rattle.rob_case.specs.Cases.{times_bytes}
use Rattle.rob_case.specs.Numbers.{small_of}
use Rattle.rob_case.specs.Texts.{keyword_of, rest_of, repeated, spelled}
use Rattle.rob_case.specs.declared.trouble.Trouble.{Trouble}
use Rattle.rob_case.proofs.AnswerLemmas.{explains_whole, raised}
use Rattle.rob_case.proofs.StepLemmas.{none_from}

-- a piece so many times, where both are there
abbrev of_both : Option (List ℕ) → Option ℕ → Option (List ℕ)
of_both piece count = option_and_then (λ n. option_map (λ bytes. repeated n bytes) piece) count

no_piece : (count : Option ℕ) → of_both None count ≡ None
no_piece None = refl
no_piece (Some n) = refl

behind_nothing : (wanted : Option (List ℕ)) → option_map (λ more. [] ++ more) wanted ≡ wanted
behind_nothing None = refl
behind_nothing (Some bytes) = refl

module _ (rest word text : List ℕ) (front : word ≡ keyword_of rest) (back : text ≡ rest_of rest) where
  parts : times_bytes rest ≡ of_both (spelled text) (small_of word)
  parts =
      ap (λ w. of_both (spelled (rest_of rest)) (small_of w)) (sym front)
      ∙ ap (λ t. of_both (spelled t) (small_of word)) (sym back)

  module _ {T : Type 0} (old new : List ℕ) (r : Result T Trouble) where
    -- the word in front is no number
    pub times_uncounted : (e : Trouble) → IsErrAnd r (λ f. f ≡ e) → Explains (small_of word) e
        → Appends old (times_bytes rest) new r
    times_uncounted e h w =
        raised _ _ _ _ h
        (explains_whole (small_of word) (option_map (λ more. old ++ more) (times_bytes rest)) _
        (λ none. ap (option_map (λ more. old ++ more)) (parts ∙ ap (of_both (spelled text)) none)) w)

    -- the text spells no bytes
    pub times_unspelled : (start : List ℕ) (e : Trouble) → IsErrAnd r (λ f. f ≡ e)
        → Explains (option_map (λ more. start ++ more) (spelled text)) e → Appends old (times_bytes rest) new r
    times_unspelled start e h w =
        raised _ _ _ _ h
        (explains_whole (option_map (λ more. start ++ more) (spelled text))
        (option_map (λ more. old ++ more) (times_bytes rest)) _
        (λ none. ap (option_map (λ more. old ++ more)) (parts
        ∙ ap (λ p. of_both p (small_of word)) (none_from (λ more. start ++ more) (spelled text) none)
        ∙ no_piece (small_of word))) w)

    -- the piece is appended as often as the number says
    pub times_repeated : (start piece : List ℕ) (count : ℕ) → small_of word ≡ Some count → start ≡ []
        → option_map (λ more. start ++ more) (spelled text) ≡ Some piece
        → Appends old (Some (repeated count piece)) new r → Appends old (times_bytes rest) new r
    times_repeated start piece count e empty p h =
        let bytes : spelled text ≡ Some piece =
        sym (behind_nothing (spelled text))
        ∙ ap (λ (s : List ℕ). option_map (λ more. s ++ more) (spelled text)) (sym empty) ∙ p in
        subst (λ (w : Option (List ℕ)). Appends old w new r)
        (sym (parts ∙ ap (λ p. of_both p (small_of word)) bytes ∙ ap (of_both (Some piece)) e)) h
