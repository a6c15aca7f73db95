-- The limits that a word spells, read from the left.
use Rattle.std.proofs.Common.{◌≡◌, ◌<◌, ◌≤◌, ◌∙◌, ℕ, pos, List, [], ◌∷◌, ◌++◌, ◌+◌, length, map, Option, None, Some, refl, ap, sym, subst, arith}
use Rattle.rob_algebra.specs.Fraction.{Fraction, of_pair}
use Rattle.rob_top.proofs.Telling.ToldLemmas as lists
use Rattle.rob_top.specs.Swept.{limit_value}
use Rattle.rob_words.proofs.LimitLemmas.{FitsLimit, limit_fits}
use Rattle.rob_words.specs.Limits.{IsLimit, IsLimitList, denominator_of, numerator_of}
use Rattle.rob_words.specs.Names.{most_in_list, parts_behind, parts_of}
use Rattle.rob_words.specs.Values.{Word}

-- the words spell these limits
abbrev Spell : List Word → List Fraction → Type 0
Spell words limits = limits ≡ map limit_value words

-- of all words those in front of the rest spell these limits, as many as a list
-- may have at most; the rest are limits, where all are
abbrev pub HasTold : ℕ → List Word → List Fraction → List Word → Type 0
HasTold greatest all limits rest = lists.HasTold (IsLimit greatest) Spell most_in_list all limits rest

-- ---- a word alone, of which this was read with the greatest number as it was seen
module _ (seen greatest : ℕ) (same : seen ≡ greatest) (word : Word) where
  pub no_limit_seen : (IsLimit seen word → ⊥) → IsLimit greatest word → ⊥
  no_limit_seen none h = none (subst (λ k. IsLimit k word) (sym same) h)

  module _ (numerator denominator : ℕ)
      (read : IsLimit seen word × ((numerator ≡ numerator_of word) × (denominator ≡ denominator_of word))) where
    is_limit : IsLimit greatest word
    is_limit = subst (λ k. IsLimit k word) same read.0

    pub parts_fit : 1 ≤ greatest → (numerator ≤ greatest) × ((denominator ≤ greatest) × (0 < denominator))
    parts_fit least =
        let fits : FitsLimit greatest word = limit_fits greatest word least is_limit in (
          subst (λ n. n ≤ greatest) (sym read.1.0) fits.numerator,
          (subst (λ n. n ≤ greatest) (sym read.1.1) fits.denominator, subst (λ n. 0 < n) (sym read.1.1) fits.positive),
        )

    pub value_read : (limit : Fraction) → limit ≡ of_pair (pos numerator) denominator
        → IsLimit greatest word × (limit ≡ limit_value word)
    value_read limit is = (
      is_limit,
      is ∙ ap (λ n. of_pair (pos n) denominator) read.1.0 ∙ ap (λ n. of_pair (pos (numerator_of word)) n) read.1.1,
    )

-- ---- the words of a list
module _ (greatest : ℕ) where
  pub told_all : (all : List Word) (limits : List Fraction) (o : Option Word)
      → HasTold greatest all limits (parts_behind o) → o ≡ None
      → limits ≡ map limit_value all
  told_all all limits o read is =
      lists.told_all (IsLimit greatest) Spell most_in_list all limits
      (lists.told_end (IsLimit greatest) Spell most_in_list all limits o read is) refl

  module _ (all : List Word) (limits : List Fraction) where
    -- the next word stands in front of the rest
    pub told_part : (o : Option Word) (word first : Word) (behind : Option Word)
        → HasTold greatest all limits (parts_behind o)
        → o ≡ Some word → parts_of word ≡ first ∷ parts_behind behind
        → HasTold greatest all limits (first ∷ parts_behind behind)
    told_part = lists.told_part (IsLimit greatest) Spell most_in_list all limits

    module _ (first : Word) (rest : List Word) (read : HasTold greatest all limits (first ∷ rest)) where
      -- it spells one limit more
      pub told_more : (limit : Fraction) → limit ≡ limit_value first → (length limits ≡ most_in_list → ⊥)
          → HasTold greatest all (limits ++ limit ∷ []) rest
      told_more limit is more =
          lists.told_more (IsLimit greatest) Spell most_in_list all limits first rest read limit
          (λ list h. ap (λ x. x ∷ list) is ∙ ap (λ xs. limit_value first ∷ xs) h)
          (λ list h. (map limit_value rest, refl)) more

      -- it is no limit
      pub no_limit : (word : Word) → all ≡ parts_of word → (IsLimit greatest first → ⊥) → IsLimitList greatest word → ⊥
      no_limit word is none list =
          none (lists.next_part (IsLimit greatest) Spell most_in_list all limits first rest read word is list)

      -- it stands behind as many as a list may have
      pub too_many : (word : Word) → all ≡ parts_of word → length limits ≡ most_in_list → IsLimitList greatest word → ⊥
      too_many word is full list =
          let counted : length limits + length (first ∷ rest) ≡ length all = read.counted in
          absurd (omega (arith, counted, ap length is, full, list.few))
