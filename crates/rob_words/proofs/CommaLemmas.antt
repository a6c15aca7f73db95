-- The parts of a word between its commas.
use Rattle.std.proofs.Common.{◌≡◌, ◌<◌, ◌≤◌, ◌+◌, inl, inr, ℕ, zero, suc, true, false, [], ◌∷◌, length, take, drop, refl, ap, ◌∙◌, arith}
use Rattle.std.specs.List.{after_first, before_first, position_or_len}
use Rattle.std.proofs.lemmas.Bool.{cases_Bool}
use Rattle.rob_words.specs.Names.{in_front, is_comma, parts_of}
use Rattle.rob_words.specs.Values.{Word}

-- how many bytes stand in front of the first comma, or in all
abbrev before : Word → ℕ
before word = position_or_len is_comma word

before_comma : (byte : ℕ) (word : Word) → is_comma byte ≡ true → before (byte ∷ word) ≡ 0
before_comma byte word is = rw is refl

before_other : (byte : ℕ) (word : Word) → is_comma byte ≡ false → before (byte ∷ word) ≡ 1 + before word
before_other byte word other = rw other refl

parts_comma : (byte : ℕ) (word : Word) → is_comma byte ≡ true → parts_of (byte ∷ word) ≡ [] ∷ parts_of word
parts_comma byte word is = rw is refl

parts_other : (byte : ℕ) (word : Word) → is_comma byte ≡ false → parts_of (byte ∷ word) ≡ in_front byte (parts_of word)
parts_other byte word other = rw other refl

-- the first part of the word has so many bytes, and a comma behind it
abbrev Begins : Word → ℕ → Type 0
Begins word count = parts_of word ≡ take count word ∷ parts_of (drop (suc count) word)

begins_comma : (byte : ℕ) (word : Word) (count : ℕ) → is_comma byte ≡ true → count ≡ before (byte ∷ word)
    → Begins (byte ∷ word) count
begins_comma byte word zero is e = parts_comma byte word is
begins_comma byte word (suc count) is e =
    let none : suc count ≡ 0 = e ∙ before_comma byte word is in absurd (omega (arith, none))

begins_other : (byte : ℕ) (word : Word) (count : ℕ) → ((n : ℕ) → n ≡ before word → n < length word → Begins word n)
    → is_comma byte ≡ false → count ≡ before (byte ∷ word) → count < length (byte ∷ word) → Begins (byte ∷ word) count
begins_other byte word zero rest other e less =
    let some : 0 ≡ 1 + before word = e ∙ before_other byte word other in absurd (omega (arith, some))
begins_other byte word (suc count) rest other e less =
    let more : suc count ≡ 1 + before word = e ∙ before_other byte word other in
    parts_other byte word other ∙ ap (in_front byte) (rest count (omega (arith, more)) (omega arith))

begins : (word : Word) (count : ℕ) → count ≡ before word → count < length word → Begins word count
begins [] count e less = absurd (omega arith)
begins (byte ∷ word) count e less =
    elim (cases_Bool (is_comma byte)) as (λ _. Begins (byte ∷ word) count) [
      | inl is ↦ begins_comma byte word count is e
      | inr other ↦ begins_other byte word count (begins word) other e less
    ]

alone_other : (byte : ℕ) (word : Word) → (length word ≤ before word → parts_of word ≡ word ∷ [])
    → is_comma byte ≡ false → length (byte ∷ word) ≤ before (byte ∷ word) → parts_of (byte ∷ word) ≡ (byte ∷ word) ∷ []
alone_other byte word rest other most =
    let more : before (byte ∷ word) ≡ 1 + before word = before_other byte word other in
    parts_other byte word other ∙ ap (in_front byte) (rest (omega (arith, more)))

-- a word without a comma is its only part
alone : (word : Word) → length word ≤ before word → parts_of word ≡ word ∷ []
alone [] most = refl
alone (byte ∷ word) most =
    elim (cases_Bool (is_comma byte)) as (λ _. parts_of (byte ∷ word) ≡ (byte ∷ word) ∷ []) [
      | inl is ↦ let none : before (byte ∷ word) ≡ 0 = before_comma byte word is in absurd (omega (arith, none))
      | inr other ↦ alone_other byte word (alone word) other most
    ]

-- where a comma stands in the word, what stands in front of it is the first part
pub first_part_at : (word part behind : Word) → position_or_len is_comma word < length word
    → part ≡ before_first is_comma word
    → behind ≡ after_first is_comma word → parts_of word ≡ part ∷ parts_of behind
first_part_at word part behind less front back =
    let next : before word + 1 ≡ suc (before word) = omega arith in
    cc (begins word (before word) refl less, next, front, back)

-- where none does, the whole word is
pub first_part_all : (word : Word) → position_or_len is_comma word ≡ length word → parts_of word ≡ word ∷ []
first_part_all word e = alone word (omega (arith, e))
