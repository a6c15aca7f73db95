-- The first line of a text.
use Rattle.std.proofs.Common.{◌≡◌, ◌<◌, ◌≤◌, ◌+◌, inl, inr, ℕ, zero, suc, true, false, List, [], ◌∷◌, length, take, drop, Some, None, position, refl, ap, ◌∙◌, arith}
use Rattle.std.specs.List.{position_or_len}
use Rattle.std.proofs.lemmas.Bool.{cases_Bool}
use Rattle.std.proofs.lemmas.Bool.Decides.{nat_tests}
use Rattle.std.proofs.Math.Seq.{take-length, drop-length}
use Rattle.rob_top.specs.Lines.{in_front, is_line_end, text_lines}

-- how many bytes stand before the first line end, or in all
abbrev before : List ℕ → ℕ
before text = position_or_len is_line_end text

before_end : (byte : ℕ) (text : List ℕ) → is_line_end byte ≡ true → before (byte ∷ text) ≡ 0
before_end byte text is = rw is refl

before_other : (byte : ℕ) (text : List ℕ) → is_line_end byte ≡ false → before (byte ∷ text) ≡ 1 + before text
before_other byte text other = rw other refl

lines_end : (byte : ℕ) (text : List ℕ) → is_line_end byte ≡ true
    → text_lines (byte ∷ text) ≡ (byte ∷ []) ∷ text_lines text
lines_end byte text is = rw is refl

lines_other : (byte : ℕ) (text : List ℕ) → is_line_end byte ≡ false
    → text_lines (byte ∷ text) ≡ in_front byte (text_lines text)
lines_other byte text other = rw other refl

-- the first line of the text has so many bytes before its line end
abbrev Begins : List ℕ → ℕ → Type 0
Begins text count = text_lines text ≡ take (suc count) text ∷ text_lines (drop (suc count) text)

begins_end : (byte : ℕ) (text : List ℕ) (count : ℕ) → is_line_end byte ≡ true → count ≡ before (byte ∷ text)
    → Begins (byte ∷ text) count
begins_end byte text zero is e = lines_end byte text is
begins_end byte text (suc count) is e =
    let none : suc count ≡ 0 = e ∙ before_end byte text is in absurd (omega (arith, none))

begins_other : (byte : ℕ) (text : List ℕ) (count : ℕ) → ((n : ℕ) → n ≡ before text → n < length text → Begins text n)
    → is_line_end byte ≡ false → count ≡ before (byte ∷ text) → count < length (byte ∷ text)
    → Begins (byte ∷ text) count
begins_other byte text zero rest other e less =
    let some : 0 ≡ 1 + before text = e ∙ before_other byte text other in absurd (omega (arith, some))
begins_other byte text (suc count) rest other e less =
    let more : suc count ≡ 1 + before text = e ∙ before_other byte text other in
    lines_other byte text other ∙ ap (in_front byte) (rest count (omega (arith, more)) (omega arith))

-- the first line ends with the first line end
begins : (text : List ℕ) (count : ℕ) → count ≡ before text → count < length text → Begins text count
begins [] count e less = absurd (omega arith)
begins (byte ∷ text) count e less =
    elim (cases_Bool (is_line_end byte)) as (λ _. Begins (byte ∷ text) count) [
      | inl is ↦ begins_end byte text count is e
      | inr other ↦ begins_other byte text count (begins text) other e less
    ]

alone_other : (byte : ℕ) (text : List ℕ) → (0 < length text → length text ≤ before text → text_lines text ≡ text ∷ [])
    → is_line_end byte ≡ false → length (byte ∷ text) ≤ before (byte ∷ text)
    → text_lines (byte ∷ text) ≡ (byte ∷ text) ∷ []
alone_other byte [] rest other most = lines_other byte [] other
alone_other byte (next ∷ text) rest other most =
    let more : before (byte ∷ next ∷ text) ≡ 1 + before (next ∷ text) = before_other byte (next ∷ text) other in
    lines_other byte (next ∷ text) other ∙ ap (in_front byte) (rest (omega arith) (omega (arith, more)))

-- a text without a line end is one line
alone : (text : List ℕ) → 0 < length text → length text ≤ before text → text_lines text ≡ text ∷ []
alone [] some most = absurd (omega arith)
alone (byte ∷ text) some most =
    elim (cases_Bool (is_line_end byte)) as (λ _. text_lines (byte ∷ text) ≡ (byte ∷ text) ∷ []) [
      | inl is ↦ let none : before (byte ∷ text) ≡ 0 = before_end byte text is in absurd (omega (arith, none))
      | inr other ↦ alone_other byte text (alone text) other most
    ]

-- where a line end is found, the text up to it is the first line
pub first_line_at : (text line behind : List ℕ) (count : ℕ) → Some count ≡ position is_line_end text
    → line ≡ take (count + 1) text
    → behind ≡ drop (count + 1) text → text_lines text ≡ line ∷ text_lines behind
first_line_at text line behind count e front back =
    let here : (count ≡ before text) × (count < length text) = grind (arith, nat_tests) in
    let next : count + 1 ≡ suc count = omega arith in cc (begins text count here.0 here.1, next, front, back)

-- where none is found, the whole text is
pub first_line_all : (text line behind : List ℕ) → 0 < length text → None ≡ position is_line_end text
    → line ≡ take (length text) text → behind ≡ drop (length text) text → text_lines text ≡ line ∷ text_lines behind
first_line_all text line behind some e front back =
    let most : length text ≤ before text = grind (arith, nat_tests) in
    let whole : line ≡ text = front ∙ take-length text in let none : behind ≡ [] = back ∙ drop-length text in
    cc (alone text some most, whole, none)
