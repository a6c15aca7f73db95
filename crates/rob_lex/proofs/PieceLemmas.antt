-- The piece at the front of some bytes is one.
use Rattle.std.proofs.Common.{◌≡◌, ◌≢◌, ℕ, zero, suc, ◌<◌, ◌≤◌, true, false, cond, eqb, List, [], ◌∷◌, ◌++◌, length, get_or, take, drop, refl, sym, ap, ◌∙◌, subst, arith}
use Rattle.std.proofs.lemmas.Bool.Decides.{nat_tests}
use Rattle.rob_lex.specs.declared.token.Kind.TheVariants.{Word, Digits, Sign, LineEnd}
use Rattle.rob_lex.specs.declared.piece.Shape.{Shape}
use Rattle.rob_lex.specs.declared.piece.Shape.TheVariants.{Lexeme, Gap, Comment}
use Rattle.rob_lex.specs.Bytes.{begins_word, goes_on_word, is_digit, is_no_line_end, is_gap, is_short_sign, begins_long_sign}
use Rattle.rob_lex.specs.Pieces.{IsRun, Stands, BeginsNoPiece}
use Rattle.rob_lex.specs.declared.piece.Found.{Found}
use Rattle.rob_lex.specs.Found.{IsFound, BeginsNoShortPiece}
use Rattle.rob_lex.proofs.Runs.{one_run}

-- the shape of a piece that begins with this byte
shape_of : ℕ → Shape
shape_of b =
    cond (begins_word b) (Lexeme Word)
    (cond (is_digit b) (Lexeme Digits)
    (cond (eqb b 35) Comment
    (cond (eqb b 10) (Lexeme LineEnd)
    (cond (is_gap b) Gap (Lexeme Sign)))))

digit_shape : (b : ℕ) → is_digit b ≡ true → shape_of b ≡ Lexeme Digits
unfolding shape_of
digit_shape b h = grind (arith, nat_tests)

gap_shape : (b : ℕ) → is_gap b ≡ true → shape_of b ≡ Gap
unfolding shape_of
gap_shape b h = grind (arith, nat_tests)

short_sign_shape : (b : ℕ) → is_short_sign b ≡ true → shape_of b ≡ Lexeme Sign
unfolding shape_of
short_sign_shape b h = grind (arith, nat_tests)

long_sign_shape : (b : ℕ) → begins_long_sign b ≡ true → shape_of b ≡ Lexeme Sign
unfolding shape_of
long_sign_shape b h = grind (arith, nat_tests)

not_both_signs : (b : ℕ) → is_short_sign b ≡ true → begins_long_sign b ≡ true → ⊥
not_both_signs b h k = grind (arith, nat_tests)

shape_is : (s : Shape) (b : ℕ) (bytes after : List ℕ) → Stands s (b ∷ bytes) after → shape_of b ≡ s
unfolding shape_of
shape_is (Lexeme Word) b bytes after h = rw h.0 refl
shape_is (Lexeme Digits) b bytes after h = digit_shape b h.0
shape_is (Lexeme Sign) b [] after h = short_sign_shape b h
shape_is (Lexeme Sign) b (c ∷ []) after h = long_sign_shape b h.0
shape_is (Lexeme Sign) b (c ∷ d ∷ bytes) after h = absurd h
shape_is (Lexeme LineEnd) b [] after h = rw h refl
shape_is (Lexeme LineEnd) b (c ∷ bytes) after h = absurd h
shape_is Gap b [] after h = gap_shape b h
shape_is Gap b (c ∷ bytes) after h = absurd h
shape_is Comment b bytes after h = rw h.0 refl

-- a piece has a first byte
pub some_bytes : (s : Shape) (after : List ℕ) → Stands s [] after → ⊥
some_bytes (Lexeme Word) after h = h
some_bytes (Lexeme Digits) after h = h
some_bytes (Lexeme Sign) after h = h
some_bytes (Lexeme LineEnd) after h = h
some_bytes Gap after h = h
some_bytes Comment after h = h

-- pieces of one shape at the front of one text are one
one_extent : (s : Shape) (b : ℕ) (xs ys after after' : List ℕ) → Stands s (b ∷ xs) after → Stands s (b ∷ ys) after'
    → xs ++ after ≡ ys ++ after' → (xs ≡ ys) × (after ≡ after')
one_extent (Lexeme Word) b xs ys after after' h k same = one_run goes_on_word xs ys after after' h.1 k.1 same
one_extent (Lexeme Digits) b xs ys after after' h k same = one_run is_digit xs ys after after' h.1 k.1 same
one_extent Comment b xs ys after after' h k same = one_run is_no_line_end xs ys after after' h.1 k.1 same
one_extent (Lexeme LineEnd) b [] [] after after' h k same = (refl, same)
one_extent (Lexeme LineEnd) b (c ∷ xs) ys after after' h k same = absurd h
one_extent (Lexeme LineEnd) b [] (c ∷ ys) after after' h k same = absurd k
one_extent Gap b [] [] after after' h k same = (refl, same)
one_extent Gap b (c ∷ xs) ys after after' h k same = absurd h
one_extent Gap b [] (c ∷ ys) after after' h k same = absurd k
one_extent (Lexeme Sign) b [] [] after after' h k same = (refl, same)
one_extent (Lexeme Sign) b (c ∷ []) (d ∷ []) after after' h k same = (cc, cc)
one_extent (Lexeme Sign) b [] (d ∷ []) after after' h k same = absurd (not_both_signs b h k.0)
one_extent (Lexeme Sign) b (c ∷ []) [] after after' h k same = absurd (not_both_signs b k h.0)
one_extent (Lexeme Sign) b (c ∷ e ∷ xs) ys after after' h k same = absurd h
one_extent (Lexeme Sign) b [] (d ∷ e ∷ ys) after after' h k same = absurd k
one_extent (Lexeme Sign) b (c ∷ []) (d ∷ e ∷ ys) after after' h k same = absurd k

-- one text has one piece at its front
pub one_piece : (s t : Shape) (xs ys after after' : List ℕ) → Stands s xs after → Stands t ys after'
    → xs ++ after ≡ ys ++ after' → (s ≡ t) × (xs ≡ ys) × (after ≡ after')
one_piece s t [] ys after after' h k same = absurd (some_bytes s after h)
one_piece s t (x ∷ xs) [] after after' h k same = absurd (some_bytes t after' k)
one_piece s t (x ∷ xs) (y ∷ ys) after after' h k same =
    let first : x ≡ y = cc in
    let shape : s ≡ t = sym (shape_is s x xs after h) ∙ ap shape_of first ∙ shape_is t y ys after' k in
    let k' : Stands s (x ∷ ys) after' =
    subst (λ (b : ℕ). Stands s (b ∷ ys) after') (sym first)
    (subst (λ (u : Shape). Stands u (y ∷ ys) after') (sym shape) k) in
    let rest = one_extent s x xs ys after after' h k' (cc) in
    (shape, cc, rest.1)

-- where none of the code's tests passes, no piece begins
pub no_piece : (bytes : List ℕ) (b : ℕ) (rest : List ℕ) → bytes ≡ b ∷ rest → begins_word b ≡ false → is_digit b ≡ false
    → b ≢ 35 → BeginsNoShortPiece bytes → BeginsNoPiece bytes
no_piece bytes b rest is no_word no_digit no_comment short shape xs after same stands =
    none b rest no_word no_digit no_comment (rw is at short) shape xs after (sym is ∙ same) stands
  where
    none : (b : ℕ) (rest : List ℕ) → begins_word b ≡ false → is_digit b ≡ false → b ≢ 35 → BeginsNoShortPiece (b ∷ rest)
        → (shape : Shape) (xs after : List ℕ) → b ∷ rest ≡ xs ++ after → Stands shape xs after → ⊥
    none b rest no_word no_digit no_comment short shape [] after same stands = some_bytes shape after stands
    none b rest no_word no_digit no_comment short (Lexeme Word) (x ∷ xs) after same stands = let w = stands.0 in cc
    none b rest no_word no_digit no_comment short (Lexeme Digits) (x ∷ xs) after same stands = let w = stands.0 in cc
    none b rest no_word no_digit no_comment short Comment (x ∷ xs) after same stands =
        let w = stands.0 in no_comment (cc)
    none b [] no_word no_digit no_comment short (Lexeme Sign) (x ∷ []) after same stands = cc
    none b (c ∷ rest) no_word no_digit no_comment short (Lexeme Sign) (x ∷ []) after same stands = cc
    none b [] no_word no_digit no_comment short (Lexeme Sign) (x ∷ y ∷ []) after same stands = cc
    none b (c ∷ rest) no_word no_digit no_comment short (Lexeme Sign) (x ∷ y ∷ []) after same stands =
        let w = stands.0 in short.3 (cc) (cc)
    none b rest no_word no_digit no_comment short (Lexeme Sign) (x ∷ y ∷ z ∷ xs) after same stands = stands
    none b [] no_word no_digit no_comment short (Lexeme LineEnd) (x ∷ []) after same stands = short.0 (cc)
    none b (c ∷ rest) no_word no_digit no_comment short (Lexeme LineEnd) (x ∷ []) after same stands = short.0 (cc)
    none b rest no_word no_digit no_comment short (Lexeme LineEnd) (x ∷ y ∷ xs) after same stands = stands
    none b [] no_word no_digit no_comment short Gap (x ∷ []) after same stands = cc
    none b (c ∷ rest) no_word no_digit no_comment short Gap (x ∷ []) after same stands = cc
    none b rest no_word no_digit no_comment short Gap (x ∷ y ∷ xs) after same stands = stands

-- a word, digits and a comment from their first byte and the run behind it
pub stands_word : (n : ℕ) (bytes : List ℕ) → 0 < n → n ≤ length bytes → begins_word (get_or bytes 0 0) ≡ true
    → IsRun goes_on_word (drop 1 (take n bytes)) (drop n bytes) → Stands (Lexeme Word) (take n bytes) (drop n bytes)
stands_word zero bytes some within first run = absurd (omega arith)
stands_word (suc n) [] some within first run = absurd (omega arith)
stands_word (suc n) (b ∷ bytes) some within first run = (first, run)

pub stands_digits : (n : ℕ) (bytes : List ℕ) → 0 < n → n ≤ length bytes → is_digit (get_or bytes 0 0) ≡ true
    → IsRun is_digit (drop 1 (take n bytes)) (drop n bytes) → Stands (Lexeme Digits) (take n bytes) (drop n bytes)
stands_digits zero bytes some within first run = absurd (omega arith)
stands_digits (suc n) [] some within first run = absurd (omega arith)
stands_digits (suc n) (b ∷ bytes) some within first run = (first, run)

pub stands_comment : (n : ℕ) (bytes : List ℕ) → 0 < n → n ≤ length bytes → get_or bytes 0 0 ≡ 35
    → IsRun is_no_line_end (drop 1 (take n bytes)) (drop n bytes) → Stands Comment (take n bytes) (drop n bytes)
stands_comment zero bytes some within first run = absurd (omega arith)
stands_comment (suc n) [] some within first run = absurd (omega arith)
stands_comment (suc n) (b ∷ bytes) some within first run = (first, run)

-- the same at what the code found
pub found_word : (found : Found) (bytes : List ℕ) → found.shape ≡ Lexeme Word → (0 < found.len)
    × (found.len ≤ length bytes) → begins_word (get_or bytes 0 0) ≡ true
    → IsRun goes_on_word (drop 1 (take found.len bytes)) (drop found.len bytes) → IsFound found bytes
found_word found bytes shape within first run = record {
  some = within.0;
  within = within.1;
  stands = subst (λ (s : Shape). Stands s (take found.len bytes) (drop found.len bytes)) (sym shape)
      (stands_word found.len bytes within.0 within.1 first run);
}

pub found_digits : (found : Found) (bytes : List ℕ) → found.shape ≡ Lexeme Digits → (0 < found.len)
    × (found.len ≤ length bytes) → is_digit (get_or bytes 0 0) ≡ true
    → IsRun is_digit (drop 1 (take found.len bytes)) (drop found.len bytes) → IsFound found bytes
found_digits found bytes shape within first run = record {
  some = within.0;
  within = within.1;
  stands = subst (λ (s : Shape). Stands s (take found.len bytes) (drop found.len bytes)) (sym shape)
      (stands_digits found.len bytes within.0 within.1 first run);
}

pub found_comment : (found : Found) (bytes : List ℕ) → found.shape ≡ Comment → (0 < found.len)
    × (found.len ≤ length bytes) → get_or bytes 0 0 ≡ 35
    → IsRun is_no_line_end (drop 1 (take found.len bytes)) (drop found.len bytes) → IsFound found bytes
found_comment found bytes shape within first run = record {
  some = within.0;
  within = within.1;
  stands = subst (λ (s : Shape). Stands s (take found.len bytes) (drop found.len bytes)) (sym shape)
      (stands_comment found.len bytes within.0 within.1 first run);
}

-- a piece that begins with an opening parenthesis is a sign
pub paren_is_sign : (s : Shape) (b : ℕ) (bytes after : List ℕ) → Stands s (b ∷ bytes) after → b ≡ 40 → s ≡ Lexeme Sign
unfolding shape_of
paren_is_sign s b bytes after stands is = sym (shape_is s b bytes after stands) ∙ ap shape_of is

word_below : (b : ℕ) → begins_word b ≡ true → b < 128
word_below b h = grind (arith, nat_tests)

digit_below : (b : ℕ) → is_digit b ≡ true → b < 128
digit_below b h = grind (arith, nat_tests)

gap_below : (b : ℕ) → is_gap b ≡ true → b < 128
gap_below b h = grind (arith, nat_tests)

short_below : (b : ℕ) → is_short_sign b ≡ true → b < 128
short_below b h = grind (arith, nat_tests)

long_below : (b : ℕ) → begins_long_sign b ≡ true → b < 128
long_below b h = grind (arith, nat_tests)

-- a piece begins with an ASCII byte
pub begins_ascii : (s : Shape) (b : ℕ) (bytes after : List ℕ) → Stands s (b ∷ bytes) after → b < 128
begins_ascii (Lexeme Word) b bytes after h = word_below b h.0
begins_ascii (Lexeme Digits) b bytes after h = digit_below b h.0
begins_ascii (Lexeme Sign) b [] after h = short_below b h
begins_ascii (Lexeme Sign) b (c ∷ []) after h = long_below b h.0
begins_ascii (Lexeme Sign) b (c ∷ d ∷ bytes) after h = absurd h
begins_ascii (Lexeme LineEnd) b [] after h = omega (arith, h)
begins_ascii (Lexeme LineEnd) b (c ∷ bytes) after h = absurd h
begins_ascii Gap b [] after h = gap_below b h
begins_ascii Gap b (c ∷ bytes) after h = absurd h
begins_ascii Comment b bytes after h = let is : b ≡ 35 = h.0 in omega arith
