-- The different words of a text: each once, without a dot, and found by its number.
use Rattle.std.proofs.Common.{◌≡◌, ◌≢◌, ℕ, zero, suc, ◌+◌, ◌<◌, Bool, true, false, cond, List, [], ◌∷◌, ◌++◌, length, map, refl, sym, ap, ◌∙◌, subst, arith}
use Rattle.std.specs.Prelude.{fold, nat_lt, not, ◌||◌, Some, None, unwrap_or, if◌then◌else◌}
use Rattle.std.specs.Str.{bytes_eq}
use Rattle.std.specs.List.{list_any, flat_map, position_or_len}
use Rattle.std.proofs.lemmas.Bool.Decides.{nat_tests}
use Rattle.std.proofs.lemmas.Slice.Eq.{bytes_eq-Decides}
use Rattle.rob_lex.specs.declared.token.Token.{Token}
use Rattle.rob_lex.specs.declared.token.Kind.TheVariants as kind
use Rattle.rob_lex.specs.declared.piece.Shape.{Shape}
use Rattle.rob_lex.specs.declared.piece.Shape.TheVariants as shape
use Rattle.rob_lex.specs.Bytes.{begins_word, goes_on_word}
use Rattle.rob_lex.specs.Offences.{AreTokens}
use Rattle.rob_lex.specs.Pieces.{Piece, IsRun, Stands, IsPlace}
use Rattle.rob_lex.specs.Places.{start, tokens_of}
use Rattle.rob_lex.specs.Slices.{Lexed, lexed, lexed_at, lexed_of}
use Rattle.rob_lex.proofs.SliceLemmas.{slices}
use Rattle.rob_meaning.specs.Named.{AreDistinct}
use Rattle.rob_meaning.specs.Places.{Each}
use Rattle.rob_parse.specs.Written.{word_of}
use Rattle.rob_syntax.specs.Names.{GoesOn, IsWord}
use Rattle.rob_syntax.specs.Symbols.{add_word, word_at, word_in, words_of, number_of}

-- ---- lists without repetition
pub distinct_push : {A : Type 0} (xs : List A) (y : A) → AreDistinct xs → Each (λ x. x ≢ y) xs
    → AreDistinct (xs ++ y ∷ [])
distinct_push [] y d other = (tt, tt)
distinct_push {A = A} (x ∷ xs) y d other = (push xs d.0, distinct_push xs y d.1 other.1)
  where
    push : (zs : List A) → Each (λ z. x ≢ z) zs → Each (λ z. x ≢ z) (zs ++ y ∷ [])
    push [] h = (other.0, tt)
    push (z ∷ zs) h = (h.0, push zs h.1)

-- one more item in the middle
pub distinct_between : {A : Type 0} (xs ys : List A) (y : A) → AreDistinct (xs ++ ys) → Each (λ x. y ≢ x) (xs ++ ys)
    → AreDistinct (xs ++ y ∷ ys)
distinct_between [] ys y d other = (other, d)
distinct_between {A = A} (x ∷ xs) ys y d other = (between xs d.0, distinct_between xs ys y d.1 other.1)
  where
    between : (zs : List A) → Each (λ z. x ≢ z) (zs ++ ys) → Each (λ z. x ≢ z) (zs ++ y ∷ ys)
    between [] h = (λ e. other.0 (sym e), h)
    between (z ∷ zs) h = (h.0, between zs h.1)

-- ---- words
-- the word is among the words
abbrev pub In : List (List ℕ) → List ℕ → Type 0
In words w = list_any (bytes_eq w) words ≡ true

same_word : (v w : List ℕ) → bytes_eq v w ≡ true → v ≡ w
same_word v w h = (bytes_eq-Decides v w).0 h

other_word : (v w : List ℕ) → bytes_eq v w ≡ false → v ≢ w
other_word v w h e = let p : bytes_eq v w ≡ true = (bytes_eq-Decides v w).1 e in cc

self_word : (w : List ℕ) → bytes_eq w w ≡ true
self_word w = (bytes_eq-Decides w w).1 refl

others : (words : List (List ℕ)) (w : List ℕ) → list_any (bytes_eq w) words ≡ false → Each (λ x. x ≢ w) words
others [] w h = tt
others (x ∷ words) w h = go (λ k. others words w k) (bytes_eq w x) refl h
  where
    go : (list_any (bytes_eq w) words ≡ false → Each (λ x. x ≢ w) words) → (b : Bool) → bytes_eq w x ≡ b
        → b || list_any (bytes_eq w) words ≡ false → Each (λ x. x ≢ w) (x ∷ words)
    go more true is h = cc
    go more false is h = (λ e. other_word w x is (sym e), more h)

in_front : (words more : List (List ℕ)) (w : List ℕ) → In words w → In (words ++ more) w
in_front [] more w h = cc
in_front (x ∷ words) more w h = go (λ k. in_front words more w k) (bytes_eq w x) h
  where
    go : (list_any (bytes_eq w) words ≡ true → list_any (bytes_eq w) (words ++ more) ≡ true) → (b : Bool)
        → b || list_any (bytes_eq w) words ≡ true → b || list_any (bytes_eq w) (words ++ more) ≡ true
    go rest true h = refl
    go rest false h = rest h

in_last : (words : List (List ℕ)) (w : List ℕ) → In (words ++ w ∷ []) w
in_last [] w = ap (λ (b : Bool). b || false) (self_word w)
in_last (x ∷ words) w = go (in_last words w) (bytes_eq w x)
  where
    go : In (words ++ w ∷ []) w → (b : Bool) → b || list_any (bytes_eq w) (words ++ w ∷ []) ≡ true
    go rest true = refl
    go rest false = rest

module _ (words : List (List ℕ)) (w : List ℕ) where
  added_distinct : AreDistinct words → AreDistinct (add_word words w)
  added_distinct d = go (list_any (bytes_eq w) words) refl
    where
      go : (b : Bool) → list_any (bytes_eq w) words ≡ b → AreDistinct (if b then words else words ++ w ∷ [])
      go true is = d
      go false is = distinct_push words w d (others words w is)

  added_in : (v : List ℕ) → In words v → In (add_word words w) v
  added_in v h = go (list_any (bytes_eq w) words)
    where
      go : (b : Bool) → In (if b then words else words ++ w ∷ []) v
      go true = h
      go false = in_front words (w ∷ []) v h

  added_self : In (add_word words w) w
  added_self = go (list_any (bytes_eq w) words) refl
    where
      go : (b : Bool) → list_any (bytes_eq w) words ≡ b → In (if b then words else words ++ w ∷ []) w
      go true is = is
      go false is = in_last words w

pub words_distinct : (ws words : List (List ℕ)) → AreDistinct words → AreDistinct (fold add_word words ws)
words_distinct [] words d = d
words_distinct (w ∷ ws) words d = words_distinct ws (add_word words w) (added_distinct words w d)

words_stay : (ws words : List (List ℕ)) (v : List ℕ) → In words v → In (fold add_word words ws) v
words_stay [] words v h = h
words_stay (w ∷ ws) words v h = words_stay ws (add_word words w) v (added_in words w v h)

pub words_in : (ws words : List (List ℕ)) → Each (In (fold add_word words ws)) ws
words_in [] words = tt
words_in (w ∷ ws) words = (words_stay ws (add_word words w) w (added_self words w), words_in ws (add_word words w))

-- ---- the word of a token has no dot
pub byte_plain : (b : ℕ) → goes_on_word b ≡ true → b ≢ 46
byte_plain b h e = let p : goes_on_word 46 ≡ true = subst (λ (x : ℕ). goes_on_word x ≡ true) e h in cc

pub first_plain : (b : ℕ) → begins_word b ≡ true → b ≢ 46
first_plain b h e = let p : begins_word 46 ≡ true = subst (λ (x : ℕ). begins_word x ≡ true) e h in cc

abbrev pub word_lexed : Lexed → List (List ℕ)
word_lexed l = word_at l.kind l.bytes

pub lexed_words : (text : List ℕ) (ts : List Token)
    → flat_map word_lexed (map (lexed text) ts) ≡ flat_map (word_in text) ts
lexed_words text [] = refl
lexed_words text (t ∷ ts) = ap (λ (l : List (List ℕ)). word_in text t ++ l) (lexed_words text ts)

-- ---- words by their numbers
found : (words : List (List ℕ)) (w : List ℕ) → In words w → (position_or_len (bytes_eq w) words < length words)
    × (word_of words (position_or_len (bytes_eq w) words) ≡ w)
found [] w h = cc
found (x ∷ words) w h = go (λ k. found words w k) (bytes_eq w x) refl h
  where
    go : (list_any (bytes_eq w) words ≡ true → (position_or_len (bytes_eq w) words < length words)
        × (word_of words (position_or_len (bytes_eq w) words) ≡ w)) → (b : Bool) → bytes_eq w x ≡ b
        → b || list_any (bytes_eq w) words ≡ true
        → (cond (not b) (1 + position_or_len (bytes_eq w) words) 0 < length (x ∷ words))
        × (word_of (x ∷ words) (cond (not b) (1 + position_or_len (bytes_eq w) words) 0) ≡ w)
    go more true is h = (omega arith, sym (same_word w x is))
    go more false is h =
        let one : 1 + position_or_len (bytes_eq w) words ≡ suc (position_or_len (bytes_eq w) words) = omega arith in
        (omega (arith, (more h).0), ap (word_of (x ∷ words)) one ∙ (more h).1)

never : (a b : ℕ) → a < b → nat_lt a b ≡ false → ⊥
never a b h is = grind (arith, nat_tests)

pub number_found : (words : List (List ℕ)) (w : List ℕ) → In words w → (number_of words w < length words)
    × (word_of words (number_of words w) ≡ w)
number_found words w h = go (nat_lt (position_or_len (bytes_eq w) words) (length words)) refl
  where
    f : (position_or_len (bytes_eq w) words < length words) × (word_of words (position_or_len (bytes_eq w) words) ≡ w)
    f = found words w h

    go : (b : Bool) → nat_lt (position_or_len (bytes_eq w) words) (length words) ≡ b
        → (unwrap_or (cond b (Some (position_or_len (bytes_eq w) words)) None) 0 < length words)
        × (word_of words (unwrap_or (cond b (Some (position_or_len (bytes_eq w) words)) None) 0) ≡ w)
    go true is = f
    go false is = absurd (never _ _ f.0 is)

-- each word is among the words
pub in_place : (words : List (List ℕ)) (k : ℕ) → k < length words → In words (word_of words k)
in_place [] k inside = absurd (omega arith)
in_place (w ∷ words) zero inside = ap (λ (b : Bool). b || list_any (bytes_eq w) words) (self_word w)
in_place (w ∷ words) (suc k) inside = go (bytes_eq (word_of words k) w) (in_place words k (omega arith))
  where
    go : (b : Bool) → In words (word_of words k) → b || list_any (bytes_eq (word_of words k)) words ≡ true
    go true h = refl
    go false h = h

-- two numbers of one word are one
pub one_number : (words : List (List ℕ)) (j k : ℕ) → AreDistinct words → j < length words → k < length words
    → word_of words j ≡ word_of words k → j ≡ k
one_number [] j k d a b same = absurd (omega arith)
one_number (w ∷ words) zero zero d a b same = refl
one_number (w ∷ words) zero (suc k) d a b same = absurd (apart words k d.0 (omega arith) same)
  where
    apart : (xs : List (List ℕ)) (k : ℕ) → Each (λ x. w ≢ x) xs → k < length xs → w ≡ word_of xs k → ⊥
    apart [] k h inside same = omega arith
    apart (x ∷ xs) zero h inside same = h.0 same
    apart (x ∷ xs) (suc k) h inside same = apart xs k h.1 (omega arith) same
one_number (w ∷ words) (suc j) zero d a b same = absurd (apart words j d.0 (omega arith) (sym same))
  where
    apart : (xs : List (List ℕ)) (k : ℕ) → Each (λ x. w ≢ x) xs → k < length xs → w ≡ word_of xs k → ⊥
    apart [] k h inside same = omega arith
    apart (x ∷ xs) zero h inside same = h.0 same
    apart (x ∷ xs) (suc k) h inside same = apart xs k h.1 (omega arith) same
one_number (w ∷ words) (suc j) (suc k) d a b same = ap suc (one_number words j k d.1 (omega arith) (omega arith) same)

-- ---- the word of a token is a word
module _ (w : List ℕ) where
  added_word : (words : List (List ℕ)) → Each IsWord words → IsWord w → Each IsWord (add_word words w)
  added_word words a b = go (list_any (bytes_eq w) words)
    where
      push : (xs : List (List ℕ)) → Each IsWord xs → Each IsWord (xs ++ w ∷ [])
      push [] h = (b, tt)
      push (x ∷ xs) h = (h.0, push xs h.1)

      go : (c : Bool) → Each IsWord (if c then words else words ++ w ∷ [])
      go true = a
      go false = push words a

pub words_words : (ws words : List (List ℕ)) → Each IsWord words → Each IsWord ws → Each IsWord (fold add_word words ws)
words_words [] words a b = a
words_words (w ∷ ws) words a b = words_words ws (add_word words w) (added_word w words a b.0) b.1

run_goes : (bytes after : List ℕ) → IsRun goes_on_word bytes after → GoesOn bytes
run_goes [] after run = tt
run_goes (b ∷ bytes) after run = (run.0, run_goes bytes after run.1)

piece_word : (s : Shape) (bytes after : List ℕ) (more : List Lexed) → Stands s bytes after
    → Each IsWord (flat_map word_lexed more) → Each IsWord (flat_map word_lexed (lexed_at s bytes ++ more))
piece_word (shape.Lexeme kind.Word) [] after more stands rest = absurd stands
piece_word (shape.Lexeme kind.Word) (b ∷ bytes) after more stands rest =
    ((stands.0, run_goes bytes after stands.1), rest)
piece_word (shape.Lexeme kind.Digits) bytes after more stands rest = rest
piece_word (shape.Lexeme kind.Sign) bytes after more stands rest = rest
piece_word (shape.Lexeme kind.LineEnd) bytes after more stands rest = rest
piece_word shape.Gap bytes after more stands rest = rest
piece_word shape.Comment bytes after more stands rest = rest

pieces_word : (text : List ℕ) (pieces : List Piece) (rest : List ℕ) → IsPlace text pieces rest
    → Each IsWord (flat_map word_lexed (lexed_of pieces))
pieces_word text [] rest place = tt
pieces_word text (p ∷ pieces) rest place =
    piece_word p.shape p.bytes place.0 (lexed_of pieces) place.2 (pieces_word place.0 pieces rest place.3)

pub tokens_word : (text : List ℕ) (tokens : List Token) → AreTokens text tokens → Each IsWord (words_of text tokens)
tokens_word text tokens are =
    words_words (flat_map (word_in text) tokens) [] tt
    (subst (λ (ts : List Token). Each IsWord (flat_map (word_in text) ts)) are.tokens
    (subst (Each IsWord) (lexed_words text (tokens_of start are.pieces))
    (subst (λ (l : List Lexed). Each IsWord (flat_map word_lexed l)) (sym (slices text are.pieces are.whole))
    (pieces_word text are.pieces [] are.whole))))
