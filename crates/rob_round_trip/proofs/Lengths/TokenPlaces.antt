-- In a text without an offence the symbols and the line ends of its lines
-- aren't too many, and its parentheses aren't too deep.
use Rattle.std.proofs.Common.{◌≡◌, ℕ, ◌+◌, ◌-◌, ◌<◌, ◌≤◌, ⊎_elim, Bool, true, false, List, [], ◌∷◌, ◌++◌, length, map, drop, get_or, refl, sym, ap, ◌∙◌, subst, arith}
use Rattle.std.specs.Prelude.{min, ◌==◌, ◌&&◌, nat_le, if◌then◌else◌, Option, Some, None, codes}
use Rattle.std.specs.Str.{bytes_eq}
use Rattle.std.proofs.str.Laws.{order}
use Rattle.rob_index.specs.Depths.{weight}
use Rattle.rob_lex.specs.declared.token.Kind.{Kind}
use Rattle.rob_lex.specs.declared.token.Kind.TheVariants as kind
use Rattle.rob_lex.specs.declared.token.Token.{Token}
use Rattle.rob_lex.specs.declared.piece.Shape.{Shape}
use Rattle.rob_lex.specs.declared.piece.Shape.TheVariants.{Lexeme, Gap, Comment}
use Rattle.rob_lex.specs.declared.place.Place.{Place}
use Rattle.rob_lex.specs.Pieces.{Piece, Stands, IsPlace}
use Rattle.rob_lex.specs.Places.{start, depth_at, weights_behind, behind}
use Rattle.rob_lex.specs.Weights.{total}
use Rattle.rob_lex.specs.Offences.{most_tokens, most_open, AreTokens, too_many_tokens, too_deep}
use Rattle.rob_lex.specs.Slices.{Lexed, lexed, lexed_at, lexed_of}
use Rattle.rob_lex.proofs.PieceLemmas.{some_bytes}
use Rattle.rob_lex.proofs.SliceLemmas.{slices}
use Rattle.rob_meaning.specs.Places.{Each}
use Rattle.rob_syntax.specs.declared.symbol.Keyword.{Keyword}
use Rattle.rob_syntax.specs.declared.symbol.Keyword.TheVariants.{Unused}
use Rattle.rob_syntax.specs.declared.symbol.Mark.{Mark}
use Rattle.rob_syntax.specs.declared.symbol.Symbol.{Symbol}
use Rattle.rob_syntax.specs.declared.symbol.Symbol.TheVariants.{Name, Digits, Sign, Reserved}
use Rattle.rob_index.specs.Reading.{one}
use Rattle.rob_lex.proofs.ShallowLemmas.{sound_next, IsSound}
use Rattle.rob_syntax.specs.Symbols.{longest_name, value_of, greatest_digits, number_of, word_symbol, mark_of, symbol_at, lines_of}
use Rattle.rob_round_trip.proofs.Pages.PageSymbols.{symbol_lines, add_symbols, token_lines_are}
use Rattle.rob_round_trip.proofs.Lengths.DepthSteps.{stays, deeper, MayStep, step_of_mark, step_of_symbol, Shallow}
use Rattle.std.proofs.lemmas.Bool.{eqb-true}

-- ---- what the places of a text without an offence keep
-- one more token is allowed where one stands
few_here : (at : Place) (text : List ℕ) (k : Kind) (bytes after : List ℕ) → IsSound at text → text ≡ bytes ++ after
    → Stands (Lexeme k) bytes after
    → at.count < most_tokens
few_here at text k [] after sound split stands = absurd (some_bytes (Lexeme k) after stands)
few_here at [] k (b ∷ bytes) after sound split stands = cc
few_here at (c ∷ text) k (b ∷ bytes) after sound split stands =
    ⊎_elim (λ (few : at.count < most_tokens). few)
    (λ (many : most_tokens ≤ at.count).
    absurd (sound [] (c ∷ text) refl (too_many_tokens many (k, b ∷ bytes, after, split, stands))))
    (order at.count most_tokens)

-- each open parenthesis counts at least once
abbrev AreCounted : List ℕ → Type 0
AreCounted ws = Each (λ w. 0 < w) ws

length_le : (ws : List ℕ) → AreCounted ws → length ws ≤ total ws
length_le [] h = omega arith
length_le (w ∷ ws) h = omega (arith, h.0, length_le ws h.1)

weight_some : (b : Bool) → 0 < weight b
weight_some true = omega arith
weight_some false = omega arith

counted_drop : (ws : List ℕ) → AreCounted ws → AreCounted (drop 1 ws)
counted_drop [] h = tt
counted_drop (w ∷ ws) h = h.1

counted_sign : (opens closes b : Bool) (ws : List ℕ) → AreCounted ws
    → AreCounted (if opens then weight b ∷ ws else (if closes then drop 1 ws else ws))
counted_sign true closes b ws h = (weight_some b, h)
counted_sign false true b ws h = counted_drop ws h
counted_sign false false b ws h = h

counted_next : (at : Place) (shape : Shape) (bytes : List ℕ) → AreCounted at.weights
    → AreCounted (behind at shape bytes).weights
counted_next at (Lexeme kind.Word) bytes h = h
counted_next at (Lexeme kind.Digits) bytes h = h
counted_next at (Lexeme kind.Sign) bytes h =
    counted_sign (get_or bytes 0 0 == 40) (get_or bytes 0 0 == 41) at.behind_sum at.weights h
counted_next at (Lexeme kind.LineEnd) bytes h = tt
counted_next at Gap bytes h = h
counted_next at Comment bytes h = h

-- one more parenthesis is allowed where one stands
shallow_here : (at : Place) (text : List ℕ) (b : ℕ) (bytes after : List ℕ) → IsSound at text
    → text ≡ (b ∷ bytes) ++ after → at.count < most_tokens
    → AreCounted at.weights → b ≡ 40 → length at.weights < most_open
shallow_here at [] b bytes after sound split few counted first = cc
shallow_here at (c ∷ text) b bytes after sound split few counted first =
    let same : c ≡ b = cc in
    ⊎_elim (λ (deep : most_open < depth_at at + weight at.behind_sum).
    absurd (sound [] (c ∷ text) refl (too_deep few deep (same ∙ first))))
    (λ (fits : depth_at at + weight at.behind_sum ≤ most_open).
    omega (arith, fits, length_le at.weights counted, weight_some at.behind_sum))
    (order most_open (depth_at at + weight at.behind_sum))

-- the line end behind an open last line is allowed
end_allowed : (at : Place) → IsSound at [] → at.begun ≡ true → at.count < most_tokens
end_allowed at sound begun =
    ⊎_elim (λ (few : at.count < most_tokens). few)
    (λ (many : most_tokens ≤ at.count). absurd (sound [] [] refl (too_many_tokens many begun)))
    (order at.count most_tokens)

-- ---- signs as symbols
one_of : (c : Bool) (x y : Mark) → step_of_mark x ≡ stays → step_of_mark y ≡ stays
    → step_of_mark (if c then x else y) ≡ stays
one_of true x y h k = h
one_of false x y h k = k

second_of : (c : Bool) (x y : Mark) → c ≡ false → step_of_mark y ≡ stays → step_of_mark (if c then x else y) ≡ stays
second_of true x y none k = cc
second_of false x y none k = k

no_more : (c : Bool) → c ≡ false → (c && true) ≡ false
no_more true h = cc
no_more false h = refl

pub other_stays : (b : ℕ) → (b == 40) ≡ false → (b == 41) ≡ false → step_of_mark (mark_of b) ≡ stays
other_stays b no_open no_close =
    one_of (bytes_eq (b ∷ []) (codes "+")) _ _ refl
    (one_of (bytes_eq (b ∷ []) (codes "-")) _ _ refl
    (one_of (bytes_eq (b ∷ []) (codes "*")) _ _ refl
    (one_of (bytes_eq (b ∷ []) (codes "/")) _ _ refl
    (second_of (bytes_eq (b ∷ []) (codes "(")) _ _ (no_more (b == 40) no_open)
    (second_of (bytes_eq (b ∷ []) (codes ")")) _ _ (no_more (b == 41) no_close)
    (one_of (bytes_eq (b ∷ []) (codes "[")) _ _ refl
    (one_of (bytes_eq (b ∷ []) (codes "]")) _ _ refl
    (one_of (bytes_eq (b ∷ []) (codes ",")) _ _ refl
    (one_of (bytes_eq (b ∷ []) (codes ":")) _ _ refl
    (one_of (bytes_eq (b ∷ []) (codes "=")) _ _ refl
    (one_of (bytes_eq (b ∷ []) (codes "<")) _ _ refl refl)))))))))))

length-drop1 : (ws : List ℕ) → length ws - 1 ≡ length (drop 1 ws)
length-drop1 [] = omega arith
length-drop1 (w ∷ ws) = omega arith

-- a sign's symbol opens and closes as its first byte does
record SignSteps (b : ℕ) (s : Bool) (ws : List ℕ) : Type 0 where
  depth : deeper (length ws) (step_of_mark (mark_of b)) ≡ length (weights_behind (b ∷ []) s ws)
  may : (b ≡ 40 → length ws < most_open) → MayStep (length ws) (step_of_mark (mark_of b))

sign_steps : (b : ℕ) (s : Bool) (ws : List ℕ) → SignSteps b s ws
sign_steps b s ws = go (b == 40) (b == 41) refl refl
  where
    go : (x y : Bool) → (b == 40) ≡ x → (b == 41) ≡ y → SignSteps b s ws
    go true y h k =
        subst (λ (c : ℕ). SignSteps c s ws) (sym (eqb-true b 40 h)) (record { depth = omega arith; may = λ f. f refl })
    go false true h k =
        subst (λ (c : ℕ). SignSteps c s ws) (sym (eqb-true b 41 k)) (record { depth = length-drop1 ws; may = λ f. tt })
    go false false h k = record {
      depth = ap (deeper (length ws)) (other_stays b h k)
          ∙ sym (λ i. length (if h i then weight s ∷ ws else (if k i then drop 1 ws else ws)));
      may = λ f. subst (MayStep (length ws)) (sym (other_stays b h k)) tt;
    }

word_stays : (words : List (List ℕ)) (word : List ℕ) (k : Option Keyword)
    → step_of_symbol (word_symbol one words word k) ≡ stays
word_stays words word (Some k) = refl
word_stays words word None = go (nat_le (length word) longest_name)
  where
    go : (b : Bool) → step_of_symbol (if b then Name (number_of words word) else Reserved Unused) ≡ stays
    go true = refl
    go false = refl

-- ---- what lines cost
-- the symbols of a line and its line end, which an empty line has only where it is begun
abbrev pub line_cost : Bool → List Symbol → ℕ
line_cost begun [] = if begun then 1 else 0
line_cost begun (x ∷ xs) = length (x ∷ xs) + 1

-- the same of lines that begin at their first symbol
abbrev pub cost : List (List Symbol) → ℕ
cost [] = 0
cost (l ∷ ls) = line_cost false l + cost ls

begun_cost : (l : List Symbol) → line_cost true l ≡ length l + 1
begun_cost [] = refl
begun_cost (x ∷ xs) = refl

-- from a place on, the lines cost no more than the text may have, and stand no deeper
abbrev Holds : Place → List (List Symbol) → Type 0
Holds at [] = ⊥
Holds at (l ∷ ls) =
    (at.count + (line_cost at.begun l + cost ls) ≤ most_tokens) × Shallow step_of_symbol (length at.weights) l
    × Each (Shallow step_of_symbol 0) ls

symbol_holds : (at next : Place) (x : Symbol) (l : List Symbol) (ls : List (List Symbol))
    → next.count ≡ at.count + 1 → next.begun ≡ true
    → length next.weights ≡ deeper (length at.weights) (step_of_symbol x)
    → MayStep (length at.weights) (step_of_symbol x) → Holds next (l ∷ ls) → Holds at ((x ∷ l) ∷ ls)
symbol_holds at next x l ls counts begun depth may h = (
  omega (arith, h.0, counts, ap (λ (b : Bool). line_cost b l) begun ∙ begun_cost l),
  (may, subst (λ (d : ℕ). Shallow step_of_symbol d l) depth h.1),
  h.2,
)

module _ (words : List (List ℕ)) where
  line_holds : (at next : Place) (lines : List (List Symbol)) → next.count ≡ at.count + 1 → next.begun ≡ false
      → length next.weights ≡ 0 → Holds next lines
      → Holds at ([] ∷ lines)
  line_holds at next [] counts begun depth h = absurd h
  line_holds at next (l ∷ ls) counts begun depth h = (
    omega (arith, h.0, counts, ap (λ (b : Bool). line_cost b l) begun, open_cost at.begun),
    tt,
    (subst (λ (d : ℕ). Shallow step_of_symbol d l) depth h.1, h.2),
  )
    where
      open_cost : (b : Bool) → line_cost b [] ≤ 1
      open_cost true = omega arith
      open_cost false = omega arith

  word_holds : (at : Place) (bytes : List ℕ) (lines : List (List Symbol))
      → Holds (behind at (Lexeme kind.Word) bytes) lines
      → Holds at (add_symbols words kind.Word (symbol_at one words kind.Word bytes) lines)
  word_holds at bytes [] h = absurd h
  word_holds at bytes (l ∷ ls) h =
      let stay = word_stays words bytes _ in
      symbol_holds at (behind at (Lexeme kind.Word) bytes) _ l ls refl refl (sym (ap (deeper (length at.weights)) stay))
      (subst (MayStep (length at.weights)) (sym stay) tt) h

  digits_hold : (at : Place) (bytes : List ℕ) (lines : List (List Symbol))
      → Holds (behind at (Lexeme kind.Digits) bytes) lines
      → Holds at (add_symbols words kind.Digits (symbol_at one words kind.Digits bytes) lines)
  digits_hold at bytes [] h = absurd h
  digits_hold at bytes (l ∷ ls) h =
      symbol_holds at (behind at (Lexeme kind.Digits) bytes) (Digits (min (value_of bytes) greatest_digits))
      l ls refl refl refl tt h

  sign_holds : (at : Place) (b : ℕ) (bytes : List ℕ) (lines : List (List Symbol))
      → (b ≡ 40 → length at.weights < most_open)
      → Holds (behind at (Lexeme kind.Sign) (b ∷ bytes)) lines
      → Holds at (add_symbols words kind.Sign (symbol_at one words kind.Sign (b ∷ bytes)) lines)
  sign_holds at b bytes [] may h = absurd h
  sign_holds at b bytes (l ∷ ls) may h =
      let s = sign_steps b at.behind_sum at.weights in
      symbol_holds at (behind at (Lexeme kind.Sign) (b ∷ bytes)) (Sign (mark_of b)) l ls refl refl
      (sym s.depth) (s.may may) h

  piece_holds : (at : Place) (text : List ℕ) (shape : Shape) (bytes after : List ℕ) (xs : List Lexed)
      → text ≡ bytes ++ after → Stands shape bytes after
      → IsSound at text → AreCounted at.weights → at.count ≤ most_tokens
      → ((behind at shape bytes).count ≤ most_tokens → Holds (behind at shape bytes) (symbol_lines words xs))
      → Holds at (symbol_lines words (lexed_at shape bytes ++ xs))
  piece_holds at text Gap bytes after xs split stands sound counted few more = more few
  piece_holds at text Comment bytes after xs split stands sound counted few more = more few
  piece_holds at text (Lexeme kind.Word) bytes after xs split stands sound counted few more =
      let less = few_here at text kind.Word bytes after sound split stands in
      word_holds at bytes (symbol_lines words xs) (more (omega (arith, less)))
  piece_holds at text (Lexeme kind.Digits) bytes after xs split stands sound counted few more =
      let less = few_here at text kind.Digits bytes after sound split stands in
      digits_hold at bytes (symbol_lines words xs) (more (omega (arith, less)))
  piece_holds at text (Lexeme kind.Sign) [] after xs split stands sound counted few more = absurd stands
  piece_holds at text (Lexeme kind.Sign) (b ∷ bytes) after xs split stands sound counted few more =
      let less = few_here at text kind.Sign (b ∷ bytes) after sound split stands in
      sign_holds at b bytes (symbol_lines words xs)
      (λ first. shallow_here at text b bytes after sound split less counted first) (more (omega (arith, less)))
  piece_holds at text (Lexeme kind.LineEnd) bytes after xs split stands sound counted few more =
      let less = few_here at text kind.LineEnd bytes after sound split stands in
      line_holds at (behind at (Lexeme kind.LineEnd) bytes) (symbol_lines words xs) refl refl refl
      (more (omega (arith, less)))

  end_holds : (at : Place) (b : Bool) → at.begun ≡ b → IsSound at [] → at.count ≤ most_tokens
      → at.count + (line_cost b [] + 0) ≤ most_tokens
  end_holds at true is sound few = omega (arith, end_allowed at sound is)
  end_holds at false is sound few = omega (arith, few)

  pieces_hold : (at : Place) (text : List ℕ) (pieces : List Piece) → IsSound at text → AreCounted at.weights
      → IsPlace text pieces [] → at.count ≤ most_tokens
      → Holds at (symbol_lines words (lexed_of pieces))
  pieces_hold at text [] sound counted place few =
      (end_holds at at.begun refl (subst (IsSound at) place sound) few, tt, tt)
  pieces_hold at text (p ∷ pieces) sound counted place few =
      piece_holds at text p.shape p.bytes place.0 (lexed_of pieces) place.1 place.2 sound counted few
      (λ less. pieces_hold (behind at p.shape p.bytes) place.0 pieces
      (sound_next at text p.shape p.bytes place.0 sound place.1 place.2)
      (counted_next at p.shape p.bytes counted) place.3 less)

-- what the lines of a text keep
pub record AreFew (lines : List (List Symbol)) : Type 0 where
  pub few : cost lines ≤ most_tokens
  pub shallow : Each (Shallow step_of_symbol 0) lines

from_start : (lines : List (List Symbol)) → Holds start lines → AreFew lines
from_start [] h = absurd h
from_start (l ∷ ls) h = record { few = omega (arith, h.0); shallow = (h.1, h.2) }

-- the lines of a text's tokens cost no more than a text may have, and stand no deeper
pub lines_few : (words : List (List ℕ)) (text : List ℕ) (tokens : List Token) → AreTokens text tokens
    → AreFew (lines_of text one words tokens)
lines_few words text tokens are =
    let same : lines_of text one words tokens ≡ symbol_lines words (lexed_of are.pieces) =
    token_lines_are words text tokens
    ∙ ap (λ (ts : List Token). symbol_lines words (map (lexed text) ts)) (sym are.tokens)
    ∙ ap (symbol_lines words) (slices text are.pieces are.whole) in
    subst AreFew (sym same)
    (from_start (symbol_lines words (lexed_of are.pieces))
    (pieces_hold words start text are.pieces are.sound tt are.whole (omega arith)))
