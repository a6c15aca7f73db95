-- In a text without an offence no line opens too many parentheses at once.
use Rattle.std.proofs.Common.{◌≡◌, ℕ, ◌+◌, ◌-◌, ◌≤◌, ◌==◌, Bool, true, false, List, [], ◌∷◌, ◌++◌, map, drop, get_or, refl, sym, ap, ◌∙◌, subst, arith}
use Rattle.std.specs.Prelude.{codes, if◌then◌else◌}
use Rattle.std.specs.Str.{bytes_eq}
use Rattle.rob_index.specs.Depths.{deepest, weight}
use Rattle.rob_index.specs.Symbols.{Symbol, digits, sign, word}
use Rattle.rob_index.specs.Symbols as is
use Rattle.rob_lex.specs.declared.piece.Shape.{Shape}
use Rattle.rob_lex.specs.declared.piece.Shape.TheVariants.{Lexeme, Gap, Comment}
use Rattle.rob_lex.specs.declared.place.Place.{Place}
use Rattle.rob_lex.specs.declared.token.Kind.TheVariants.{Word, Digits, Sign, LineEnd}
use Rattle.rob_lex.specs.declared.token.Token.{Token}
use Rattle.rob_lex.specs.Lines.{AreShallow, in_front, paren_lines, paren_symbol}
use Rattle.rob_lex.specs.Offences.{most_open, AreTokens, Cause}
use Rattle.rob_lex.specs.Pieces.{Piece, IsPlace, Stands}
use Rattle.rob_lex.specs.Places.{start, depth_at, behind, behind_all}
use Rattle.rob_lex.specs.Slices.{Lexed, lexed, lexed_at, lexed_of}
use Rattle.rob_lex.specs.Weights.{total}
use Rattle.rob_lex.proofs.PlaceLemmas.{stays_shallow}
use Rattle.rob_lex.proofs.SliceLemmas.{slices}

-- no place from this one on offends
abbrev pub IsSound : Place → List ℕ → Type 0
IsSound at text =
    (before : List Piece) (rest : List ℕ) → IsPlace text before rest → Cause (behind_all at before) rest → ⊥

pub sound_next : (at : Place) (text : List ℕ) (shape : Shape) (bytes after : List ℕ) → IsSound at text
    → text ≡ bytes ++ after → Stands shape bytes after → IsSound (behind at shape bytes) after
sound_next at text shape bytes after sound split stands before rest place cause =
    sound (record { shape = shape; bytes = bytes } ∷ before) rest (after, split, stands, place) cause

-- the most that is open at once on the rest of a line
abbrev deepest_from : Place → List Symbol → ℕ
deepest_from at line = deepest (depth_at at) at.weights at.behind_sum line

-- the rest of the place's line is shallow, and so are the lines behind it
abbrev Holds : Place → List (List Symbol) → Type 0
Holds at [] = ⊥
Holds at (l ∷ lines) = (deepest_from at l ≤ most_open) × AreShallow lines

-- ---- one token more
word_step : (d : ℕ) (st : List ℕ) (b s : Bool) (l : List Symbol)
    → deepest d st b ((if s then word is.sum else digits 0) ∷ l) ≡ deepest d st s l
word_step d st b true l = refl
word_step d st b false l = refl

drop_total : (w : ℕ) (ws : List ℕ) → total ws ≡ (w + total ws) - w
drop_total w ws = omega arith

sign_step : (opens closes b : Bool) (ws : List ℕ) (l : List Symbol) → total ws ≤ most_open
    → deepest (total (if opens then weight b ∷ ws else (if closes then drop 1 ws else ws)))
    (if opens then weight b ∷ ws else (if closes then drop 1 ws else ws)) false l ≤ most_open
    → deepest (total ws) ws b ((if opens then sign is.opening else (if closes then sign is.closing else digits 0)) ∷ l)
    ≤ most_open
sign_step true closes b ws l few h =
    let same : total ws + weight b ≡ weight b + total ws = omega arith in
    subst (λ (d : ℕ). deepest d (weight b ∷ ws) false l ≤ most_open) (sym same) h
sign_step false true b [] l few h = omega (arith, few, h)
sign_step false true b (w ∷ ws) l few h =
    let rest = subst (λ (d : ℕ). deepest d ws false l ≤ most_open) (drop_total w ws) h in omega (arith, few, rest)
sign_step false false b ws l few h = h

piece_step : (at : Place) (shape : Shape) (bytes : List ℕ) (xs : List Lexed) → depth_at at ≤ most_open
    → Holds (behind at shape bytes) (paren_lines xs) → Holds at (paren_lines (lexed_at shape bytes ++ xs))
piece_step at Gap bytes xs few h = h
piece_step at Comment bytes xs few h = h
piece_step at (Lexeme Word) bytes xs few h = go (paren_lines xs) h
  where
    go : (lines : List (List Symbol)) → Holds (behind at (Lexeme Word) bytes) lines
        → Holds at (in_front Word (paren_symbol Word bytes) lines)
    go [] h = absurd h
    go (l ∷ lines) h = (
      subst (λ (n : ℕ). n ≤ most_open)
          (sym (word_step (depth_at at) at.weights at.behind_sum (bytes_eq bytes (codes "sum")) l)) h.0,
      h.1,
    )
piece_step at (Lexeme Digits) bytes xs few h = go (paren_lines xs) h
  where
    go : (lines : List (List Symbol)) → Holds (behind at (Lexeme Digits) bytes) lines
        → Holds at (in_front Digits (paren_symbol Digits bytes) lines)
    go [] h = absurd h
    go (l ∷ lines) h = h
piece_step at (Lexeme Sign) bytes xs few h = go (paren_lines xs) h
  where
    go : (lines : List (List Symbol)) → Holds (behind at (Lexeme Sign) bytes) lines
        → Holds at (in_front Sign (paren_symbol Sign bytes) lines)
    go [] h = absurd h
    go (l ∷ lines) h = (
      sign_step (get_or bytes 0 0 == 40) (get_or bytes 0 0 == 41) at.behind_sum at.weights l few h.0,
      h.1,
    )
piece_step at (Lexeme LineEnd) bytes xs few h = go (paren_lines xs) h
  where
    go : (lines : List (List Symbol)) → Holds (behind at (Lexeme LineEnd) bytes) lines
        → Holds at (in_front LineEnd (paren_symbol LineEnd bytes) lines)
    go [] h = absurd h
    go (l ∷ lines) h = (few, h)

pieces_hold : (at : Place) (text : List ℕ) (pieces : List Piece) → IsSound at text → depth_at at ≤ most_open
    → IsPlace text pieces [] → Holds at (paren_lines (lexed_of pieces))
pieces_hold at text [] sound few place = (few, tt)
pieces_hold at text (p ∷ pieces) sound few place =
    piece_step at p.shape p.bytes (lexed_of pieces) few
    (pieces_hold (behind at p.shape p.bytes) place.0 pieces
    (sound_next at text p.shape p.bytes place.0 sound place.1 place.2)
    (stays_shallow at text p.shape p.bytes place.0 place.1 place.2 (λ cause. sound [] text refl cause) few) place.3)

from_start : (lines : List (List Symbol)) → Holds start lines → AreShallow lines
from_start [] h = absurd h
from_start (l ∷ lines) h = h

pub lines_shallow : (text : List ℕ) (list : List Token) → AreTokens text list
    → AreShallow (paren_lines (map (lexed text) list))
lines_shallow text list read =
    let lines = paren_lines (lexed_of read.pieces) in
    let same : paren_lines (map (lexed text) list) ≡ lines =
    ap (λ (ts : List Token). paren_lines (map (lexed text) ts)) (sym read.tokens)
    ∙ ap paren_lines (slices text read.pieces read.whole) in
    subst AreShallow (sym same)
    (from_start lines (pieces_hold start text read.pieces read.sound (omega arith) read.whole))
