-- Tokens are slices of the source, in order.
use Rattle.std.proofs.Common.{◌≡◌, ℕ, ◌+◌, ◌-◌, ◌≤◌, List, [], ◌∷◌, ◌++◌, length, map, take, drop, refl, sym, ap, ◌∙◌, subst, arith, append_assoc, length-append}
use Rattle.std.specs.Prelude.{slice_range}
use Rattle.std.proofs.Math.Seq.{drop-append_seam, take-append_seam}
use Rattle.std.proofs.lemmas.List.{map-append}
use Rattle.rob_lex.specs.declared.token.Token.{Token}
use Rattle.rob_lex.specs.declared.place.Place.{Place}
use Rattle.rob_lex.specs.declared.piece.Shape.{Shape}
use Rattle.rob_lex.specs.declared.piece.Shape.TheVariants.{Lexeme, Gap, Comment}
use Rattle.rob_lex.specs.Pieces.{Piece, IsPlace}
use Rattle.rob_lex.specs.Places.{start, behind, token_at, tokens_of}
use Rattle.rob_lex.specs.Offences.{AreTokens}
use Rattle.rob_lex.specs.Slices.{lexed, lexed_at, lexed_of, InOrder}
use Rattle.rob_lex.proofs.PlaceLemmas.{goes_on, some_length}

-- the part between what is before it and what is behind it
middle : (front bytes after : List ℕ) (from to : ℕ) → from ≡ length front → to ≡ from + length bytes
    → slice_range (front ++ (bytes ++ after)) from to ≡ bytes
middle front bytes after from to begins ends =
    let len : to - from ≡ length bytes = omega arith in
    ap (λ (k : ℕ). take k (drop from (front ++ (bytes ++ after)))) len
    ∙ ap (λ (l : List ℕ). take (length bytes) l)
    (ap (λ (k : ℕ). drop k (front ++ (bytes ++ after))) begins ∙ drop-append_seam front (bytes ++ after))
    ∙ take-append_seam bytes after

one_slice : (front bytes after : List ℕ) (at : Place) (shape : Shape) → at.offset ≡ length front
    → map (lexed (front ++ (bytes ++ after))) (token_at at shape bytes) ≡ lexed_at shape bytes
one_slice front bytes after at (Lexeme kind) here = λ i. record {
  kind = kind;
  bytes = middle front bytes after at.offset (at.offset + length bytes) here refl i;
} ∷ []
one_slice front bytes after at Gap here = refl
one_slice front bytes after at Comment here = refl

slices_from : (front rest : List ℕ) (at : Place) (pieces : List Piece) (end : List ℕ) → at.offset ≡ length front
    → IsPlace rest pieces end → map (lexed (front ++ rest)) (tokens_of at pieces) ≡ lexed_of pieces
slices_from front rest at [] end here place = refl
slices_from front rest at (p ∷ pieces) end here place =
    let after = place.0 in
    let whole : front ++ rest ≡ (front ++ p.bytes) ++ after =
    ap (λ (l : List ℕ). front ++ l) place.1 ∙ sym (append_assoc front p.bytes after) in
    let next : (behind at p.shape p.bytes).offset ≡ length (front ++ p.bytes) =
    (goes_on at p.shape p.bytes).offset ∙ omega (arith, length-append front p.bytes) in
    map-append (lexed (front ++ rest)) (token_at at p.shape p.bytes) (tokens_of (behind at p.shape p.bytes) pieces)
    ∙ (λ i. (ap (λ (l : List ℕ). map (lexed (front ++ l)) (token_at at p.shape p.bytes)) place.1
    ∙ one_slice front p.bytes after at p.shape here) i
    ++ (ap (λ (t : List ℕ). map (lexed t) (tokens_of (behind at p.shape p.bytes) pieces)) whole
    ∙ slices_from (front ++ p.bytes) after (behind at p.shape p.bytes) pieces end next place.3) i)

pub slices : (text : List ℕ) (pieces : List Piece) → IsPlace text pieces []
    → map (lexed text) (tokens_of start pieces) ≡ lexed_of pieces
slices text pieces place = slices_from [] text start pieces [] refl place

in_order_shape : (from : ℕ) (text : List ℕ) (at : Place) (shape : Shape) (bytes : List ℕ) (ts : List Token)
    → from ≤ at.offset
    → ((next : ℕ) → next ≤ (behind at shape bytes).offset → InOrder next text ts)
    → InOrder from text (token_at at shape bytes ++ ts)
in_order_shape from text at (Lexeme kind) bytes ts here rest =
    (here, omega arith, rest (at.offset + length bytes) (omega (arith, (goes_on at (Lexeme kind) bytes).offset)))
in_order_shape from text at Gap bytes ts here rest = rest from (omega arith)
in_order_shape from text at Comment bytes ts here rest = rest from (omega arith)

in_order_from : (n from : ℕ) (text rest : List ℕ) (at : Place) (pieces : List Piece) (end : List ℕ) → from ≤ at.offset
    → at.offset + length rest ≤ length text → IsPlace rest pieces end → InOrder from text (tokens_of at pieces)
in_order_from n from text rest at [] end here within place = omega arith
in_order_from n from text rest at (p ∷ pieces) end here within place =
    in_order_shape from text at p.shape p.bytes (tokens_of (behind at p.shape p.bytes) pieces) here
    (λ next h. in_order_from n next text place.0 (behind at p.shape p.bytes) pieces end h
    (omega (arith, (goes_on at p.shape p.bytes).offset, ap length place.1, length-append p.bytes place.0)) place.3)

pub in_order : (text : List ℕ) (list : List Token) → AreTokens text list → InOrder 0 text list
in_order text list read =
    subst (InOrder 0 text) read.tokens
    (in_order_from 0 0 text text start read.pieces [] (omega arith) (omega arith) read.whole)

-- a token has a byte
tokens_from : (rest : List ℕ) (at : Place) (pieces : List Piece) (end : List ℕ) → IsPlace rest pieces end
    → length (tokens_of at pieces) ≤ length rest
tokens_from rest at [] end place = omega arith
tokens_from rest at (p ∷ pieces) end place =
    let more = tokens_from place.0 (behind at p.shape p.bytes) pieces end place.3 in
    let one = token_length at p.shape p.bytes in
    omega (
      arith,
      more,
      one,
      some_length p.shape p.bytes place.0 place.2,
      ap length place.1,
      length-append p.bytes place.0,
      length-append (token_at at p.shape p.bytes) (tokens_of (behind at p.shape p.bytes) pieces),
    )
  where
    token_length : (at : Place) (shape : Shape) (bytes : List ℕ) → length (token_at at shape bytes) ≤ 1
    token_length at (Lexeme kind) bytes = omega arith
    token_length at Gap bytes = omega arith
    token_length at Comment bytes = omega arith

pub at_most : (text : List ℕ) (list : List Token) → AreTokens text list → length list ≤ length text
at_most text list read = omega (arith, ap length read.tokens, tokens_from text start read.pieces [] read.whole)
