-- The places of a text, and how far a reader that goes from one to the next has come.
use Rattle.std.proofs.Common.{◌≡◌, ℕ, ◌+◌, ◌<◌, ◌≤◌, ◌==◌, ⊎_elim, Bool, true, false, List, [], ◌∷◌, ◌++◌, length, drop, get_or, refl, sym, ap, ◌∙◌, subst, arith, length-append, append-nil, append_assoc}
use Rattle.std.specs.Prelude.{if◌then◌else◌}
use Rattle.std.proofs.str.Laws.{order}
use Rattle.rob_index.specs.Depths.{weight}
use Rattle.rob_lex.specs.declared.token.Token.{Token}
use Rattle.rob_lex.specs.declared.place.Place.{Place}
use Rattle.rob_lex.specs.declared.piece.Shape.{Shape}
use Rattle.rob_lex.specs.declared.piece.Shape.TheVariants.{Lexeme, Gap, Comment}
use Rattle.rob_lex.specs.declared.token.Kind.TheVariants.{Word, Digits, Sign, LineEnd}
use Rattle.rob_lex.specs.Pieces.{Piece, Stands, IsPlace}
use Rattle.rob_lex.specs.Places.{start, depth_at, weights_behind, behind, behind_all, token_at, tokens_of}
use Rattle.rob_lex.specs.Weights.{total}
use Rattle.rob_lex.specs.declared.offence.Offence.{Offence}
use Rattle.rob_lex.specs.Offences.{most_tokens, most_open, Cause, too_many_tokens, too_deep, offence_of, Offends, AreTokens}
use Rattle.rob_lex.proofs.PieceLemmas.{some_bytes, one_piece}
use Rattle.std.proofs.lemmas.Bool.{eqb-true}

-- a place has no more bytes behind it than the text
pub rest_le : (text : List ℕ) (pieces : List Piece) (rest : List ℕ) → IsPlace text pieces rest
    → length rest ≤ length text
rest_le text [] rest same = omega (arith, ap length same)
rest_le text (p ∷ pieces) rest place =
    omega (arith, ap length place.1, length-append p.bytes place.0, rest_le place.0 pieces rest place.3)

-- a piece has a byte
pub some_length : (shape : Shape) (bytes after : List ℕ) → Stands shape bytes after → 0 < length bytes
some_length shape [] after stands = absurd (some_bytes shape after stands)
some_length shape (b ∷ bytes) after stands = omega arith

pub rest_lt : (text : List ℕ) (p : Piece) (pieces : List Piece) (rest : List ℕ) → IsPlace text (p ∷ pieces) rest
    → length rest < length text
rest_lt text p pieces rest place =
    omega (
      arith,
      ap length place.1,
      length-append p.bytes place.0,
      rest_le place.0 pieces rest place.3,
      some_length p.shape p.bytes place.0 place.2,
    )

-- of two places of one text the one with fewer bytes behind it lies behind the other
pub further : (text : List ℕ) (ps : List Piece) (rest : List ℕ) (qs : List Piece) (end : List ℕ) → IsPlace text ps rest
    → IsPlace text qs end → length end ≤ length rest → (more : List Piece) × (qs ≡ ps ++ more) × IsPlace rest more end
further text [] rest qs end same place h = (qs, refl, subst (λ (t : List ℕ). IsPlace t qs end) same place)
further text (p ∷ ps) rest [] end place same h = absurd (omega (arith, rest_lt text p ps rest place, ap length same))
further text (p ∷ ps) rest (q ∷ qs) end place other h =
    let one = one_piece p.shape q.shape p.bytes q.bytes place.0 other.0 place.2 other.2 (sym place.1 ∙ other.1) in
    let same : q ≡ p = λ i. record { shape = (sym one.0) i; bytes = (sym one.1) i } in
    let step = further place.0 ps rest qs end place.3
    (subst (λ (t : List ℕ). IsPlace t qs end) (sym one.2) other.3) h in
    (step.0, (λ i. same i ∷ step.1 i), step.2)

-- one piece more
behind_all-push : (at : Place) (ps : List Piece) (p : Piece)
    → behind_all at (ps ++ p ∷ []) ≡ behind (behind_all at ps) p.shape p.bytes
behind_all-push at [] p = refl
behind_all-push at (q ∷ ps) p = behind_all-push (behind at q.shape q.bytes) ps p

tokens_of-push : (at : Place) (ps : List Piece) (p : Piece)
    → tokens_of at (ps ++ p ∷ []) ≡ tokens_of at ps ++ token_at (behind_all at ps) p.shape p.bytes
tokens_of-push at [] p = append-nil (token_at at p.shape p.bytes)
tokens_of-push at (q ∷ ps) p =
    ap (λ ts. token_at at q.shape q.bytes ++ ts) (tokens_of-push (behind at q.shape q.bytes) ps p)
    ∙ sym (append_assoc (token_at at q.shape q.bytes) (tokens_of (behind at q.shape q.bytes) ps) _)

IsPlace-push : (text : List ℕ) (ps : List Piece) (rest : List ℕ) (p : Piece) (after : List ℕ) → IsPlace text ps rest
    → rest ≡ p.bytes ++ after → Stands p.shape p.bytes after → IsPlace text (ps ++ p ∷ []) after
IsPlace-push text [] rest p after same split stands = (after, same ∙ split, stands, refl)
IsPlace-push text (q ∷ ps) rest p after place split stands =
    (place.0, place.1, place.2, IsPlace-push place.0 ps rest p after place.3 split stands)

-- the reader stands at this place of the text, with these tokens before it, and no earlier place offends
pub record Reached (text rest : List ℕ) (at : Place) (tokens : List Token) : Type 0 where
  pub pieces : List Piece
  pub place : IsPlace text pieces rest
  pub at_is : behind_all start pieces ≡ at
  pub tokens_are : tokens_of start pieces ≡ tokens
  pub first : (ps : List Piece) (bytes : List ℕ) → IsPlace text ps bytes → Cause (behind_all start ps) bytes
      → length bytes ≤ length rest

pub reached_start : (text : List ℕ) → Reached text text start []
reached_start text = record {
  pieces = [];
  place = refl;
  at_is = refl;
  tokens_are = refl;
  first = λ ps bytes place cause. rest_le text ps bytes place;
}

-- an offending place that has as few bytes behind it as this one is this one, or lies behind the piece here
offends_behind : (text rest : List ℕ) (at : Place) (pieces : List Piece) (p : Piece) (after : List ℕ)
    → IsPlace text pieces rest → behind_all start pieces ≡ at → rest ≡ p.bytes ++ after
    → Stands p.shape p.bytes after → (Cause at rest → ⊥)
    → (ps : List Piece) (bytes : List ℕ) → IsPlace text ps bytes → Cause (behind_all start ps) bytes
    → length bytes ≤ length rest → length bytes ≤ length after
offends_behind text rest at pieces p after here at_is split stands no_cause ps bytes place cause within =
    let way = further text pieces rest ps bytes here place within in
    go way.0 way.1 way.2
  where
    go : (more : List Piece) → ps ≡ pieces ++ more → IsPlace rest more bytes → length bytes ≤ length after
    go [] same end =
        absurd (no_cause
        (subst (λ (b : List ℕ). Cause at b) (sym end)
        (subst (λ (a : Place). Cause a bytes) (ap (behind_all start) (same ∙ append-nil pieces) ∙ at_is) cause)))
    go (q ∷ more) same end =
        let one = one_piece q.shape p.shape q.bytes p.bytes end.0 after end.2 stands (sym end.1 ∙ split) in
        omega (arith, rest_le end.0 more bytes end.3, ap length one.2)

pub reached_next : {text rest : List ℕ} {at : Place} {tokens : List Token} → Reached text rest at tokens
    → (shape : Shape) (bytes after : List ℕ) → rest ≡ bytes ++ after → Stands shape bytes after → (Cause at rest → ⊥)
    → Reached text after (behind at shape bytes) (tokens ++ token_at at shape bytes)
reached_next {text} {rest} {at} {tokens} r shape bytes after split stands no_cause =
    let p : Piece = record { shape = shape; bytes = bytes } in
    record {
      pieces = r.pieces ++ p ∷ [];
      place = IsPlace-push text r.pieces rest p after r.place split stands;
      at_is = behind_all-push start r.pieces p ∙ ap (λ (a : Place). behind a shape bytes) r.at_is;
      tokens_are = tokens_of-push start r.pieces p ∙ (λ i. r.tokens_are i ++ token_at (r.at_is i) shape bytes);
      first = λ ps rest' place cause.
          offends_behind text rest at r.pieces p after r.place r.at_is split stands no_cause ps rest' place cause
          (r.first ps rest' place cause);
    }

pub offends_here : {text rest : List ℕ} {at : Place} {tokens : List Token} → Reached text rest at tokens
    → (offence : Offence) → (cause : Cause at rest) × (offence_of cause ≡ offence) → Offends text offence at.line
offends_here {text} {rest} {at} {tokens} r offence cause =
    let moved = subst (λ (a : Place). (c : Cause a rest) × (offence_of c ≡ offence)) (sym r.at_is) cause in
    record {
      before = r.pieces;
      rest = rest;
      place = r.place;
      cause = moved.0;
      offence_is = moved.1;
      line_is = ap (λ (a : Place). a.line) r.at_is;
      first = r.first;
    }

none_left : (text : List ℕ) → length text ≤ 0 → text ≡ []
none_left [] h = refl
none_left (b ∷ text) h = absurd (omega arith)

pub read_whole : {text : List ℕ} {at : Place} {tokens : List Token} → Reached text [] at tokens
    → (Cause at [] → ⊥) → AreTokens text tokens
read_whole {text} {at} {tokens} r no_cause = record {
  pieces = r.pieces;
  whole = r.place;
  tokens = r.tokens_are;
  sound = λ ps rest place cause.
      let end = none_left rest (r.first ps rest place cause) in
      let way = further text r.pieces [] ps rest r.place place (r.first ps rest place cause) in
      go r.pieces r.at_is ps rest cause end way.0 way.1 way.2;
}
  where
    go : (pieces : List Piece) → behind_all start pieces ≡ at → (ps : List Piece) (rest : List ℕ)
        → Cause (behind_all start ps) rest → rest ≡ [] → (more : List Piece) → ps ≡ pieces ++ more
        → IsPlace [] more rest → ⊥
    go pieces at_is ps rest cause end [] same place =
        no_cause (subst (λ (b : List ℕ). Cause at b) end
        (subst (λ (a : Place). Cause a rest) (ap (behind_all start) (same ∙ append-nil pieces) ∙ at_is) cause))
    go pieces at_is ps rest cause end (q ∷ more) same place = absurd (omega (arith, rest_lt [] q more rest place))

pub read_at_end : {text rest : List ℕ} {at : Place} {tokens : List Token} → Reached text rest at tokens
    → length rest ≤ 0 → (Cause at [] → ⊥) → AreTokens text tokens
read_at_end {text} {rest} {at} {tokens} r none no_cause =
    read_whole (subst (λ (l : List ℕ). Reached text l at tokens) (none_left rest none) r) no_cause

pub offends_at_end : {text rest : List ℕ} {at : Place} {tokens : List Token} → Reached text rest at tokens
    → length rest ≤ 0 → (offence : Offence) → (cause : Cause at []) × (offence_of cause ≡ offence)
    → Offends text offence at.line
offends_at_end {text} {rest} {at} {tokens} r none offence cause =
    offends_here (subst (λ (l : List ℕ). Reached text l at tokens) (none_left rest none) r) offence cause

-- how the counts go on behind a piece
pub record GoesOn (at next : Place) (bytes : List ℕ) : Type 0 where
  pub offset : next.offset ≡ at.offset + length bytes
  pub line : next.line ≤ at.line + 1
  pub count : next.count ≤ at.count + 1

pub goes_on : (at : Place) (shape : Shape) (bytes : List ℕ) → GoesOn at (behind at shape bytes) bytes
goes_on at (Lexeme Word) bytes = record { offset = refl; line = omega arith; count = omega arith }
goes_on at (Lexeme Digits) bytes = record { offset = refl; line = omega arith; count = omega arith }
goes_on at (Lexeme Sign) bytes = record { offset = refl; line = omega arith; count = omega arith }
goes_on at (Lexeme LineEnd) bytes = record { offset = refl; line = omega arith; count = omega arith }
goes_on at Gap bytes = record { offset = refl; line = omega arith; count = omega arith }
goes_on at Comment bytes = record { offset = refl; line = omega arith; count = omega arith }

-- ---- how deep a place is behind a piece that may stand there
total-drop : (ws : List ℕ) → total (drop 1 ws) ≤ total ws
total-drop [] = omega arith
total-drop (w ∷ ws) = omega arith

-- behind a sign
sign_shallow : (at : Place) (sign : List ℕ)
    → (get_or sign 0 0 ≡ 40 → depth_at at + weight at.behind_sum ≤ most_open) → depth_at at ≤ most_open
    → total (weights_behind sign at.behind_sum at.weights) ≤ most_open
sign_shallow at sign may shallow = go (get_or sign 0 0 == 40) (get_or sign 0 0 == 41) refl
  where
    go : (opens closes : Bool) → (get_or sign 0 0 == 40) ≡ opens
        → total (if opens then weight at.behind_sum
        ∷ at.weights else (if closes then drop 1 at.weights else at.weights))
        ≤ most_open
    go true closes is = let h = may (eqb-true (get_or sign 0 0) 40 is) in omega (arith, h)
    go false true is = omega (arith, total-drop at.weights)
    go false false is = shallow

pub stays_shallow : (at : Place) (rest : List ℕ) (shape : Shape) (bytes after : List ℕ) → rest ≡ bytes ++ after
    → Stands shape bytes after → (Cause at rest → ⊥) → depth_at at ≤ most_open
    → depth_at (behind at shape bytes) ≤ most_open
stays_shallow at rest (Lexeme Word) bytes after split stands free shallow = shallow
stays_shallow at rest (Lexeme Digits) bytes after split stands free shallow = shallow
stays_shallow at rest (Lexeme LineEnd) bytes after split stands free shallow = omega arith
stays_shallow at rest Gap bytes after split stands free shallow = shallow
stays_shallow at rest Comment bytes after split stands free shallow = shallow
stays_shallow at rest (Lexeme Sign) bytes after split stands free shallow =
    sign_shallow at bytes (λ is. opens rest bytes split stands free is) shallow
  where
    opens : (rest bytes : List ℕ) → rest ≡ bytes ++ after → Stands (Lexeme Sign) bytes after → (Cause at rest → ⊥)
        → get_or bytes 0 0 ≡ 40 → depth_at at + weight at.behind_sum ≤ most_open
    opens rest [] split stands free is = absurd stands
    opens [] (b ∷ bytes) split stands free is = cc
    opens (c ∷ rest) (b ∷ bytes) split stands free is =
        ⊎_elim
        (λ (deep : most_open < depth_at at + weight at.behind_sum).
        ⊎_elim (λ (few : at.count < most_tokens). let same : c ≡ b = cc in
        absurd (free (too_deep few deep (same ∙ is))))
        (λ (many : most_tokens ≤ at.count).
        absurd (free (too_many_tokens many (Sign, b ∷ bytes, after, split, stands))))
        (order at.count most_tokens))
        (λ (fits : depth_at at + weight at.behind_sum ≤ most_open). fits)
        (order most_open (depth_at at + weight at.behind_sum))
