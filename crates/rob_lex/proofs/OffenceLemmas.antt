-- Which causes a place has, and which it is free of.
use Rattle.std.proofs.Common.{◌≡◌, ℕ, ◌+◌, ◌<◌, ◌≤◌, List, [], ◌∷◌, ◌++◌, length, get_or, take, drop, refl, sym, ap, ◌∙◌, subst, arith, take-append-drop}
use Rattle.rob_index.specs.Depths.{weight}
use Rattle.rob_lex.specs.declared.token.Kind.{Kind}
use Rattle.rob_lex.specs.declared.piece.Shape.{Shape}
use Rattle.rob_lex.specs.declared.piece.Shape.TheVariants.{Lexeme}
use Rattle.rob_lex.specs.declared.place.Place.{Place}
use Rattle.rob_lex.specs.declared.piece.Found.{Found}
use Rattle.rob_lex.specs.Pieces.{Stands, BeginsNoPiece}
use Rattle.rob_lex.specs.Found.{IsFound, IsFree}
use Rattle.rob_lex.specs.Places.{depth_at}
use Rattle.rob_lex.specs.declared.offence.Offence.TheVariants.{BadByte, TooManyTokens}
use Rattle.rob_lex.specs.Offences.{most_tokens, most_open, Cause, not_ascii, bad_byte, too_many_tokens, too_deep, OffendsHere}
use Rattle.rob_lex.proofs.PieceLemmas.{one_piece, some_bytes, begins_ascii, paren_is_sign}

-- a place with a piece behind it is free of causes where the counts allow the piece
pub free_of : (at : Place) (rest : List ℕ) (shape : Shape) (bytes after : List ℕ) → rest ≡ bytes ++ after
    → Stands shape bytes after → ((kind : Kind) → shape ≡ Lexeme kind → at.count < most_tokens)
    → (most_open < depth_at at + weight at.behind_sum → get_or rest 0 0 ≡ 40 → ⊥) → Cause at rest → ⊥
free_of at rest shape [] after split stands few shallow cause = some_bytes shape after stands
free_of at [] shape (x ∷ bytes) after split stands few shallow cause = cc
free_of at (b ∷ rest) shape (x ∷ bytes) after split stands few shallow (not_ascii beyond) =
    let first : b ≡ x = cc in
    let below = begins_ascii shape x bytes after stands in
    absurd (omega (arith, beyond))
free_of at (b ∷ rest) shape (x ∷ bytes) after split stands few shallow (bad_byte below none) =
    none shape (x ∷ bytes) after split stands
free_of at (b ∷ rest) shape (x ∷ bytes) after split stands few shallow (too_many_tokens many needs) =
    let one = one_piece shape (Lexeme needs.0) (x ∷ bytes) needs.1 after needs.2 stands needs.4 (sym split ∙ needs.3) in
    absurd (omega (arith, few needs.0 one.0))
free_of at (b ∷ rest) shape (x ∷ bytes) after split stands few shallow (too_deep fits deep paren) = shallow deep paren

pub free_here : (at : Place) (rest : List ℕ) (found : Found) → IsFound found rest
    → ((kind : Kind) → found.shape ≡ Lexeme kind → at.count < most_tokens)
    → (most_open < depth_at at + weight at.behind_sum → get_or rest 0 0 ≡ 40 → ⊥) → IsFree at rest found
free_here at rest found is few shallow = record {
  piece = is;
  no_cause = free_of at rest found.shape (take found.len rest) (drop found.len rest)
      (sym (take-append-drop found.len rest)) is.stands few shallow;
}

-- a place with a gap or a comment behind it is free
pub free_unless_token : (at : Place) (rest : List ℕ) (found : Found) → IsFound found rest
    → ((kind : Kind) → found.shape ≡ Lexeme kind → ⊥) → IsFree at rest found
free_unless_token at rest found is no_token =
    free_here at rest found is (λ kind h. absurd (no_token kind h))
    (λ deep paren. go (take found.len rest) (drop found.len rest) is.stands
    (sym (take-append-drop found.len rest)) paren)
  where
    go : (bytes after : List ℕ) → Stands found.shape bytes after → rest ≡ bytes ++ after → get_or rest 0 0 ≡ 40 → ⊥
    go [] after stands split paren = some_bytes found.shape after stands
    go (x ∷ bytes) after stands split paren =
        no_token _ (paren_is_sign found.shape x bytes after stands
        (sym (ap (λ (l : List ℕ). get_or l 0 0) split) ∙ paren))

-- the causes that the code names
pub bad_byte_here : (at : Place) (rest : List ℕ) → 0 < length rest → get_or rest 0 0 < 128 → BeginsNoPiece rest
    → OffendsHere at rest BadByte
bad_byte_here at [] some below none = absurd (omega arith)
bad_byte_here at (b ∷ rest) some below none = (bad_byte below none, refl)

pub too_many_here : (at : Place) (rest : List ℕ) (found : Found) (kind : Kind) → IsFound found rest
    → found.shape ≡ Lexeme kind → most_tokens ≤ at.count → OffendsHere at rest TooManyTokens
too_many_here at [] found kind is shape many = absurd (omega (arith, is.some, is.within))
too_many_here at (b ∷ rest) found kind is shape many =
    let stands =
    subst (λ (s : Shape). Stands s (take found.len (b ∷ rest)) (drop found.len (b ∷ rest))) shape is.stands in (
      too_many_tokens many (
        kind,
        take found.len (b ∷ rest),
        drop found.len (b ∷ rest),
        sym (take-append-drop found.len (b ∷ rest)),
        stands,
      ),
      refl,
    )
