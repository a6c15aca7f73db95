-- The piece at the front of some bytes, by its length.
use Rattle.std.specs.Prelude.{◌≡◌, ◌≢◌, ℕ, ◌<◌, ◌≤◌, Bool, true, false, List, [], ◌∷◌, take, drop, length}
use Rattle.rob_lex.specs.declared.piece.Found.{Found}
use Rattle.rob_lex.specs.declared.piece.Class.{Class}
use Rattle.rob_lex.specs.declared.piece.Class.TheVariants.{InWord, Digit, InComment}
use Rattle.rob_lex.specs.Bytes.{goes_on_word, is_digit, is_no_line_end, is_gap, is_short_sign, begins_long_sign}
use Rattle.rob_lex.specs.Pieces.{Stands}
use Rattle.rob_lex.specs.declared.place.Place.{Place}
use Rattle.rob_lex.specs.Offences.{Cause}

-- which bytes a run goes on over
abbrev pub passes : Class → ℕ → Bool
passes InWord b = goes_on_word b
passes Digit b = is_digit b
passes InComment b = is_no_line_end b

-- the piece of that shape and length stands at the front
pub record IsFound (found : Found) (bytes : List ℕ) : Type 0 where
  pub some : 0 < found.len
  pub within : found.len ≤ length bytes
  pub stands : Stands found.shape (take found.len bytes) (drop found.len bytes)

-- no piece of one or two bytes stands at the front
abbrev pub BeginsNoShortPiece : List ℕ → Type 0
BeginsNoShortPiece [] = Unit {0}
BeginsNoShortPiece (b ∷ []) = (b ≢ 10) × (is_gap b ≡ false) × (is_short_sign b ≡ false)
BeginsNoShortPiece (b ∷ c ∷ bytes) =
    (b ≢ 10) × (is_gap b ≡ false) × (is_short_sign b ≡ false) × (begins_long_sign b ≡ true → c ≢ 61)

-- the piece stands at the front of the bytes behind the place, and the place doesn't offend
pub record IsFree (at : Place) (bytes : List ℕ) (found : Found) : Type 0 where
  pub piece : IsFound found bytes
  pub no_cause : Cause at bytes → ⊥
