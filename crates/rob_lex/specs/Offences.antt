-- When a text has tokens, and which offence at which line decides where it has none.
use Rattle.std.specs.Prelude.{◌≡◌, ℕ, ◌+◌, ◌<◌, ◌≤◌, true, ◌⊎◌, List, [], ◌∷◌, length}
use Rattle.rob_index.specs.Depths.{weight}
-- the tokens that a text may have, line ends among them
pub use Rattle.rob_index.specs.Rules.{most_tokens}
use Rattle.rob_lex.specs.declared.token.Token.{Token}
use Rattle.rob_lex.specs.declared.error.LexErr.{LexErr}
use Rattle.rob_lex.specs.declared.error.LexErr.TheVariants.{Rule, Memory}
use Rattle.rob_lex.specs.declared.offence.Offence.{Offence}
use Rattle.rob_lex.specs.declared.offence.Offence.TheVariants.{NotAscii, BadByte, TooManyTokens, TooDeep}
use Rattle.rob_lex.specs.declared.place.Place.{Place}
use Rattle.rob_lex.specs.Pieces.{Piece, IsPlace, BeginsNoPiece, BeginsToken}
use Rattle.rob_lex.specs.Places.{start, depth_at, behind_all, tokens_of}

-- the parentheses that may be open at once on a line, where one directly behind the word `sum` counts as two
abbrev pub most_open : ℕ
most_open = 50

-- the bytes begin with one of which this holds
abbrev pub BeginsWith : (ℕ → Type 0) → List ℕ → Type 0
BeginsWith P [] = ⊥
BeginsWith P (b ∷ bytes) = P b

-- one more token stands here: one that begins here, or the line end that counts behind an open last line
abbrev pub NeedsToken : Place → List ℕ → Type 0
NeedsToken at [] = at.begun ≡ true
NeedsToken at (b ∷ bytes) = BeginsToken (b ∷ bytes)

-- what is wrong at a place that has these bytes behind it
pub data Cause (at : Place) (rest : List ℕ) : Type 0 where
  -- the next byte isn't ASCII (a comment's bytes have no place between them, so they aren't looked at)
  not_ascii : BeginsWith (λ b. 128 ≤ b) rest → Cause at rest
  -- another byte begins no piece
  bad_byte : BeginsWith (λ b. b < 128) rest → BeginsNoPiece rest → Cause at rest
  -- a token more than a text may have
  too_many_tokens : most_tokens ≤ at.count → NeedsToken at rest → Cause at rest
  -- a parenthesis opens more than a line may have; where the token is too many as well, that decides
  too_deep : at.count < most_tokens → most_open < depth_at at + weight at.behind_sum → BeginsWith (λ b. b ≡ 40) rest
      → Cause at rest

-- the offence of a cause
abbrev pub offence_of : {at : Place} {rest : List ℕ} → Cause at rest → Offence
offence_of (not_ascii _) = NotAscii
offence_of (bad_byte _ _) = BadByte
offence_of (too_many_tokens _ _) = TooManyTokens
offence_of (too_deep _ _ _) = TooDeep

-- the place offends so
abbrev pub OffendsHere : Place → List ℕ → Offence → Type 0
OffendsHere at rest offence = (cause : Cause at rest) × (offence_of cause ≡ offence)

-- the text offends on a line: its first offending place decides
pub record Offends (text : List ℕ) (offence : Offence) (line : ℕ) : Type 0 where
  pub before : List Piece
  pub rest : List ℕ
  pub place : IsPlace text before rest
  pub cause : Cause (behind_all start before) rest
  pub offence_is : offence_of cause ≡ offence
  pub line_is : (behind_all start before).line ≡ line
  -- no offending place is earlier, that is, has more bytes behind it
  pub first : (pieces : List Piece) (bytes : List ℕ)
      → IsPlace text pieces bytes → Cause (behind_all start pieces) bytes → length bytes ≤ length rest

-- the text has these tokens
pub record AreTokens (text : List ℕ) (list : List Token) : Type 0 where
  pub pieces : List Piece
  pub whole : IsPlace text pieces []
  pub tokens : tokens_of start pieces ≡ list
  -- no place offends
  pub sound : (before : List Piece) (rest : List ℕ) → IsPlace text before rest
      → Cause (behind_all start before) rest → ⊥

-- the number of an offence's rule
abbrev pub rule_of : Offence → ℕ
rule_of NotAscii = 1
rule_of BadByte = 2
rule_of TooManyTokens = 3
rule_of TooDeep = 4

-- the text breaks the rule on the line
abbrev pub Breaks : List ℕ → ℕ → ℕ → Type 0
Breaks text rule line = (offence : Offence) × (rule_of offence ≡ rule) × Offends text offence line

-- a refusal's cause; want of memory has none
abbrev pub HasCause : List ℕ → LexErr → Type 0
HasCause text (Rule rule line) = Breaks text rule line
HasCause text Memory = Unit {0}

-- the text has tokens, or breaks a rule
abbrev pub HasReading : List ℕ → Type 0
HasReading text =
    ((list : List Token) × AreTokens text list) ⊎ ((rule : ℕ) × (line : ℕ) × Breaks text rule line)
