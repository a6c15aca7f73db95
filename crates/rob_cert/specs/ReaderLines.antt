-- A part of a certificate's text that one reader takes: its lines stand together, and lead on from the stages at which
-- they may begin.
use Rattle.std.specs.Prelude.{◌≡◌, true, ℕ, ◌+◌, List, [], ◌∷◌, ◌++◌, length, ◌⊎◌}
use Rattle.rob_algebra.specs.Fraction.{Fraction}
use Rattle.rob_meaning.specs.Certificates.{Status}
use Rattle.rob_meaning.specs.Names.{Name}
use Rattle.rob_cert.specs.Lines.{Line}
use Rattle.rob_cert.specs.Kinds.{Kind, may_follow}
use Rattle.rob_cert.specs.Reading.{BeginsWithLine, words_in, from, Stage, behind}
use Rattle.rob_cert.specs.Spelling.{Naming, lines_text}

-- the text does not begin with a line that has the word first
abbrev pub HasNoLineOf : Name → List ℕ → Type 0
HasNoLineOf word text =
    (line after : List ℕ) (more : List Name) → BeginsWithLine text line after → words_in line ≡ word ∷ more → ⊥

-- the line's first word
abbrev pub HasFirst : Name → List ℕ → Type 0
HasFirst word line = (more : List Name) × (words_in line ≡ word ∷ more)

-- the text is the lines and the rest, which begins on that line
pub record IsSection (names : Naming) (text : List ℕ) (number : ℕ) (lines : List (Line Fraction)) (rest : List ℕ)
    (line : ℕ) : Type 0 where
  pub split : text ≡ lines_text names lines ++ rest
  pub counted : line ≡ number + length lines

-- a line of the kind may stand at the stage, which has that form; the kind has at least that place there
pub record StandsAt (s : Status) (kind : Kind) (form place : ℕ) (stage : Stage) : Type 0 where
  pub last : Kind
  pub last_place : ℕ
  pub is : stage ≡ behind s last form last_place
  pub may : may_follow s last kind ≡ true
  pub anew : from last kind last_place ≡ place

-- the same where the kind has also at least that form
pub record StandsBehind (s : Status) (kind : Kind) (form place : ℕ) (stage : Stage) : Type 0 where
  pub last : Kind
  pub last_form : ℕ
  pub last_place : ℕ
  pub is : stage ≡ behind s last last_form last_place
  pub may : may_follow s last kind ≡ true
  pub form_anew : from last kind last_form ≡ form
  pub place_anew : from last kind last_place ≡ place

-- the last line was of the kind, or no line was read
abbrev pub IsThereOrIn : {A : Type 0} → Status → Kind → Stage → List A → Stage → Type 0
IsThereOrIn s kind stage lines new =
    ((lines ≡ []) × (new ≡ stage)) ⊎ ((form : ℕ) × (place : ℕ) × (new ≡ behind s kind form place))
