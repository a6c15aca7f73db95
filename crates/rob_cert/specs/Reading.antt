-- How the text of a certificate is read line by line, and which line breaks which rule. A reader stands behind the
-- lines that it has taken; the next line breaks a rule where no such line may stand there.
use Rattle.std.specs.Prelude.{◌≡◌, ◌≢◌, ℕ, suc, ◌+◌, ◌<◌, ◌≤◌, nat_eq, true, ◌⊎◌, List, [], ◌∷◌, ◌++◌, length, codes, if◌then◌else◌, ◌==◌}
use Rattle.rob_algebra.specs.Fraction.{Fraction}
use Rattle.rob_algebra.specs.Width.{Fits}
use Rattle.rob_meaning.specs.Certificates.{Status}
use Rattle.rob_meaning.specs.Names.{Name}
use Rattle.rob_meaning.specs.Places.{0ℚ, Each}
use Rattle.rob_cert.specs.declared.error.Offence.{Offence}
use Rattle.rob_cert.specs.declared.error.Offence.TheVariants.{NoLine, NoShape, NoNumber}
use Rattle.rob_cert.specs.Lines.{Line, status_line, value_line, scale_line, entry_line, cover_line, item_line, end_line}
use Rattle.rob_cert.specs.Spelling.{Naming, entry_names, status_word, words_of, spelled, lines_text}
use Rattle.rob_cert.specs.Kinds.{Kind, claims, values, scales, items, ends, entries, multipliers, kind_of, word_of, argument_count, rank, may_follow}

-- ---- lines and words of a text
-- the byte is not in the text
abbrev pub Lacks : ℕ → List ℕ → Type 0
Lacks byte text = Each (λ b. b ≢ byte) text

-- the text begins with the line, and `behind` stands behind the line's end
pub record BeginsWithLine (text line behind : List ℕ) : Type 0 where
  pub split : text ≡ line ++ 10 ∷ behind
  pub whole : Lacks 10 line

-- a byte before the first word
abbrev pub with_first : ℕ → List Name → List Name
with_first b [] = (b ∷ []) ∷ []
with_first b (word ∷ words) = (b ∷ word) ∷ words

-- the words of a line: it is split at each space
abbrev pub words_in : List ℕ → List Name
words_in [] = [] ∷ []
words_in (b ∷ line) = if b == 32 then ([] ∷ words_in line) else with_first b (words_in line)

-- ---- where a reader stands: at the start; or behind a line of a kind, in a certificate of a status, where the next
-- line of that kind has at least that form, and at that form at least that place
pub data Stage : Type 0 where
  start : Stage
  behind : Status → (last : Kind) → (form place : ℕ) → Stage

-- a line of the kind may stand there
abbrev pub MayStand : Stage → Kind → Type 0
MayStand start claims = Unit {0}
MayStand start kind = ⊥
MayStand (behind s last form place) kind = may_follow s last kind ≡ true

-- each kind begins anew
abbrev pub from : Kind → Kind → ℕ → ℕ
from last kind n = if nat_eq (rank last) (rank kind) then n else 0

-- the form is behind, or it is the same and the place is
abbrev pub IsAtLeast : (form place i r : ℕ) → Type 0
IsAtLeast form place i r = (form < i) ⊎ ((form ≡ i) × (place ≤ r))

-- the stage behind one more line
abbrev pub advanced : {A : Type 0} → Stage → Line A → Stage
advanced start (status_line s) = behind s claims 0 0
advanced (behind s last form place) (value_line a) = behind s values 0 0
advanced (behind s last form place) (scale_line a) = behind s scales 0 0
advanced (behind s last form place) (entry_line v k a) = behind s (entries v) form (suc k)
advanced (behind s last form place) (cover_line which i r a) = behind s (multipliers which) i (suc r)
advanced (behind s last form place) (item_line i w b) = behind s items i 0
advanced (behind s last form place) end_line = behind s ends 0 0
advanced stage line = stage

-- a word that stands for a number is not the canonical 0
abbrev pub IsNotZeroWord : Name → Type 0
IsNotZeroWord word = word ≢ codes "0"

-- the number isn't 0
abbrev pub IsNotZero : Fraction → Type 0
IsNotZero q = q ≢ 0ℚ

-- the words are those of a line of the kind, by their first and their number
pub record HasWords (kind : Kind) (words : List Name) : Type 0 where
  pub arguments : List Name
  pub spelled : words ≡ word_of kind ∷ arguments
  pub count : length arguments ≡ argument_count kind

-- the words are those of a line of a kind that may stand at the stage; a status line has the word of a status
abbrev pub IsLineAt : Stage → List Name → Type 0
IsLineAt start words = (s : Status) × (words ≡ codes "certificate" ∷ (status_word s ∷ []))
IsLineAt stage words = (kind : Kind) × MayStand stage kind × HasWords kind words

module _ (names : Naming) (limit : ℕ) where
  -- what a line names exists and stands in order, and what must not be 0 isn't
  abbrev pub IsPlaced : {A : Type 0} → (A → Type 0) → Stage → Line A → Type 0
  IsPlaced NotZero (behind s last form place) (entry_line v k a) =
      (from last (entries v) place ≤ k) × (k < length (entry_names names v)) × NotZero a
  IsPlaced NotZero (behind s last form place) (cover_line which i r a) =
      IsAtLeast (from last (multipliers which) form) (from last (multipliers which) place) i r
      × (i < length names.forms) × (r < length names.set_rows) × NotZero a
  IsPlaced NotZero (behind s last form place) (item_line i w b) =
      (from last items form ≤ i) × (i < length names.forms)
  IsPlaced NotZero stage line = Unit {0}

  -- the line may stand at the stage
  pub record Follows {A : Type 0} (NotZero : A → Type 0) (stage : Stage) (line : Line A) : Type 0 where
    pub kind : MayStand stage (kind_of line)
    pub placed : IsPlaced NotZero stage line

  -- the numbers of a line fit
  abbrev pub FitsLine : Line Fraction → Type 0
  FitsLine (status_line s) = Unit {0}
  FitsLine (value_line q) = Fits limit q
  FitsLine (scale_line q) = Fits limit q
  FitsLine (entry_line v k q) = Fits limit q
  FitsLine (cover_line which i r q) = Fits limit q
  FitsLine (item_line i w b) = Fits limit w × Fits limit b
  FitsLine end_line = Unit {0}

  -- ---- what the words of the next line can be
  -- they are a line that may stand there, with some words for its numbers
  abbrev pub IsShapedAt : Stage → List Name → Type 0
  IsShapedAt stage words = (line : Line Name) × (words_of names line ≡ words) × Follows IsNotZeroWord stage line

  -- they are a line that may stand there, with numbers that fit
  abbrev pub IsNumberedAt : Stage → List Name → Type 0
  IsNumberedAt stage words =
      (line : Line Fraction) × (words_of names (spelled line) ≡ words) × Follows IsNotZero stage line × FitsLine line

  -- why the text has no further line there: no line of a kind that may stand there, an end among them; such a line, but
  -- not with names and an order; such a line, but not with numbers
  abbrev pub IsCause : Stage → List ℕ → Offence → Type 0
  IsCause stage text NoLine = (line after : List ℕ) → BeginsWithLine text line after → IsLineAt stage (words_in line)
      → ⊥
  IsCause stage text NoShape = (line after : List ℕ) × BeginsWithLine text line after
      × IsLineAt stage (words_in line) × (IsShapedAt stage (words_in line) → ⊥)
  IsCause stage text NoNumber = (line after : List ℕ) × BeginsWithLine text line after
      × IsShapedAt stage (words_in line) × (IsNumberedAt stage (words_in line) → ⊥)

  -- ---- lines behind lines
  -- the lines lead from a stage to another, each being one that may stand where it stands
  abbrev pub Leads : Stage → List (Line Fraction) → Stage → Type 0
  Leads stage [] last = stage ≡ last
  Leads stage (line ∷ lines) last = Follows IsNotZero stage line × FitsLine line
      × Leads (advanced stage line) lines last

  -- from a stage on, the text's lines are good up to one that has the offence, the first line of the text being
  -- `number`
  pub record BreaksFrom (from_stage : Stage) (text : List ℕ) (number : ℕ) (offence : Offence) (line : ℕ) : Type 0 where
    pub before : List (Line Fraction)
    pub stage : Stage
    pub rest : List ℕ
    pub good : Leads from_stage before stage
    pub split : text ≡ lines_text names before ++ rest
    pub number_is : line ≡ number + length before
    pub cause : IsCause stage rest offence
    -- nothing is missing behind the end
    pub more : (s : Status) (form place : ℕ) → stage ≡ behind s ends form place → rest ≢ []
