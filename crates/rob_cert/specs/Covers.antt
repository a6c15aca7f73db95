-- The lines of covers, and of holds: what their reader tells of them.
use Rattle.std.specs.Prelude.{Bool, false, ◌≡◌, ◌≢◌, ℕ, ◌<◌, List, [], length}
use Rattle.rob_algebra.specs.Fraction.{Fraction}
use Rattle.rob_algebra.specs.Width.{Fits}
use Rattle.rob_meaning.specs.Certificates.{Status, Cover, IsBefore}
use Rattle.rob_meaning.specs.Names.{Name}
use Rattle.rob_meaning.specs.Places.{0ℚ, Each, InOrder}
use Rattle.rob_cert.specs.declared.error.Offence.{Offence}
use Rattle.rob_cert.specs.declared.error.Offence.TheVariants.{NoLine, NoShape, NoNumber}
use Rattle.rob_cert.specs.declared.kind.Multipliers.{Multipliers}
use Rattle.rob_cert.specs.Lines.{Line, cover_line, cover_lines}
use Rattle.rob_cert.specs.Kinds.{multipliers}
use Rattle.rob_cert.specs.Reading.{Stage, IsAtLeast, IsNotZeroWord, Leads}
use Rattle.rob_cert.specs.Spelling.{Naming, multipliers_word, name_at, words_of, spelled}
use Rattle.rob_cert.specs.ReaderLines.{HasNoLineOf, IsSection, StandsBehind, IsThereOrIn}

module _ (names : Naming) (limit : ℕ) where
  -- the words are a cover of that form and set row, which is at least that form and place
  pub record IsCoverLine (which : Multipliers) (form place : ℕ) (words : List Name) (i r : ℕ)
      (q : Fraction) : Type 0 where
    pub is : words ≡ words_of names (spelled (cover_line which i r q))
    pub ordered : IsAtLeast form place i r
    pub form_named : i < length names.forms
    pub row_named : r < length names.set_rows
    pub not_zero : q ≢ 0ℚ

  -- the same with any word for the number
  pub record IsCoverShape (which : Multipliers) (form place : ℕ) (words : List Name) (i r : ℕ)
      (word : Name) : Type 0 where
    pub is : words ≡ words_of names (cover_line which i r word)
    pub ordered : IsAtLeast form place i r
    pub form_named : i < length names.forms
    pub row_named : r < length names.set_rows
    pub not_zero : IsNotZeroWord word

  -- why the words of a line of that kind are no cover
  abbrev pub HasCoverFault : Multipliers → (form place : ℕ) → List Name → Offence → Type 0
  HasCoverFault which form place words NoLine = length words ≢ 4
  HasCoverFault which form place words NoShape =
      (length words ≡ 4) × ((i r : ℕ) (word : Name) → IsCoverShape which form place words i r word → ⊥)
  HasCoverFault which form place words NoNumber =
      (i : ℕ) × (r : ℕ) × (word : Name) × IsCoverShape which form place words i r word
      × ((q : Fraction) → Fits limit q → (j k : ℕ) → words ≡ words_of names (spelled (cover_line which j k q)) → ⊥)

  -- the covers lead on from each stage at which they may begin
  abbrev pub CoversLeadOn : Multipliers → (form place : ℕ) → List (Line Fraction) → Type 0
  CoversLeadOn which form place lines = (s : Status) (stage : Stage) → StandsBehind s (multipliers which) 0 0 stage
      → (new : Stage) × Leads names limit stage lines new × StandsBehind s (multipliers which) form place new
      × IsThereOrIn s (multipliers which) stage lines new

-- the cover's form and set row have names, and its amount isn't 0
pub record IsGoodCover (names : Naming) (c : Cover) : Type 0 where
  pub form : c.form < length names.forms
  pub set_row : c.set_row < length names.set_rows
  pub amount : c.amount ≢ 0ℚ

-- the pair of names is found: the form first, and then the set row
pub record IsPair (names : Naming) (form place : ℕ) (form_name row_name : Name) (i r : ℕ) : Type 0 where
  pub ordered : IsAtLeast form place i r
  pub form_named : i < length names.forms
  pub row_named : r < length names.set_rows
  pub form_is : name_at names.forms i ≡ form_name
  pub row_is : name_at names.set_rows r ≡ row_name

-- what is read of a text: the lines of good covers in order, and behind them no further line of that kind
pub record AreCovers (names : Naming) (limit : ℕ) (which : Multipliers) (text : List ℕ) (number : ℕ) (cs : List Cover)
    (rest : List ℕ) (line : ℕ) : Type 0 where
  pub section : IsSection names text number (cover_lines which cs) rest line
  pub each : Each (IsGoodCover names) cs
  pub ordered : InOrder IsBefore cs
  pub form : ℕ
  pub place : ℕ
  pub leads : CoversLeadOn names limit which form place (cover_lines which cs)
  pub stopped : HasNoLineOf (multipliers_word which) rest

-- the covers are good ones in order, and there are none where they are not used
pub record AreGoodCovers (names : Naming) (is_there : Bool) (cs : List Cover) : Type 0 where
  pub each : Each (IsGoodCover names) cs
  pub ordered : InOrder IsBefore cs
  pub unused : is_there ≡ false → cs ≡ []
