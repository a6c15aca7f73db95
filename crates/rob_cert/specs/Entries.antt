-- The lines of a vector: what their reader tells of them.
use Rattle.std.specs.Prelude.{◌≡◌, ◌≢◌, ℕ, ◌<◌, ◌≤◌, List, length, slice_index_or}
use Rattle.rob_algebra.specs.Fraction.{Fraction}
use Rattle.rob_algebra.specs.Width.{Fits}
use Rattle.rob_meaning.specs.Certificates.{Status}
use Rattle.rob_meaning.specs.Names.{Name}
use Rattle.rob_meaning.specs.Places.{0ℚ}
use Rattle.rob_cert.specs.declared.error.Offence.{Offence}
use Rattle.rob_cert.specs.declared.error.Offence.TheVariants.{NoLine, NoShape, NoNumber}
use Rattle.rob_cert.specs.declared.kind.Vector.{Vector}
use Rattle.rob_cert.specs.Lines.{Line, entry_line, entry_lines}
use Rattle.rob_cert.specs.Kinds.{Kind, entries}
use Rattle.rob_cert.specs.Reading.{Stage, IsNotZeroWord, Leads}
use Rattle.rob_cert.specs.Spelling.{Naming, entry_names, vector_word, words_of, spelled}
use Rattle.rob_cert.specs.ReaderLines.{HasNoLineOf, IsSection, StandsAt, IsThereOrIn}

-- a vector of that many zeros
pub record IsZeroVector (count : ℕ) (qs : List Fraction) : Type 0 where
  pub size : length qs ≡ count
  pub zero_at : (k : ℕ) → slice_index_or qs k 0ℚ ≡ 0ℚ

module _ (names : Naming) (limit : ℕ) where
  -- the words are an entry of the vector, at a place that is at least `least`
  pub record IsEntry (v : Vector) (least : ℕ) (words : List Name) (k : ℕ) (q : Fraction) : Type 0 where
    pub is : words ≡ words_of names (spelled (entry_line v k q))
    pub ordered : least ≤ k
    pub named : k < length (entry_names names v)
    pub not_zero : q ≢ 0ℚ

  -- the same with any word for the number
  pub record IsEntryShape (v : Vector) (least : ℕ) (words : List Name) (k : ℕ) (word : Name) : Type 0 where
    pub is : words ≡ words_of names (entry_line v k word)
    pub ordered : least ≤ k
    pub named : k < length (entry_names names v)
    pub not_zero : IsNotZeroWord word

  -- why the words of a line of that kind are no entry
  abbrev pub HasEntryFault : Vector → ℕ → List Name → Offence → Type 0
  HasEntryFault v least words NoLine = length words ≢ 3
  HasEntryFault v least words NoShape = (length words ≡ 3)
      × ((k : ℕ) (word : Name) → IsEntryShape v least words k word → ⊥)
  HasEntryFault v least words NoNumber = (k : ℕ) × (word : Name) × IsEntryShape v least words k word
      × ((q : Fraction) → Fits limit q → (j : ℕ) → words ≡ words_of names (spelled (entry_line v j q)) → ⊥)

  -- the entries lead on from each stage at which they may begin
  abbrev pub LeadOn : Kind → ℕ → List (Line Fraction) → Type 0
  LeadOn kind least lines = (s : Status) (form : ℕ) (stage : Stage) → StandsAt s kind form 0 stage
      → (new : Stage) × Leads names limit stage lines new × StandsAt s kind form least new
      × IsThereOrIn s kind stage lines new

-- what is read of a text: the lines of a vector of `count` numbers, and behind them no further line of that kind
pub record AreEntries (names : Naming) (limit : ℕ) (v : Vector) (count : ℕ) (text : List ℕ) (number : ℕ)
    (qs : List Fraction) (rest : List ℕ) (line : ℕ) : Type 0 where
  pub size : length qs ≡ count
  pub section : IsSection names text number (entry_lines v 0 qs) rest line
  pub least : ℕ
  pub leads : LeadOn names limit (entries v) least (entry_lines v 0 qs)
  pub stopped : HasNoLineOf (vector_word v) rest
