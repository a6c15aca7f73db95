-- The lines of items, each with the entries of its vector: what their reader tells of them.
use Rattle.std.specs.Prelude.{Bool, false, ◌≡◌, ◌≢◌, true, ℕ, ◌<◌, ◌≤◌, List, [], length, ◌⊎◌, codes}
use Rattle.rob_algebra.specs.Fraction.{Fraction}
use Rattle.rob_algebra.specs.Width.{Fits}
use Rattle.rob_meaning.specs.Certificates.{Status, Item}
use Rattle.rob_meaning.specs.Names.{Name}
use Rattle.rob_meaning.specs.Places.{Each, InOrder}
use Rattle.rob_cert.specs.declared.error.CertErr.{CertErr}
use Rattle.rob_cert.specs.declared.error.CertErr.TheVariants.{Rule, Memory}
use Rattle.rob_cert.specs.declared.error.Offence.{Offence}
use Rattle.rob_cert.specs.declared.error.Offence.TheVariants.{NoLine, NoShape, NoNumber}
use Rattle.rob_cert.specs.declared.kind.Vector.TheVariants.{At}
use Rattle.rob_cert.specs.Lines.{Line, item_line, item_lines}
use Rattle.rob_cert.specs.Kinds.{Kind, items, entries, rank, may_follow}
use Rattle.rob_cert.specs.Reading.{from, Stage, behind, Leads}
use Rattle.rob_cert.specs.Causes.{HasCause, rule_of}
use Rattle.rob_cert.specs.Spelling.{Naming, words_of, spelled}
use Rattle.rob_cert.specs.ReaderLines.{HasNoLineOf, IsSection, StandsAt}
use Rattle.rob_cert.specs.Entries.{AreEntries}

-- an item's line may stand at the stage, and has at least that form there
pub record StandsItem (s : Status) (form : ℕ) (stage : Stage) : Type 0 where
  pub last : Kind
  pub last_form : ℕ
  pub last_place : ℕ
  pub is : stage ≡ behind s last last_form last_place
  pub may : may_follow s last items ≡ true
  pub anew : from last items last_form ≡ form

-- the last line was of an item, or no line was read
abbrev pub IsThereOrInItem : {A : Type 0} → Status → Stage → List A → Stage → Type 0
IsThereOrInItem s stage lines new =
    ((lines ≡ []) × (new ≡ stage)) ⊎ ((kind : Kind) × (form : ℕ) × (place : ℕ) × (new ≡ behind s kind form place)
    × (rank kind ≡ 8))

module _ (names : Naming) (limit : ℕ) where
  -- the words are an item's line, of a form that is at least that one
  pub record IsItemLine (form : ℕ) (words : List Name) (i : ℕ) (w b : Fraction) : Type 0 where
    pub is : words ≡ words_of names (spelled (item_line i w b))
    pub ordered : form ≤ i
    pub named : i < length names.forms

  -- the same with any words for the numbers
  pub record IsItemShape (form : ℕ) (words : List Name) (i : ℕ) (w b : Name) : Type 0 where
    pub is : words ≡ words_of names (item_line i w b)
    pub ordered : form ≤ i
    pub named : i < length names.forms

  -- why the words of a line of that kind are no item's
  abbrev pub HasItemFault : ℕ → List Name → Offence → Type 0
  HasItemFault form words NoLine = length words ≢ 4
  HasItemFault form words NoShape = (length words ≡ 4) × ((i : ℕ) (w b : Name) → IsItemShape form words i w b → ⊥)
  HasItemFault form words NoNumber = (i : ℕ) × (w : Name) × (b : Name) × IsItemShape form words i w b
      × ((x y : Fraction) → Fits limit x → Fits limit y → (j : ℕ) → words ≡ words_of names (spelled (item_line j x y))
      → ⊥)

  -- an item was read: its line, and behind it the entries of its vector
  pub record IsItemRead (form : ℕ) (words : List Name) (text : List ℕ) (number : ℕ) (item : Item) (rest : List ℕ)
      (line : ℕ) : Type 0 where
    pub head : IsItemLine form words item.form item.weight item.base
    pub weight_fits : Fits limit item.weight
    pub base_fits : Fits limit item.base
    pub vector : AreEntries names limit At (length names.parameters) text number item.vector rest line

  -- an item was not read: its line has an offence, or an entry behind it
  abbrev pub HasItemReadFault : (form : ℕ) → List Name → List ℕ → ℕ → ℕ → CertErr → Type 0
  HasItemReadFault form words text number here (Rule rule line) =
      ((o : Offence) × (rule ≡ rule_of o) × (line ≡ here) × HasItemFault form words o)
      ⊎ ((i : ℕ) × (w : Fraction) × (b : Fraction) × IsItemLine form words i w b × Fits limit w × Fits limit b
      × ((s : Status) (f : ℕ) (stage : Stage) → StandsAt s (entries At) f 0 stage
      → HasCause names limit stage text number (Rule rule line)))
  HasItemReadFault form words text number here Memory = Unit {0}

  -- the items lead on from each stage at which they may begin
  abbrev pub ItemsLeadOn : (form : ℕ) → List (Line Fraction) → Type 0
  ItemsLeadOn form lines = (s : Status) (stage : Stage) → StandsItem s 0 stage
      → (new : Stage) × Leads names limit stage lines new × StandsItem s form new × IsThereOrInItem s stage lines new

-- the item's form has a name, and its vector a number for each parameter
pub record IsGoodItem (names : Naming) (i : Item) : Type 0 where
  pub form : i.form < length names.forms
  pub numbers : length i.vector ≡ length names.parameters

-- what is read of a text: the lines of good items in order, and behind them no further line of an item
pub record AreItems (names : Naming) (limit : ℕ) (text : List ℕ) (number : ℕ) (list : List Item) (rest : List ℕ)
    (line : ℕ) : Type 0 where
  pub section : IsSection names text number (item_lines list) rest line
  pub each : Each (IsGoodItem names) list
  pub ordered : InOrder (λ (a b : Item). a.form ≤ b.form) list
  pub form : ℕ
  pub leads : ItemsLeadOn names limit form (item_lines list)
  pub stopped : HasNoLineOf (codes "item") rest
  pub no_entry : (list ≡ []) ⊎ HasNoLineOf (codes "at") rest

-- the items are good ones in order, and there are none where they are not used
pub record AreGoodItems (names : Naming) (is_there : Bool) (list : List Item) : Type 0 where
  pub each : Each (IsGoodItem names) list
  pub ordered : InOrder (λ (a b : Item). a.form ≤ b.form) list
  pub unused : is_there ≡ false → list ≡ []
