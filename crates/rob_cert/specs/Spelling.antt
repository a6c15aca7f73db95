-- How the lines of a certificate are spelled: words with a space between two, and a line end behind the last.
use Rattle.std.specs.Fmt.{decimal, signed_decimal}
use Rattle.std.specs.Prelude.{ℕ, ◌^◌, ◌<◌, ◌≤◌, List, [], ◌∷◌, ◌++◌, length, codes, if◌then◌else◌, ◌==◌, slice_index_or}
use Rattle.rob_algebra.specs.Fraction.{Fraction}
use Rattle.rob_meaning.specs.Certificates.{Status, optimal, infeasible, unbounded, Cover, Item, Certificate}
use Rattle.rob_meaning.specs.Named.{parameter_names}
use Rattle.rob_meaning.specs.Names.{Name, column_names, form_names, set_row_names}
use Rattle.rob_meaning.specs.Places.{Each}
use Rattle.rob_meaning.specs.RobustModel.{RobustModel}
use Rattle.rob_cert.specs.declared.kind.Multipliers.{Multipliers}
use Rattle.rob_cert.specs.declared.kind.Multipliers.TheVariants.{Covers, Holds}
use Rattle.rob_cert.specs.declared.kind.Vector.{Vector}
use Rattle.rob_cert.specs.declared.kind.Vector.TheVariants.{Inside, Plan, Move, At}
use Rattle.rob_cert.specs.Lines.{Line, status_line, value_line, scale_line, entry_line, cover_line, item_line, end_line, lines_of}

-- a number in lowest terms: its numerator, and, unless the denominator is 1, a slash and the denominator
abbrev pub number_text : Fraction → Name
number_text q = if q.den == 1 then signed_decimal q.num else (signed_decimal q.num ++ (codes "/" ++ decimal q.den))

-- the word of a status
abbrev pub status_word : Status → Name
status_word optimal = codes "optimal"
status_word infeasible = codes "infeasible"
status_word unbounded = codes "unbounded"

-- the first word of a line of a vector
abbrev pub vector_word : Vector → Name
vector_word Inside = codes "inside"
vector_word Plan = codes "plan"
vector_word Move = codes "move"
vector_word At = codes "at"

-- the first word of a line of multipliers
abbrev pub multipliers_word : Multipliers → Name
multipliers_word Covers = codes "cover"
multipliers_word Holds = codes "hold"

-- the names that lines speak with
pub record Naming : Type 0 where
  pub parameters : List Name
  pub columns : List Name
  pub forms : List Name
  pub set_rows : List Name

-- those of a model
abbrev pub naming_of : RobustModel → Naming
naming_of m = record {
  parameters = parameter_names m;
  columns = column_names m;
  forms = form_names m;
  set_rows = set_row_names m;
}

-- the name of that number
abbrev pub name_at : List Name → ℕ → Name
name_at names k = slice_index_or names k []

module _ (names : Naming) where
  -- the names of the entries of a vector; the direction's bound is called tau
  abbrev pub entry_names : Vector → List Name
  entry_names Inside = names.parameters
  entry_names Plan = names.columns
  entry_names Move = names.columns ++ codes "tau" ∷ []
  entry_names At = names.parameters

  -- the words of a line
  abbrev pub words_of : Line Name → List Name
  words_of (status_line s) = codes "certificate" ∷ (status_word s ∷ [])
  words_of (value_line a) = codes "value" ∷ (a ∷ [])
  words_of (scale_line a) = codes "scale" ∷ (a ∷ [])
  words_of (entry_line v k a) = vector_word v ∷ (name_at (entry_names v) k ∷ (a ∷ []))
  words_of (cover_line which i r a) =
      multipliers_word which ∷ (name_at names.forms i ∷ (name_at names.set_rows r ∷ (a ∷ [])))
  words_of (item_line i w b) = codes "item" ∷ (name_at names.forms i ∷ (w ∷ (b ∷ [])))
  words_of end_line = codes "end" ∷ []

-- a line with its numbers spelled
abbrev pub spelled : Line Fraction → Line Name
spelled (status_line s) = status_line s
spelled (value_line q) = value_line (number_text q)
spelled (scale_line q) = scale_line (number_text q)
spelled (entry_line v k q) = entry_line v k (number_text q)
spelled (cover_line which i r q) = cover_line which i r (number_text q)
spelled (item_line i w b) = item_line i (number_text w) (number_text b)
spelled end_line = end_line

-- words, each behind a space, and the line's end
abbrev pub behind_spaces : List Name → List ℕ
behind_spaces [] = 10 ∷ []
behind_spaces (word ∷ words) = 32 ∷ (word ++ behind_spaces words)

-- a line's words, with a space between two, and the line's end
abbrev pub spaced : List Name → List ℕ
spaced [] = 10 ∷ []
spaced (word ∷ words) = word ++ behind_spaces words

-- the text of a line, and that of lines
abbrev pub line_text : Naming → Line Fraction → List ℕ
line_text names line = spaced (words_of names (spelled line))

-- the bytes of lines, one behind another
abbrev pub lines_text : Naming → List (Line Fraction) → List ℕ
lines_text names [] = []
lines_text names (line ∷ lines) = line_text names line ++ lines_text names lines

-- the text of a certificate
abbrev pub cert_text : RobustModel → Certificate → List ℕ
cert_text m c = lines_text (naming_of m) (lines_of c)

-- ---- what has names
-- the cover's form and set row have names
pub record IsCoverNamed (names : Naming) (c : Cover) : Type 0 where
  pub form : c.form < length names.forms
  pub set_row : c.set_row < length names.set_rows

-- the item's form has a name, and so have the places of its vector
pub record IsItemNamed (names : Naming) (i : Item) : Type 0 where
  pub form : i.form < length names.forms
  pub places : length i.vector ≤ length names.parameters

-- all that the certificate's lines name has a name
pub record HasNames (names : Naming) (c : Certificate) : Type 0 where
  pub inside : length c.inside ≤ length names.parameters
  pub plan : length c.plan ≤ length names.columns
  pub step : length c.step ≤ length names.columns
  pub few_columns : length names.columns < 2 ^ 32
  pub few_parameters : length names.parameters < 2 ^ 32
  pub covers : Each (IsCoverNamed names) c.covers
  pub holds : Each (IsCoverNamed names) c.holds
  pub items : Each (IsItemNamed names) c.items
