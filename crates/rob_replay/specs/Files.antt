-- Scenario files: the records of fields that the bytes of a file are.
-- Shafranovich, RFC 4180 (2005), section 2; what that leaves open is fixed here.
use Rattle.std.specs.Prelude.{◌≡◌, ℕ, List, [], ◌∷◌, ◌++◌, ◌⊎◌, if◌then◌else◌, ◌==◌, ◌||◌, Bool, true, false}
use Rattle.csv.specs.Reading.{strip_bom}
use Rattle.rob_meaning.specs.Places.{Each}

-- `,`
abbrev pub comma : ℕ
comma = 44

-- `"`
abbrev pub quote : ℕ
quote = 34

-- CR and LF
abbrev pub is_line_end : ℕ → Bool
is_line_end b = (b == 13) || (b == 10)

-- bytes that end a field which is not quoted
abbrev pub ends_field : ℕ → Bool
ends_field b = (b == comma) || is_line_end b

-- the bytes are within a field
abbrev pub IsWithin : List ℕ → Type 0
IsWithin bytes = Each (λ b. ends_field b ≡ false) bytes

-- a field has ended in front of the bytes
abbrev pub HasEnded : List ℕ → Type 0
HasEnded [] = Unit {0}
HasEnded (b ∷ rest) = ends_field b ≡ true

-- the bytes do not begin with a quote
abbrev pub IsUnquoted : List ℕ → Type 0
IsUnquoted [] = Unit {0}
IsUnquoted (b ∷ rest) = (b == quote) ≡ false

-- each quote twice
abbrev pub doubled : List ℕ → List ℕ
doubled [] = []
doubled (b ∷ bytes) = if b == quote then quote ∷ quote ∷ doubled bytes else b ∷ doubled bytes

-- a field that does not begin with a quote goes on to the next comma, line end or end of the file
pub record IsPlainField (text field behind : List ℕ) : Type 0 where
  pub split : text ≡ field ++ behind
  pub unquoted : IsUnquoted text
  pub within : IsWithin field
  pub ended : HasEnded behind

-- a quoted field: what is between its quotes, where a quote stands twice, and then the bytes up to the end of the field
pub record IsQuotedField (text field behind : List ℕ) : Type 0 where
  pub between : List ℕ
  pub more : List ℕ
  pub split : text ≡ quote ∷ (doubled between ++ quote ∷ (more ++ behind))
  pub field_is : field ≡ between ++ more
  pub closed : IsUnquoted (more ++ behind)
  pub within : IsWithin more
  pub ended : HasEnded behind

-- a quoted field that is not closed goes on to the end of the file
pub record IsOpenField (text field behind : List ℕ) : Type 0 where
  pub split : text ≡ quote ∷ doubled field
  pub last : behind ≡ []

-- the text begins with the field, and `behind` stands behind it
abbrev pub IsField : List ℕ → List ℕ → List ℕ → Type 0
IsField text field behind =
    IsPlainField text field behind ⊎ (IsQuotedField text field behind ⊎ IsOpenField text field behind)

-- a record ends with the file or with a line end; the LF behind a CR is then a line of no bytes
abbrev pub EndsRecord : List ℕ → List ℕ → Type 0
EndsRecord [] behind = behind ≡ []
EndsRecord (b ∷ rest) behind = (is_line_end b ≡ true) × (behind ≡ rest)

-- what stands behind a field: the end of the record where no field is left, and otherwise a comma and the fields that
-- are left
abbrev pub GoesOn : (List ℕ → Type 0) → List (List ℕ) → List ℕ → List ℕ → Type 0
GoesOn AreLeft [] rest behind = EndsRecord rest behind
GoesOn AreLeft (field ∷ fields) rest behind = (after : List ℕ) × (rest ≡ comma ∷ after) × AreLeft after

-- the text begins with a record of these fields, and `behind` stands behind it
abbrev pub AreFields : List ℕ → List (List ℕ) → List ℕ → Type 0
AreFields text [] behind = ⊥
AreFields text (field ∷ fields) behind =
    (rest : List ℕ) × IsField text field rest × GoesOn (λ after. AreFields after fields behind) fields rest behind

-- the bytes are line ends
abbrev pub AreLineEnds : List ℕ → Type 0
AreLineEnds bytes = Each (λ b. is_line_end b ≡ true) bytes

-- there is a byte, which is no line end
abbrev pub BeginsRecord : List ℕ → Type 0
BeginsRecord [] = ⊥
BeginsRecord (b ∷ rest) = is_line_end b ≡ false

-- behind lines of no bytes the text goes on with a record
pub record NextRecord (text : List ℕ) (row : List (List ℕ)) (behind : List ℕ) : Type 0 where
  pub empty_lines : List ℕ
  pub rest : List ℕ
  pub split : text ≡ empty_lines ++ rest
  pub empty : AreLineEnds empty_lines
  pub begins : BeginsRecord rest
  pub fields : AreFields rest row behind

-- the text is these records; lines of no bytes are none
abbrev pub AreRecords : List ℕ → List (List (List ℕ)) → Type 0
AreRecords text [] = AreLineEnds text
AreRecords text (r ∷ rs) = (behind : List ℕ) × NextRecord text r behind × AreRecords behind rs

-- the file is these records; a byte order mark at its very beginning is skipped
abbrev pub IsFile : List ℕ → List (List (List ℕ)) → Type 0
IsFile text rows = AreRecords (strip_bom text) rows
