-- What replaying answers: the table of the records behind the header, or the first refusal, in the order of the rules:
-- the header, the number of records, and then record by record its number of fields, its fields, and a wide number.
use Rattle.std.specs.Prelude.{ℕ, suc, nat_le, List, [], ◌∷◌, length, Option, Some, None, Result, Ok, Err, ◌==◌, if◌then◌else◌}
use Rattle.rob_algebra.specs.Fraction.{Fraction}
use Rattle.rob_meaning.specs.RobustModel.{RobustModel}
use Rattle.rob_model.specs.Naming.{parameter_names}
use Rattle.rob_replay.specs.Fields.{numbers_in}
use Rattle.rob_replay.specs.Headers.{header_places, scenario_at}
use Rattle.rob_replay.specs.Lines.{Line, line_within}

-- a refusal: a rule that a record breaks, or a record of which a number is wide; records count from 1, the header
pub data Refusal : Type 0 where
  breaks : (rule number : ℕ) → Refusal
  is_wide : (number : ℕ) → Refusal

-- the records that may stand behind the header
abbrev pub most_records : ℕ
most_records = 10000

-- what follows, unless there was a refusal
infixl 10 ◌then◌
-- what comes of something, where it isn't refused
abbrev pub ◌then◌ : {A B : Type 0} → Result A Refusal → (A → Result B Refusal) → Result B Refusal
(Ok x) then f = f x
(Err e) then f = Err e

-- the thing, or a refusal where there is none
abbrev pub or_refused : {A : Type 0} → Refusal → Option A → Result A Refusal
or_refused e None = Err e
or_refused e (Some x) = Ok x

module _ (limit : ℕ) (m : RobustModel) (plan : List Fraction) (places : List ℕ) where
  -- a record of that number, behind a header with these places
  abbrev pub record_outcome : ℕ → List (List ℕ) → Result Line Refusal
  record_outcome number fields =
      if length fields == length places then
      or_refused (breaks 43 number) (numbers_in limit fields)
      then (λ numbers. or_refused (is_wide number) (line_within limit m plan number (scenario_at places numbers)))
      else Err (breaks 42 number)

  -- the records in order, the first having that number
  abbrev pub records_outcome : ℕ → List (List (List ℕ)) → Result (List Line) Refusal
  records_outcome number [] = Ok []
  records_outcome number (r ∷ rs) =
      record_outcome number r then (λ line. records_outcome (suc number) rs then (λ lines. Ok (line ∷ lines)))

  -- the records behind the header
  abbrev pub table_outcome : List (List (List ℕ)) → Result (List Line) Refusal
  table_outcome rows = if nat_le (length rows) most_records then records_outcome 2 rows else Err (breaks 44 10002)

-- all records of a file
abbrev pub outcome : ℕ → RobustModel → List Fraction → List (List (List ℕ)) → Result (List Line) Refusal
outcome limit m plan [] = Err (breaks 41 1)
outcome limit m plan (header ∷ rows) =
    or_refused (breaks 41 1) (header_places header (parameter_names m))
    then (λ places. table_outcome limit m plan places rows)
