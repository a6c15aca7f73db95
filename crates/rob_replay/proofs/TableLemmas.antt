-- The table that is computed is the table of the file.
use Rattle.std.proofs.Common.{◌≡◌, ℕ, suc, List, [], ◌∷◌, length, refl, ap, ◌∙◌, subst, arith, Bool, true, false}
use Rattle.std.proofs.lemmas.List.{length-map}
use Rattle.std.specs.Prelude.{Option, Some, None, Result, Ok, Err, nat_le, ◌==◌, if◌then◌else◌}
use Rattle.rob_algebra.specs.Fraction.{Fraction}
use Rattle.rob_meaning.specs.Guarantee.{HasBound}
use Rattle.rob_meaning.specs.Places.{Each}
use Rattle.rob_meaning.specs.RobustModel.{Parameter, RobustModel}
use Rattle.rob_meaning.specs.WellFormed.{IsModel}
use Rattle.rob_model.specs.Naming.{parameter_names}
use Rattle.rob_replay.proofs.OutcomeLemmas.{places_count}
use Rattle.rob_replay.proofs.ReplayedLemmas.{line_is, shows_bound}
use Rattle.rob_replay.specs.Fields.{numbers_in}
use Rattle.rob_replay.specs.Headers.{header_places, scenario_at}
use Rattle.rob_replay.specs.Lines.{Line, line_within}
use Rattle.rob_replay.specs.Outcome.{Refusal, breaks, is_wide, ◌then◌, or_refused, outcome, record_outcome, records_outcome, table_outcome}
use Rattle.rob_replay.specs.Files.{IsFile}
use Rattle.rob_replay.proofs.OneFileLemmas.{one_file}
use Rattle.rob_replay.specs.View.{FileRefuses, Gives, Refuses}
use Rattle.rob_replay.specs.declared.error.ReplayErr.{ReplayErr}
use Rattle.rob_replay.specs.declared.error.ReplayErr.TheVariants.{Rule, Wide, Memory}
use Rattle.rob_replay.specs.Replayed.{AreLines, IsLineOf, IsTable, ShowsBound}

-- what was answered came of what was answered before
through_ok : {A B : Type 0} (r : Result A Refusal) (f : A → Result B Refusal) (y : B) → (r then f) ≡ Ok y → (x : A)
    × (r ≡ Ok x) × (f x ≡ Ok y)
through_ok (Ok x) f y h = (x, refl, h)
through_ok (Err e) f y h = cc

unrefused : {A : Type 0} (e : Refusal) (o : Option A) (x : A) → or_refused e o ≡ Ok x → o ≡ Some x
unrefused e None x h = cc
unrefused e (Some y) x h = cc

ok_is : {A : Type 0} (x y : A) → (let r : Result A Refusal = Ok x in r) ≡ Ok y → x ≡ y
ok_is x y h = cc

module _ (limit : ℕ) (m : RobustModel) (model : IsModel m) (plan : List Fraction) (places : List ℕ)
    (fits : length places ≡ length m.parameters) where
  record_line : (number : ℕ) (fields : List (List ℕ)) (line : Line)
      → record_outcome limit m plan places number fields ≡ Ok line
      → IsLineOf limit m plan places number fields line
  record_line number fields line h = case (length fields == length places) refl h
    where
      case : (t : Bool) → (length fields == length places) ≡ t
          → (if t then or_refused (breaks 43 number) (numbers_in limit fields)
          then (λ numbers. or_refused (is_wide number) (line_within limit m plan number (scenario_at places numbers)))
          else Err (breaks 42 number)) ≡ Ok line
          → IsLineOf limit m plan places number fields line
      case true e h =
          let a = through_ok (or_refused (breaks 43 number) (numbers_in limit fields))
          (λ numbers. or_refused (is_wide number) (line_within limit m plan number (scenario_at places numbers)))
          line h in
          let numbers = unrefused (breaks 43 number) (numbers_in limit fields) a.0 a.1 in
          let u = scenario_at places a.0 in
          let long : length u ≡ length m.parameters =
          length-map places (Rattle.rob_meaning.specs.Places.at a.0) ∙ fits in
          let l = line_is limit m plan u model long number line
          (unrefused (is_wide number) (line_within limit m plan number u) line a.2) in
          record { numbers = a.0; read = numbers; count = grind arith; number_is = l.0; is_line = l.1 }
      case false e h = cc

  records_lines : (number : ℕ) (rows : List (List (List ℕ))) (lines : List Line)
      → records_outcome limit m plan places number rows ≡ Ok lines
      → AreLines limit m plan places number rows lines
  records_lines number [] lines h = subst (AreLines limit m plan places number []) (ok_is [] lines h) tt
  records_lines number (r ∷ rs) lines h =
      let a = through_ok (record_outcome limit m plan places number r)
      (λ line. records_outcome limit m plan places (suc number) rs then (λ lines. Ok (line ∷ lines))) lines h in
      let b = through_ok (records_outcome limit m plan places (suc number) rs) (λ lines. Ok (a.0 ∷ lines)) lines a.2 in
      subst (AreLines limit m plan places number (r ∷ rs)) (ok_is (a.0 ∷ b.0) lines b.2)
      (record_line number r a.0 a.1, records_lines (suc number) rs b.0 b.1)

  -- each line shows the bound that the plan has
  lines_show : (tau : Fraction) → HasBound m plan tau → (number : ℕ) (rows : List (List (List ℕ))) (lines : List Line)
      → AreLines limit m plan places number rows lines → Each (ShowsBound m tau) lines
  lines_show tau bound number [] [] h = tt
  lines_show tau bound number [] (l ∷ ls) h = absurd h
  lines_show tau bound number (r ∷ rs) [] h = absurd h
  lines_show tau bound number (r ∷ rs) (l ∷ ls) h = (
    shows_bound m plan (scenario_at places h.0.numbers) model tau l bound h.0.is_line,
    lines_show tau bound (suc number) rs ls h.1,
  )

parameters_count : (m : RobustModel) (header : List (List ℕ)) (places : List ℕ)
    → header_places header (parameter_names m) ≡ Some places
    → length places ≡ length m.parameters
parameters_count m header places h =
    places_count header (parameter_names m) places h ∙ length-map m.parameters (λ (d : Parameter). d.name)

pub table_is : (limit : ℕ) (m : RobustModel) → IsModel m
    → (plan : List Fraction) (rows : List (List (List ℕ))) (lines : List Line)
    → outcome limit m plan rows ≡ Ok lines → IsTable limit m plan rows lines
table_is limit m model plan [] lines h = cc
table_is limit m model plan (header ∷ rows) lines h =
    let a = through_ok (or_refused (breaks 41 1) (header_places header (parameter_names m)))
    (λ places. table_outcome limit m plan places rows) lines h in
    let named = unrefused (breaks 41 1) (header_places header (parameter_names m)) a.0 a.1 in
    case a.0 named (nat_le (length rows) 10000) refl a.2
  where
    case : (places : List ℕ) → header_places header (parameter_names m) ≡ Some places → (t : Bool)
        → nat_le (length rows) 10000 ≡ t
        → (if t then records_outcome limit m plan places 2 rows else Err (breaks 44 10002)) ≡ Ok lines
        → IsTable limit m plan (header ∷ rows) lines
    case places named true e h = record {
      header = header;
      behind = rows;
      places = places;
      split = refl;
      named = named;
      few = grind arith;
      lines_are = records_lines limit m model plan places (parameters_count m header places named) 2 rows lines h;
    }
    case places named false e h = cc

pub table_shows : (limit : ℕ) (m : RobustModel) → IsModel m → (plan : List Fraction) (tau : Fraction)
    → HasBound m plan tau → (rows : List (List (List ℕ))) (lines : List Line)
    → IsTable limit m plan rows lines → Each (ShowsBound m tau) lines
table_shows limit m model plan tau bound rows lines t =
    lines_show limit m model plan t.places (parameters_count m t.header t.places t.named) tau bound 2
    t.behind lines t.lines_are

-- the same of a file
pub file_table : (limit : ℕ) (m : RobustModel) → IsModel m → (plan : List Fraction) (text : List ℕ) (lines : List Line)
    → Gives (outcome limit m plan) text (Ok lines) → (rows : List (List (List ℕ))) × IsFile text rows
    × IsTable limit m plan rows lines
file_table limit m model plan text lines (rows, is, h) = (rows, is, table_is limit m model plan rows lines h)

pub file_shows : (limit : ℕ) (m : RobustModel) → IsModel m → (plan : List Fraction) (tau : Fraction)
    → HasBound m plan tau → (text : List ℕ) (lines : List Line)
    → Gives (outcome limit m plan) text (Ok lines) → Each (ShowsBound m tau) lines
file_shows limit m model plan tau bound text lines (rows, is, h) =
    table_shows limit m model plan tau bound rows lines (table_is limit m model plan rows lines h)

-- ---- whatever list of records the file is
pub exact_table : {A : Type 0} (outcome_of : List (List (List ℕ)) → Result A Refusal) (text : List ℕ)
    (o : Result A Refusal) → Gives outcome_of text o
    → (rows : List (List (List ℕ))) → IsFile text rows → outcome_of rows ≡ o
exact_table outcome_of text o (others, is, h) rows file = ap outcome_of (one_file text rows others file is) ∙ h

pub exact_refusal : {A : Type 0} (outcome_of : List (List (List ℕ)) → Result A Refusal) (text : List ℕ) (e : ReplayErr)
    → FileRefuses outcome_of text e
    → (rows : List (List (List ℕ))) → IsFile text rows → Refuses (outcome_of rows) e
exact_refusal outcome_of text (Rule r n) h rows file = exact_table outcome_of text (Err (breaks r n)) h rows file
exact_refusal outcome_of text (Wide n) h rows file = exact_table outcome_of text (Err (is_wide n)) h rows file
exact_refusal outcome_of text Memory h rows file = tt
