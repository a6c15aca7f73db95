-- One record more, and records past the last that may stand in a file.
use Rattle.std.proofs.Common.{◌≡◌, ℕ, suc, ◌+◌, ◌-◌, ◌<◌, ◌≤◌, List, [], ◌∷◌, ◌++◌, map, length, get_or, take, drop, refl, sym, ap, ◌∙◌, arith, length-drop, append_assoc, append-nil, true, false, Bool, take_all, length-take-le}
use Rattle.std.specs.Prelude.{Option, Some, None, Result, Ok, Err, nat_le, option_map, ◌==◌, if◌then◌else◌}
use Rattle.std.proofs.lemmas.List.{length-map}
use Rattle.rob_algebra.specs.Fraction.{Fraction}
use Rattle.rob_meaning.specs.RobustModel.{RobustModel}
use Rattle.rob_model.proofs.PartLemmas.{drop_at, drop_all}
use Rattle.rob_model.specs.Naming.{parameter_names}
use Rattle.rob_replay.proofs.LineLemmas.{all_count}
use Rattle.rob_replay.specs.Files.{IsFile}
use Rattle.rob_replay.specs.View.{FileRefuses, Refuses}
use Rattle.rob_replay.specs.declared.error.ReplayErr.{ReplayErr}
use Rattle.rob_replay.specs.declared.error.ReplayErr.TheVariants.{Rule, Wide, Memory}
use Rattle.rob_replay.specs.Fields.{numbers_in}
use Rattle.rob_replay.specs.Headers.{header_places, place_from, places_in, scenario_at}
use Rattle.rob_replay.specs.Lines.{Line, line_within}
use Rattle.rob_replay.specs.Outcome.{Refusal, breaks, is_wide, ◌then◌, or_refused, record_outcome, records_outcome, table_outcome, outcome}

-- lines behind lines
abbrev pub behind : List Line → Result (List Line) Refusal → Result (List Line) Refusal
behind so_far r = r then (λ lines. Ok (so_far ++ lines))

behind_more : (so_far : List Line) (line : Line) (r : Result (List Line) Refusal)
    → behind so_far (r then (λ lines. Ok (line ∷ lines))) ≡ behind (so_far ++ line ∷ []) r
behind_more so_far line (Ok lines) = ap Ok (sym (append_assoc so_far (line ∷ []) lines))
behind_more so_far line (Err e) = refl

module _ {R : Type 0} (fields : R → List (List ℕ)) (limit : ℕ) (m : RobustModel) (plan : List Fraction)
    (places : List ℕ) (rows : List R) (i : ℕ) (so_far : List Line) where
  pub records_end : length rows ≤ i
      → behind so_far (records_outcome limit m plan places (i + 2) (map fields (drop i rows))) ≡ Ok so_far
  records_end h =
      ap (λ (l : List R). behind so_far (records_outcome limit m plan places (i + 2) (map fields l)))
      (drop_all i rows h)
      ∙ ap Ok (append-nil so_far)

  module _ (row : R) (inside : i < length rows) (is : row ≡ get_or rows i row) where
    records_split : (r : Result Line Refusal) → record_outcome limit m plan places (i + 2) (fields row) ≡ r
        → records_outcome limit m plan places (i + 2) (map fields (drop i rows))
        ≡ (r then (λ line. records_outcome limit m plan places ((i + 1) + 2)
        (map fields (drop (i + 1) rows)) then (λ lines. Ok (line ∷ lines))))
    records_split r e =
        ap (λ (l : List R). records_outcome limit m plan places (i + 2) (map fields l)) (drop_at rows i row inside is)
        ∙ ap (λ q. q then (λ line.
        records_outcome limit m plan places (suc (i + 2))
        (map fields (drop (i + 1) rows)) then (λ lines. Ok (line ∷ lines)))) e
        ∙ ap (λ n. r then (λ line.
        records_outcome limit m plan places n (map fields (drop (i + 1) rows)) then (λ lines. Ok (line ∷ lines))))
        next
      where
        next : suc (i + 2) ≡ (i + 1) + 2
        next = omega arith

    pub records_next : (line : Line) → record_outcome limit m plan places (i + 2) (fields row) ≡ Ok line
        → behind so_far (records_outcome limit m plan places (i + 2) (map fields (drop i rows)))
        ≡ behind (so_far ++ line ∷ [])
        (records_outcome limit m plan places ((i + 1) + 2) (map fields (drop (i + 1) rows)))
    records_next line e = ap (behind so_far) (records_split (Ok line) e) ∙ behind_more so_far line _

    records_stop : (e : Refusal) → record_outcome limit m plan places (i + 2) (fields row) ≡ Err e
        → behind so_far (records_outcome limit m plan places (i + 2) (map fields (drop i rows))) ≡ Err e
    records_stop e h = ap (behind so_far) (records_split (Err e) h)

    -- what is refused for a record is refused for them all
    pub records_refuse : (whole : Result (List Line) Refusal)
        → behind so_far (records_outcome limit m plan places (i + 2) (map fields (drop i rows))) ≡ whole
        → (error : ReplayErr) → Refuses (record_outcome limit m plan places (i + 2) (fields row)) error
        → Refuses whole error
    records_refuse whole rest (Rule r n) h = sym rest ∙ records_stop (breaks r n) h
    records_refuse whole rest (Wide n) h = sym rest ∙ records_stop (is_wide n) h
    records_refuse whole rest Memory h = tt

-- ---- one record
module _ (limit : ℕ) (m : RobustModel) (plan : List Fraction) (places : List ℕ) (number : ℕ)
    (fields : List (List ℕ)) (n : ℕ) (is : n ≡ length fields) where
  pub record_unlike : (n ≡ length places → ⊥)
      → record_outcome limit m plan places number fields ≡ Err (breaks 42 number)
  record_unlike h = rw unlike refl
    where
      unlike : (length fields == length places) ≡ false
      unlike = grind arith

  -- ---- with as many fields as there are places, of which numbers are read or not
  module _ (same : n ≡ length places) {A : Type 0} (f : A → List Fraction) (o : Option A)
      (read : option_map f o ≡ numbers_in limit fields) where
    alike : (length fields == length places) ≡ true
    alike = grind arith

    pub record_unread : o ≡ None → record_outcome limit m plan places number fields ≡ Err (breaks 43 number)
    record_unread none = rw (alike, sym read, none) refl

    pub record_line : (a b : A) (scenario : List Fraction) (line : Option Line) → o ≡ Some a
        → scenario ≡ scenario_at places (f b) → b ≡ a → line_within limit m plan number scenario ≡ line
        → record_outcome limit m plan places number fields ≡ or_refused (is_wide number) line
    record_line a b scenario line some placed e within =
        rw (alike, sym read, some) (ap (λ (u : List Fraction). or_refused (is_wide number)
        (line_within limit m plan number u)) (ap (λ (x : A). scenario_at places (f x)) (sym e) ∙ sym placed)
        ∙ ap (or_refused (is_wide number)) within)

-- ---- the first records decide
too_many : (n : ℕ) → 10001 ≤ n → nat_le n 10000 ≡ false
too_many n h = grind arith

table_first : (limit : ℕ) (m : RobustModel) (plan : List Fraction) (places : List ℕ) (rows : List (List (List ℕ)))
    → table_outcome limit m plan places (take 10001 rows) ≡ table_outcome limit m plan places rows
table_first limit m plan places rows = case (nat_le (length rows) 10000) refl
  where
    case : (t : Bool) → nat_le (length rows) 10000 ≡ t
        → table_outcome limit m plan places (take 10001 rows) ≡ table_outcome limit m plan places rows
    case true t =
        let few : length rows ≤ 10001 = grind arith in
        ap (table_outcome limit m plan places) (take_all 10001 rows few)
    case false t =
        let many : 10001 ≤ length rows = grind arith in
        rw (too_many (length (take 10001 rows)) (omega (arith, length-take-le 10001 rows many)), t) refl

pub outcome_first : (limit : ℕ) (m : RobustModel) (plan : List Fraction) (rows : List (List (List ℕ)))
    → outcome limit m plan (take 10002 rows) ≡ outcome limit m plan rows
outcome_first limit m plan [] = refl
outcome_first limit m plan (header ∷ rows) = case (header_places header (parameter_names m))
  where
    case : (o : Option (List ℕ))
        → (or_refused (breaks 41 1) o then (λ places. table_outcome limit m plan places (take 10001 rows)))
        ≡ (or_refused (breaks 41 1) o then (λ places. table_outcome limit m plan places rows))
    case None = refl
    case (Some places) = table_first limit m plan places rows

-- ---- a header and rows
module _ (limit : ℕ) (m : RobustModel) (plan : List Fraction) (header : List (List ℕ))
    (rows : List (List (List ℕ))) where
  pub outcome_headless : header_places header (parameter_names m) ≡ None
      → outcome limit m plan (header ∷ rows) ≡ Err (breaks 41 1)
  outcome_headless h = rw h refl

  module _ (places : List ℕ) (h : header_places header (parameter_names m) ≡ Some places) where
    pub outcome_many : 10001 ≤ length rows → outcome limit m plan (header ∷ rows) ≡ Err (breaks 44 10002)
    outcome_many many = rw (h, too_many (length rows) many) refl

    pub outcome_table : length rows ≤ 10000
        → outcome limit m plan (header ∷ rows) ≡ records_outcome limit m plan places 2 rows
    outcome_table few = rw (h, within) refl
      where
        within : nat_le (length rows) 10000 ≡ true
        within = grind arith

pub places_count : (header names : List (List ℕ)) (places : List ℕ) → header_places header names ≡ Some places
    → length places ≡ length names
places_count header [] places h = cc
places_count header (name ∷ names) places h = case (length header == length (name ∷ names)) h
  where
    case : (t : Bool) → (if t then places_in header (name ∷ names) else None) ≡ Some places
        → length places ≡ length (name ∷ names)
    case true e =
        sym (all_count (map (place_from 0 header) (name ∷ names)) places e)
        ∙ length-map (name ∷ names) (place_from 0 header)
    case false e = cc

-- ---- rows as they are stored
pub rows_split : {R : Type 0} (fields : R → List (List ℕ)) (rows : List R) (row : R) → 0 < length rows
    → row ≡ get_or rows 0 row
    → map fields rows ≡ fields row ∷ map fields (drop 1 rows)
rows_split fields [] row some is = absurd (omega arith)
rows_split fields (r ∷ rows) row some is = ap (λ x. fields x ∷ map fields rows) (sym is)

pub rest_count : {R : Type 0} (fields : R → List (List ℕ)) (rows : List R)
    → length (map fields (drop 1 rows)) ≡ length rows - 1
rest_count fields rows = length-map (drop 1 rows) fields ∙ length-drop 1 rows

pub rest_whole : {R : Type 0} (rows : List R) → take (length rows - 1) (drop 1 rows) ≡ drop 1 rows
rest_whole rows = take_all (length rows - 1) (drop 1 rows) (omega (arith, length-drop 1 rows))

-- ---- files
pub file_refuses : {A : Type 0} (outcome_of : List (List (List ℕ)) → Result A Refusal) (text : List ℕ)
    (o : Result A Refusal) (rows : List (List (List ℕ)))
    → IsFile text rows → o ≡ outcome_of rows → (e : ReplayErr) → Refuses o e → FileRefuses outcome_of text e
file_refuses outcome_of text o rows is same (Rule r n) h = (rows, is, sym same ∙ h)
file_refuses outcome_of text o rows is same (Wide n) h = (rows, is, sym same ∙ h)
file_refuses outcome_of text o rows is same Memory h = tt
