-- What tables and errors stand for.
use Rattle.std.specs.Prelude.{◌≡◌, ℕ, List, map, Result, Err, Bool, true, false}
use Rattle.rob_algebra.specs.Fraction.{Fraction}
use Rattle.rob_number.specs.Counts as counts
use Rattle.rob_replay.specs.Files.{IsFile}
use Rattle.rob_replay.specs.Lines.{Line}
use Rattle.rob_replay.specs.Outcome.{Refusal, breaks, is_wide}
use Rattle.rob_replay.specs.declared.error.ReplayErr.{ReplayErr}
use Rattle.rob_replay.specs.declared.error.ReplayErr.TheVariants.{Rule, Wide, Memory}
use Rattle.rob_replay.specs.declared.table.TableLine.{TableLine}

-- the line that a `TableLine` is
abbrev pub line_of : {N : Type 0} → (N → Fraction) → TableLine N → Line
line_of value l = record {
  number = l.number;
  inside = l.inside;
  values = record { adaptives = map value l.adaptives; objective = value l.objective; slacks = map value l.slacks };
}

-- the error is the refusal; want of memory is none
abbrev pub Refuses : {A : Type 0} → Result A Refusal → ReplayErr → Type 0
Refuses o (Rule r n) = o ≡ Err (breaks r n)
Refuses o (Wide n) = o ≡ Err (is_wide n)
Refuses o Memory = Unit {0}

-- the file has records whose outcome is that
abbrev pub Gives : {A : Type 0} → (List (List (List ℕ)) → Result A Refusal) → List ℕ → Result A Refusal → Type 0
Gives outcome_of text o = (rows : List (List (List ℕ))) × IsFile text rows × (outcome_of rows ≡ o)

-- the file has records that are refused so; want of memory says nothing
abbrev pub FileRefuses : {A : Type 0} → (List (List (List ℕ)) → Result A Refusal) → List ℕ → ReplayErr → Type 0
FileRefuses outcome_of text (Rule r n) = Gives outcome_of text (Err (breaks r n))
FileRefuses outcome_of text (Wide n) = Gives outcome_of text (Err (is_wide n))
FileRefuses outcome_of text Memory = Unit {0}

-- the error is that a number is wide
abbrev pub is_for_width : ReplayErr → Bool
is_for_width (Rule r n) = false
is_for_width (Wide n) = true
is_for_width Memory = false

-- the count of wide numbers rose where a number is wide
abbrev pub RoseIfWide : ℕ → ℕ → ReplayErr → Type 0
RoseIfWide before now e = counts.RoseIfWide is_for_width before now e
