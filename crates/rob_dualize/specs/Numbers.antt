-- Numbers that a solver has told, in a list.
use Rattle.std.specs.Prelude.{ℕ, ◌<◌, List, map}
use Rattle.rob_algebra.specs.Fraction.{Fraction}
use Rattle.rob_meaning.specs.Places.{at}
use Rattle.rob_counterpart.specs.RobustProgram.{RobustProgram}
use Rattle.rob_counterpart.specs.Splitting.{OneIsZero, plus, minus}
use Rattle.rob_counterpart.specs.Reform.{positive_row, negative_row}

module _ {N : Type 0} (value : N → Fraction) where
  -- the fraction at each place, 0 past the end
  abbrev pub told : List N → ℕ → Fraction
  told numbers = at (map value numbers)

  -- of each of the first pairs one number is 0
  abbrev pub KeepPairs : List N → ℕ → Type 0
  KeepPairs numbers count = (j : ℕ) → j < count → OneIsZero (told numbers (plus j)) (told numbers (minus j))

  -- of each pair of equating rows one number is 0
  abbrev pub KeepRows : RobustProgram → List N → Type 0
  KeepRows d numbers =
      (i c : ℕ) → i < d.forms → c < d.set_columns
      → OneIsZero (told numbers (negative_row d i c)) (told numbers (positive_row d i c))
