-- Directions, as often as their scale says.
use Rattle.std.specs.Prelude.{ℕ, ◌<◌, List, length}
use Rattle.rob_algebra.specs.Fraction.{Fraction, ◌*ℚ◌}
use Rattle.rob_algebra.specs.Width.{IsWide}
use Rattle.rob_meaning.specs.Places.{at}

-- the scale times some number of the list is wide
abbrev pub SomeWideProduct : ℕ → Fraction → List Fraction → Type 0
SomeWideProduct limit scale numbers = (j : ℕ) × (j < length numbers) × IsWide limit (scale *ℚ at numbers j)
