-- What is left of a list of limits that is to rise.
use Rattle.std.specs.Prelude.{List, ◌∷◌, Option, Some, None}
use Rattle.rob_algebra.specs.Fraction.{Fraction}
use Rattle.rob_reach.specs.Sweeps.{Rises}

-- the limits rise, from the one before them on, if there is one
abbrev pub RisesBehind : Option Fraction → List Fraction → Type 0
RisesBehind None gs = Rises gs
RisesBehind (Some before) gs = Rises (before ∷ gs)
