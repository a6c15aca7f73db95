-- What the program's cuts are, over fractions of any size. `value` tells the fraction of a number.
use Rattle.rob_algebra.specs.Fraction.{Fraction}
use Rattle.rob_cells.specs.declared.cut.Cut.{Cut as TheCut}
use Rattle.rob_pieces.specs.Cuts.{Cut}

-- the cut that a cut of the program is
abbrev pub cut_of : {N : Type 0} → (N → Fraction) → TheCut N → Cut
cut_of value cut = record { parameter = cut.param; level = value cut.at }
