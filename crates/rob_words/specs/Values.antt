-- The values of the options, and how they are spelled.
use Rattle.std.specs.Prelude.{ℕ, ◌-◌, ◌^◌, List, codes}
use Rattle.rob_words.specs.declared.route.Route.{Route}
use Rattle.rob_words.specs.declared.route.Route.TheVariants.{Dual, Cuts}
use Rattle.rob_words.specs.declared.width.Width.{Width}
use Rattle.rob_words.specs.declared.width.Width.TheVariants.{Eight, Sixteen, ThirtyTwo, SixtyTwo}

-- a word is a list of bytes
abbrev pub Word : Type 0
Word = List ℕ

-- the bits of a width
abbrev pub bits_of : Width → ℕ
bits_of Eight = 8
bits_of Sixteen = 16
bits_of ThirtyTwo = 32
bits_of SixtyTwo = 62

-- the greatest number of a width
abbrev pub greatest_of : Width → ℕ
greatest_of width = 2 ^ bits_of width - 1

-- a width is spelled by its bits
abbrev pub width_text : Width → Word
width_text Eight = codes "8"
width_text Sixteen = codes "16"
width_text ThirtyTwo = codes "32"
width_text SixtyTwo = codes "62"

-- a route is spelled by its name
abbrev pub route_text : Route → Word
route_text Dual = codes "dual"
route_text Cuts = codes "cuts"
