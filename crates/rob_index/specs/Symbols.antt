-- The symbols of a line: a name and a keyword are told apart. What reads a text shows its own symbols as these.
use Rattle.std.specs.Prelude.{ℕ}

-- the signs
pub data Mark : Type 0 where
  plus : Mark
  minus : Mark
  star : Mark
  slash : Mark
  opening : Mark
  closing : Mark
  open_bracket : Mark
  close_bracket : Mark
  comma : Mark
  colon : Mark
  equal : Mark
  at_most : Mark
  at_least : Mark

-- the keywords; both spellings of a goal are one
pub data Keyword : Type 0 where
  uncertain : Keyword
  over : Keyword
  set : Keyword
  budget : Keyword
  var : Keyword
  adaptive : Keyword
  minimise : Keyword
  maximise : Keyword
  row : Keyword
  at : Keyword
  by : Keyword
  within : Keyword
  sum : Keyword
  for : Keyword
  to : Keyword
  model : Keyword
  unused : Keyword

-- a name is the number of its word; digits are their value
pub data Symbol : Type 0 where
  name : ℕ → Symbol
  digits : ℕ → Symbol
  sign : Mark → Symbol
  word : Keyword → Symbol
