-- Names as they are spelled: a first part, and up to three further parts, each behind a dot.
use Rattle.std.specs.Fmt.{decimal}
use Rattle.std.specs.Prelude.{ℕ, [], ◌++◌, codes, Option, Some, None}
use Rattle.std.specs.Option.{option_copied}
use Rattle.rob_meaning.specs.Names.{Name}
use Rattle.rob_model.specs.declared.spelling.Spelling.{Spelling}

-- what a further part adds to a name, if there is one
abbrev pub tail_of : Option Name → Name
tail_of None = []
tail_of (Some part) = codes "." ++ part

-- what a number adds, in decimal digits
abbrev pub number_tail : Option ℕ → Name
number_tail None = []
number_tail (Some n) = codes "." ++ decimal n

-- the first part, a number, and two further parts
abbrev pub spelled : Name → Option ℕ → Option Name → Option Name → Name
spelled first number second last = first ++ (number_tail number ++ (tail_of second ++ tail_of last))

-- the name that a `Spelling` is
abbrev pub name_of : Spelling → Name
name_of s = spelled s.first.now s.number (option_copied s.second) (option_copied s.last)
