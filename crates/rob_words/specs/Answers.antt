-- What the reader answers.
use Rattle.std.specs.Prelude.{List, map, string_bytes}
use Rattle.rob_words.specs.Values.{Word}
use Rattle.rob_words.specs.Commands.{Line, IsCommandLine}
use Rattle.rob_words.specs.declared.error.WordsErr.{WordsErr}
use Rattle.rob_words.specs.declared.error.WordsErr.TheVariants.{NoCommandLine, Memory}
use Rattle.rob_words.specs.declared.line.CommandLine.{CommandLine}

-- what a command line of the code says
abbrev pub line_of : CommandLine → Line
line_of line = record {
  verb = line.verb;
  own = map string_bytes line.own.items;
  way = line.route;
  width = line.width;
}

-- an error comes where the words are no command line, or where memory is refused
abbrev pub HasCause : List Word → WordsErr → Type 0
HasCause words NoCommandLine = IsCommandLine words → ⊥
HasCause words Memory = Unit {0}
