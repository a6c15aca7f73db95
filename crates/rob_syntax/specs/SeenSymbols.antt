-- The code's symbols, seen as those of rob_index.
use Rattle.std.specs.Prelude.{List, map}
use Rattle.rob_index.specs.Symbols as is
use Rattle.rob_syntax.specs.declared.symbol.Mark.{Mark}
use Rattle.rob_syntax.specs.declared.symbol.Mark.TheVariants as mark
use Rattle.rob_syntax.specs.declared.symbol.Keyword.{Keyword}
use Rattle.rob_syntax.specs.declared.symbol.Keyword.TheVariants as word
use Rattle.rob_syntax.specs.declared.symbol.Symbol.{Symbol}
use Rattle.rob_syntax.specs.declared.symbol.Symbol.TheVariants.{Name, Digits, Sign, Reserved}

-- a sign
abbrev pub seen_mark : Mark → is.Mark
seen_mark mark.Plus = is.plus
seen_mark mark.Minus = is.minus
seen_mark mark.Star = is.star
seen_mark mark.Slash = is.slash
seen_mark mark.Open = is.opening
seen_mark mark.Close = is.closing
seen_mark mark.OpenBracket = is.open_bracket
seen_mark mark.CloseBracket = is.close_bracket
seen_mark mark.Comma = is.comma
seen_mark mark.Colon = is.colon
seen_mark mark.Equal = is.equal
seen_mark mark.AtMost = is.at_most
seen_mark mark.AtLeast = is.at_least

-- a keyword
abbrev pub seen_keyword : Keyword → is.Keyword
seen_keyword word.Uncertain = is.uncertain
seen_keyword word.Set = is.set
seen_keyword word.Budget = is.budget
seen_keyword word.Var = is.var
seen_keyword word.Adaptive = is.adaptive
seen_keyword word.Minimise = is.minimise
seen_keyword word.Maximise = is.maximise
seen_keyword word.Row = is.row
seen_keyword word.In = is.within
seen_keyword word.At = is.at
seen_keyword word.By = is.by
seen_keyword word.Over = is.over
seen_keyword word.Sum = is.sum
seen_keyword word.For = is.for
seen_keyword word.To = is.to
seen_keyword word.Model = is.model
seen_keyword word.Unused = is.unused

-- a symbol
abbrev pub seen_symbol : Symbol → is.Symbol
seen_symbol (Name k) = is.name k
seen_symbol (Digits n) = is.digits n
seen_symbol (Sign m) = is.sign (seen_mark m)
seen_symbol (Reserved w) = is.word (seen_keyword w)

-- the symbols of a line
abbrev pub seen_line : List Symbol → List is.Symbol
seen_line symbols = map seen_symbol symbols
