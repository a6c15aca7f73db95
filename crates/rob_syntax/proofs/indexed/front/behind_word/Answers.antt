use Rattle.std.proofs.Common.{ap}
use Rattle.rob_syntax.specs.SeenSymbols.{seen_line}
use Rattle.rob_syntax.proofs.Seeing.{not_keyword}
use Rattle.rob_syntax.proofs.indexed.front.behind_word.Goals as goal

pub returns-in-Some : goal.returns-in-Some
returns-in-Some c = record { read = ap seen_line c.in-Some.ensures.read }

pub returns-in-None : goal.returns-in-None
returns-in-None c = record { read = not_keyword c.args.symbols.now c.args.keyword c.in-None.ensures.read }
