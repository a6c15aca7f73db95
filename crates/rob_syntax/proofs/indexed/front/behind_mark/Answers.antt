use Rattle.std.proofs.Common.{ap}
use Rattle.rob_syntax.specs.SeenSymbols.{seen_line}
use Rattle.rob_syntax.proofs.Seeing.{not_mark}
use Rattle.rob_syntax.proofs.indexed.front.behind_mark.Goals as goal

pub returns-in-Some : goal.returns-in-Some
returns-in-Some c = record { read = ap seen_line c.in-Some.ensures.read }

pub returns-in-None : goal.returns-in-None
returns-in-None c = record { read = not_mark c.args.symbols.now c.args.mark c.in-None.ensures.read }
