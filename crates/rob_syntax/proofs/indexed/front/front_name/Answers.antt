use Rattle.std.proofs.Common.{ap}
use Rattle.rob_syntax.specs.SeenSymbols.{seen_line}
use Rattle.rob_syntax.proofs.Seeing.{no_name}
use Rattle.rob_syntax.proofs.indexed.front.front_name.Goals as goal

pub returns-in-Some : goal.returns-in-Some
returns-in-Some c = record { read = ap seen_line c.in-Some.ensures.read }

pub returns-in-None : goal.returns-in-None
returns-in-None c = record { read = no_name c.args.symbols.now c.in-None.ensures.read }
