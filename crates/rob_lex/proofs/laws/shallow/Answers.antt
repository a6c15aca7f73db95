use Rattle.rob_lex.proofs.ShallowLemmas.{lines_shallow}
use Rattle.rob_lex.proofs.laws.shallow.Goals as goal

pub returns : goal.returns
returns c = record { lines = lines_shallow }
