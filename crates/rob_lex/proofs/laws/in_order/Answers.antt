use Rattle.rob_lex.proofs.SliceLemmas as slices
use Rattle.rob_lex.proofs.laws.in_order.Goals as goal

pub returns : goal.returns
returns c = record { order = slices.in_order; count = slices.at_most }
