use Rattle.std.proofs.Common.{ap}
use Rattle.rob_number.proofs.CastLemmas.{seen}
use Rattle.rob_reach.specs.Boxes.{at_most_branch}
use Rattle.rob_branch.proofs.path.branch_below.Goals as goal

pub returns : goal.returns
returns c = record { branch = ap (at_most_branch c.args.column) (seen c.args.k c.requires.small) }
