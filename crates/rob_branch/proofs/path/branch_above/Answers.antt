use Rattle.std.proofs.Common.{ℕ, ℤ, false, ap}
use Rattle.rob_reach.specs.Boxes.{Branch}
use Rattle.rob_branch.proofs.SideLemmas.{next_seen}
use Rattle.rob_branch.proofs.path.branch_above.Goals as goal

-- the branch that asks for at least z
abbrev at_least : ℕ → ℤ → Branch
at_least j z = record { variable = j; is_upper = false; bound = z }

pub returns : goal.returns
returns c = record { branch = ap (at_least c.args.column) (next_seen c.args.k c.requires.small) }
