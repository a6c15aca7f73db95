use Rattle.std.specs.Prelude.{◌≡◌}
use Rattle.rob_meaning.specs.Places.{tabulate}
use Rattle.rob_dualize.specs.Wholes.{cost_of}
use Rattle.rob_cuts.proofs.master.without_cuts.Given as goal

-- the costs so far
abbrev pub invariant-loop-k : goal.invariant-loop-k
invariant-loop-k l = l.c ≡ tabulate l.k (cost_of l.forms)
