use Rattle.std.specs.Prelude.{◌≡◌, ◌-◌, length}
use Rattle.rob_number.specs.Counts.{NeverFell}
use Rattle.rob_worst.specs.Finders.{IsFinder}
use Rattle.rob_cuts.specs.Runs.{IsRunSoFar, round_limit}
use Rattle.rob_cuts.proofs.route.solve_cuts.Given as goal

-- the rounds so far are a run
abbrev pub invariant-rounds : goal.invariant-rounds
invariant-rounds g l = record {
  state : IsRunSoFar g.N.Exact.limit l.forms l.set l.run;
  finder : IsFinder l.set l.finder;
  wides : g.L.Ledger.wides l.ledger ≡ g.L.Ledger.wides l.fn.ledger;
  counted : NeverFell g.L.Ledger.ops g.L.Ledger.wides l.fn.ledger l.ledger;
}

-- how many rounds are left
abbrev pub decreases-rounds : goal.decreases-rounds
decreases-rounds g l = round_limit l.forms l.set - length l.run.rounds
