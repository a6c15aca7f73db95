-- The rows stand beside, with right marks, and less turns are left with each turn.
use Rattle.rob_linear.specs.Programs.{Program}
use Rattle.rob_number.specs.Counts.{CountsOnly}
use Rattle.rob_simplex.specs.Dictionaries.{IsSized}
use Rattle.rob_simplex.specs.LeastRows.{AreKnown}
use Rattle.rob_simplex.specs.Phases.{InBeside, turns_left_beside}
use Rattle.rob_simplex.proofs.dictionary.Dictionary.go_beside.Given as goal

abbrev pub invariant-turns : goal.invariant-turns
invariant-turns g l = record {
  known : AreKnown l.self l.known;
  stands : (P : Program) → InBeside P l.fn.q l.fn.self → InBeside P l.fn.q l.self;
  sized : IsSized l.fn.self l.self;
  counted : CountsOnly g.L.Ledger.ops g.L.Ledger.wides l.fn.ledger l.ledger;
}

abbrev pub decreases-turns : goal.decreases-turns
decreases-turns g l = turns_left_beside l.fn.q l.self
