-- The basis is on the path from the first one, and less turns are left with each turn.
use Rattle.rob_linear.specs.Programs.{Program}
use Rattle.rob_linear.specs.Paths.{ReachedFrom}
use Rattle.rob_number.specs.Counts.{CountsOnly}
use Rattle.rob_simplex.specs.Dictionaries.{columns_of, IsSized}
use Rattle.rob_simplex.specs.Phases.{StandsFor, turns_left}
use Rattle.rob_simplex.proofs.dictionary.Dictionary.improve.Given as goal

abbrev pub invariant-turns : goal.invariant-turns
invariant-turns g l = record {
  stands : (P : Program) → StandsFor P l.fn.self → StandsFor P l.self
      × ReachedFrom P (columns_of l.fn.self.basis) (columns_of l.self.basis);
  sized : IsSized l.fn.self l.self;
  counted : CountsOnly g.L.Ledger.ops g.L.Ledger.wides l.fn.ledger l.ledger;
}

abbrev pub decreases-turns : goal.decreases-turns
decreases-turns g l = turns_left l.self
