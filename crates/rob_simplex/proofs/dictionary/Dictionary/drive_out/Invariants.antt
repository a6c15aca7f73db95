-- The basis is one of the explicit form, and less turns are left with each turn.
use Rattle.rob_linear.specs.Programs.{Program}
use Rattle.rob_number.specs.Counts.{CountsOnly}
use Rattle.rob_simplex.specs.Dictionaries.{IsSized}
use Rattle.rob_simplex.specs.Explicit.{InExplicit, turns_left_explicit}
use Rattle.rob_simplex.proofs.dictionary.Dictionary.drive_out.Given as goal

abbrev pub invariant-turns : goal.invariant-turns
invariant-turns g l = record {
  stands : (P : Program) → InExplicit P l.fn.self → InExplicit P l.self;
  sized : IsSized l.fn.self l.self;
  counted : CountsOnly g.L.Ledger.ops g.L.Ledger.wides l.fn.ledger l.ledger;
}

abbrev pub decreases-turns : goal.decreases-turns
decreases-turns g l = turns_left_explicit l.self
