-- The costs of the columns before column k are put in.
use Rattle.std.proofs.Common.{◌≡◌}
use Rattle.rob_linear.specs.Vectors.{at}
use Rattle.rob_linear.specs.Programs.{Program, with_cost}
use Rattle.rob_linear.specs.Stages.{truncated}
use Rattle.rob_number.specs.Counts.{CountsOnly}
use Rattle.rob_simplex.specs.Dictionaries.{IsSized}
use Rattle.rob_simplex.specs.Phases.{StandsFor}
use Rattle.rob_simplex.proofs.dictionary.Dictionary.put_on.Given as goal

abbrev pub invariant-loop-k : goal.invariant-loop-k
invariant-loop-k g l = record {
  stands : (P : Program) → StandsFor P l.fn.self → StandsFor (truncated (with_cost P (at l.fn.cost)) l.k) l.self;
  basis : l.self.basis ≡ l.fn.self.basis;
  sized : IsSized l.fn.self l.self;
  counted : CountsOnly g.L.Ledger.ops g.L.Ledger.wides l.fn.ledger l.ledger;
}
