use Rattle.std.proofs.Common.{drop}
use Rattle.rob_number.specs.Counts.{CountsOnly}
use Rattle.rob_meaning.specs.Places.{Each}
use Rattle.rob_model.specs.View.{robust}
use Rattle.rob_parse.specs.Building.{FitsStatement}
use Rattle.rob_syntax.specs.Known.{texts}
use Rattle.rob_parse.proofs.Building.BuildLemmas.{Grows}
use Rattle.rob_parse.proofs.model.model.Given as goal

abbrev pub invariant-loop-statement : goal.invariant-loop-statement
invariant-loop-statement g l = record {
  grows : Grows (texts l.words.keys) l.scope l.list (drop l.statement-index l.list) (robust g.N.Exact.value l.model);
  fits : Each (FitsStatement g.N.Exact.limit) (drop l.statement-index l.list);
  counted : CountsOnly g.L.Ledger.ops g.L.Ledger.wides l.fn.ledger l.ledger;
}
