-- The demands so far, and what was counted.
use Rattle.std.proofs.Common.{◌≡◌, map}
use Rattle.rob_number.specs.Counts.{CountsOnly}
use Rattle.rob_meaning.specs.Places.{tabulate}
use Rattle.rob_model.specs.View.{parameter_of}
use Rattle.rob_gen.specs.Generated.{centre, demand}
use Rattle.rob_gen.proofs.declared.demands.Given as goal

abbrev pub invariant-loop-place : goal.invariant-loop-place
invariant-loop-place g l = record {
  made : map (parameter_of g.N.Exact.value) l.list ≡ tabulate l.place (demand (centre l.n));
  counted : CountsOnly g.L.Ledger.ops g.L.Ledger.wides l.fn.ledger l.ledger;
}
