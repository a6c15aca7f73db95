-- The members so far, and what was counted.
use Rattle.std.proofs.Common.{◌≡◌, map}
use Rattle.rob_number.specs.Counts.{CountsOnly}
use Rattle.rob_meaning.specs.Places.{tabulate}
use Rattle.rob_model.specs.View.{member_of}
use Rattle.rob_gen.specs.Generated.{centre, deviation}
use Rattle.rob_gen.proofs.declared.deviations.Given as goal

abbrev pub invariant-loop-place : goal.invariant-loop-place
invariant-loop-place g l = record {
  made : map (member_of g.N.Exact.value) l.list ≡ tabulate l.place (deviation (centre l.n));
  counted : CountsOnly g.L.Ledger.ops g.L.Ledger.wides l.fn.ledger l.ledger;
}
