-- The later orders so far, and what was counted.
use Rattle.std.proofs.Common.{◌≡◌, map}
use Rattle.rob_number.specs.Counts.{CountsOnly}
use Rattle.rob_meaning.specs.Places.{tabulate}
use Rattle.rob_model.specs.View.{adaptive_of}
use Rattle.rob_gen.specs.Generated.{later_order}
use Rattle.rob_gen.proofs.declared.later_orders.Given as goal

abbrev pub invariant-loop-later : goal.invariant-loop-later
invariant-loop-later g l = record {
  made : map (adaptive_of g.N.Exact.value) l.list ≡ tabulate l.later later_order;
  counted : CountsOnly g.L.Ledger.ops g.L.Ledger.wides l.fn.ledger l.ledger;
}
