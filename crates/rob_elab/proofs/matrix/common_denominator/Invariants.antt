use Rattle.std.specs.Prelude.{◌≡◌, ◌≤◌}
use Rattle.rob_number.specs.Counts.{NeverFell}
use Rattle.rob_meaning.specs.Clearing.{denominator, entries}
use Rattle.rob_sets.specs.Tables.{numbers_of}
use Rattle.rob_elab.specs.Forms.{rows_of}
use Rattle.rob_elab.proofs.matrix.common_denominator.Given as goal

-- the least common denominator of the rows so far
abbrev pub invariant-loop-row : goal.invariant-loop-row
invariant-loop-row g l = record {
  least : l.common ≡ denominator (entries (rows_of l.row l.columns (numbers_of g.N.Exact.value l.table)));
  within : l.common ≤ g.N.Exact.limit;
  counted : NeverFell g.L.Ledger.ops g.L.Ledger.wides l.fn.ledger l.ledger;
}
