use Rattle.std.specs.Prelude.{◌≡◌, ◌≤◌, nat_abs, map}
use Rattle.rob_number.specs.Counts.{NeverFell}
use Rattle.rob_meaning.specs.Clearing.{whole_at}
use Rattle.rob_meaning.specs.Places.{Each, tabulate}
use Rattle.rob_sets.specs.Tables.{numbers_of}
use Rattle.rob_elab.proofs.matrix.cleared_row.Given as goal

-- the whole numbers of the columns so far
abbrev pub invariant-loop-column : goal.invariant-loop-column
invariant-loop-column g l = record {
  cleared : l.list ≡ map (whole_at l.common) (tabulate l.column (numbers_of g.N.Exact.value l.table l.row));
  fits : Each (λ a. nat_abs a ≤ g.N.Exact.limit) l.list;
  counted : NeverFell g.L.Ledger.ops g.L.Ledger.wides l.fn.ledger l.ledger;
}
