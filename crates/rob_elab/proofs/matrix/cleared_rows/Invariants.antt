use Rattle.std.specs.Prelude.{◌≡◌, map}
use Rattle.rob_number.specs.Counts.{NeverFell}
use Rattle.rob_meaning.specs.Clearing.{whole_at}
use Rattle.rob_sets.specs.Tables.{numbers_of}
use Rattle.rob_elab.specs.Forms.{MatrixFits, rows_of}
use Rattle.rob_elab.proofs.matrix.cleared_rows.Given as goal

-- the rows so far, in whole numbers
abbrev pub invariant-loop-row : goal.invariant-loop-row
invariant-loop-row g l = record {
  cleared : l.matrix ≡ map (map (whole_at l.common)) (rows_of l.row l.columns (numbers_of g.N.Exact.value l.table));
  fits : MatrixFits g.N.Exact.limit l.matrix;
  counted : NeverFell g.L.Ledger.ops g.L.Ledger.wides l.fn.ledger l.ledger;
}
