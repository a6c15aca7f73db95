-- The entries before place k are written, and other rows are as they were.
use Rattle.std.specs.Prelude.{◌≡◌, ◌≢◌, ℕ, ◌<◌, length}
use Rattle.rob_table.specs.Tables.{row_at}
use Rattle.rob_table.specs.Lowering.{step_row}
use Rattle.rob_table.proofs.lowering.write_steps.Given as goal

abbrev pub invariant-loop-k : goal.invariant-loop-k
invariant-loop-k g l = record {
  done : (j : ℕ) → j < l.k
      → row_at l.rows l.fn.width l.fn.i j ≡ step_row l.fn.step.one l.fn.step.place (g.E.Entry.value l.fn.step.number) j;
  same : (j c : ℕ) → j ≢ l.fn.i → c < l.fn.width → row_at l.rows l.fn.width j c ≡ row_at l.fn.rows l.fn.width j c;
  size : length l.rows ≡ length l.fn.rows;
}
