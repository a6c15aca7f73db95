use Rattle.std.specs.Prelude.{◌≡◌, ◌+◌, zero, map, drop, length}
use Rattle.rob_number.specs.Counts.{NeverFell}
use Rattle.rob_meaning.specs.SetRows.{lift_count, statement_rows}
use Rattle.rob_model.specs.View.{robust, set_line_of}
use Rattle.rob_sets.specs.SetForm.{RowFits, cleared_row, judged_statements}
use Rattle.rob_sets.proofs.Judging.ProgressLemmas.{Progress}
use Rattle.rob_sets.proofs.set.append_statements.Given as goal

-- the rows of the statements so far are done
abbrev pub invariant-loop-line : goal.invariant-loop-line
invariant-loop-line g l =
    let value = g.N.Exact.value in
    let m = robust value l.model in
    let left = map (set_line_of value) (drop l.line-index l.model.set_lines) in
    record {
      number : l.number ≡ l.line-index;
      lifts : l.lift + lift_count left ≡ lift_count m.set_lines;
      progress : Progress (cleared_row m) (RowFits g.N.Exact.limit) g.N.Exact.limit m
          (statement_rows m zero m.set_lines) (statement_rows m l.lift left)
          (judged_statements m zero zero (length l.fn.rows) m.set_lines)
          (judged_statements m l.number l.lift (length l.rows) left) l.fn.rows l.rows;
      counted : NeverFell g.L.Ledger.ops g.L.Ledger.wides l.fn.ledger l.ledger;
    }
