use Rattle.rob_number.specs.Counts.{NeverFell}
use Rattle.rob_meaning.specs.Forms.{row_forms}
use Rattle.rob_model.specs.View.{robust}
use Rattle.rob_elab.proofs.AppendLemmas.{FormProgress}
use Rattle.rob_elab.proofs.LeftLemmas.{other_rows}
use Rattle.rob_elab.proofs.rows.append_rows.Given as goal

-- the forms of the rows so far are done
abbrev pub invariant-loop-row : goal.invariant-loop-row
invariant-loop-row g l =
    let value = g.N.Exact.value in
    let m = robust value l.model in
    record {
      progress : FormProgress g.N.Exact.limit m (row_forms m.rows) (other_rows value l.model.rows l.row-index)
          l.fn.matrices l.matrices;
      counted : NeverFell g.L.Ledger.ops g.L.Ledger.wides l.fn.ledger l.ledger;
    }
