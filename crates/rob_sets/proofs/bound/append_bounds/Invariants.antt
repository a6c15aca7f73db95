use Rattle.std.specs.Prelude.{◌≡◌, zero, []}
use Rattle.rob_number.specs.Counts.{NeverFell}
use Rattle.rob_meaning.specs.SetRows.{bound_rows}
use Rattle.rob_model.specs.View.{robust}
use Rattle.rob_sets.proofs.WholeRows.BoundRowLemmas.{other_bounds}
use Rattle.rob_sets.proofs.Judging.RowSteps.{RowProgress}
use Rattle.rob_sets.proofs.bound.append_bounds.Given as goal

-- the rows of the parameters so far are done
abbrev pub invariant-loop-parameter : goal.invariant-loop-parameter
invariant-loop-parameter g l =
    let value = g.N.Exact.value in
    let m = robust value l.model in
    record {
      number : l.number ≡ l.parameter-index;
      progress : RowProgress g.N.Exact.limit m (bound_rows zero m.parameters)
          (other_bounds value l.model.params l.parameter-index) [] l.rows;
      counted : NeverFell g.L.Ledger.ops g.L.Ledger.wides l.fn.ledger l.ledger;
    }
