use Rattle.std.specs.Prelude.{◌≡◌, ◌+◌}
use Rattle.rob_number.specs.Counts.{NeverFell}
use Rattle.rob_model.specs.View.{robust}
use Rattle.rob_sets.proofs.WholeRows.BudgetSteps.{MembersSoFar}
use Rattle.rob_sets.proofs.budget.append_budget.Given as goal

-- the rows of the members so far are done
abbrev pub invariant-loop-member : goal.invariant-loop-member
invariant-loop-member g l = record {
  column : l.column ≡ l.lift + l.member-index;
  so_far : MembersSoFar g.N.Exact.value g.N.Exact.limit (robust g.N.Exact.value l.model) l.lift l.limit l.members
      l.fn.rows l.column l.member-index l.rows;
  counted : NeverFell g.L.Ledger.ops g.L.Ledger.wides l.fn.ledger l.ledger;
}
