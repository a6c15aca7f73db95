use Rattle.std.proofs.Common.{sym, ◌∙◌}
use Rattle.rob_rules.specs.Faults.{has_fault}
use Rattle.rob_rules.specs.Scopes.{earlier_of}
use Rattle.rob_rules.proofs.Judging.SearchLemmas.{find_more}
use Rattle.rob_rules.proofs.fault.first_fault.Goals as goal

pub loop-fault-preserved : goal.loop-fault-preserved
loop-fault-preserved c =
    find_more (has_fault c.args.limit (earlier_of c.args.before.now) (earlier_of c.args.now.now) c.args.statement.now) _
    c.loop-fault.fault-index _ c.loop-fault-test.true (sym c.if-branch.false ∙ c.in_ok-has_fault.ensures.holds)
    c.loop-fault.invariant
