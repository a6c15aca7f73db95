use Rattle.std.proofs.Common.{◌≡◌, drop}
use Rattle.std.specs.List.{find}
use Rattle.rob_rules.specs.Faults.{has_fault, first_fault}
use Rattle.rob_rules.specs.Scopes.{earlier_of}
use Rattle.rob_rules.proofs.fault.first_fault.Given as goal

abbrev pub invariant-loop-fault : goal.invariant-loop-fault
invariant-loop-fault l =
    find (has_fault l.limit (earlier_of l.before) (earlier_of l.now) l.statement) (drop l.fault-index l.fault-items)
    ≡ first_fault l.limit (earlier_of l.before) (earlier_of l.now) l.statement
