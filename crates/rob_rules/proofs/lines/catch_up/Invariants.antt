use Rattle.std.proofs.Common.{drop}
use Rattle.rob_rules.specs.Scopes.{earlier_of}
use Rattle.rob_rules.specs.Stages.{behind_all, declare_all}
use Rattle.rob_rules.proofs.Judging.LowestLemmas.{IsCaughtUp}
use Rattle.rob_rules.proofs.lines.catch_up.Given as goal

abbrev pub invariant-loop-statement : goal.invariant-loop-statement
invariant-loop-statement l =
    IsCaughtUp (behind_all (earlier_of l.fn.front) l.statements)
    (declare_all (earlier_of l.fn.front) l.fn.declared l.statements) (drop l.statement-index l.statements)
    (earlier_of l.front) l.declared
