use Rattle.std.proofs.Common.{drop}
use Rattle.rob_rules.specs.Scopes.{earlier_of}
use Rattle.rob_rules.specs.Stages.{lowest_fault, behind_all}
use Rattle.rob_rules.proofs.Judging.LowestLemmas.{IsJudged}
use Rattle.rob_rules.proofs.lines.judge_all.Given as goal

abbrev pub invariant-loop-statement : goal.invariant-loop-statement
invariant-loop-statement l =
    IsJudged l.limit (earlier_of l.front)
    (lowest_fault l.limit (earlier_of l.front) (earlier_of l.fn.scope) l.statements)
    (behind_all (earlier_of l.fn.scope) l.statements) (drop l.statement-index l.statements) (earlier_of l.scope)
    l.lowest
