use Rattle.std.proofs.Common.{◌≡◌, drop}
use Rattle.rob_parse.specs.Written.{goal_in}
use Rattle.rob_parse.proofs.model.goal.Given as goal

abbrev pub invariant-loop-statement : goal.invariant-loop-statement
invariant-loop-statement l = goal_in (drop l.statement-index l.list) ≡ goal_in l.list
