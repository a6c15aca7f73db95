use Rattle.std.proofs.Common.{refl}
use Rattle.rob_syntax.proofs.Fronts.PartLemmas.{refused_up}
use Rattle.rob_syntax.proofs.Fronts.KindLemmas.{no_goal, no_goal_ranges, goal_read}
use Rattle.rob_syntax.proofs.indexed.statement.goal.Goals as goal

pub returns-in_err-objective : goal.returns-in_err-objective
returns-in_err-objective c =
    record { read = refused_up _ _ _ c.from_residual.ensures.1 no_goal c.in_err-objective.ensures.read }

pub returns-in_err-ranges : goal.returns-in_err-ranges
returns-in_err-ranges c = record {
  read = refused_up _ _ _ c.from_residual-in_err-ranges.ensures.1 (no_goal_ranges c.in_ok-objective.ensures.read)
      c.in_err-ranges.ensures.read;
}

pub returns : goal.returns
returns c = record { read = (goal_read c.in_ok-objective.ensures.read c.in_ok-ranges.ensures.read, refl) }
