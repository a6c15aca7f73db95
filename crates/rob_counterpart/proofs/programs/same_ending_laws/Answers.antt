use Rattle.rob_counterpart.proofs.Positions.SamePaths.{optimal_same, infeasible_same, unbounded_same}
use Rattle.rob_counterpart.proofs.programs.same_ending_laws.Goals as goal

pub returns-clause-optimal : goal.returns-clause-optimal
returns-clause-optimal c = λ P Q own rows x y h. optimal_same P Q h own rows x y

pub returns-clause-infeasible : goal.returns-clause-infeasible
returns-clause-infeasible c = λ P Q own rows h. infeasible_same P Q h own rows

pub returns-clause-unbounded : goal.returns-clause-unbounded
returns-clause-unbounded c = λ P Q own rows column x r h. unbounded_same P Q h own rows column x r
