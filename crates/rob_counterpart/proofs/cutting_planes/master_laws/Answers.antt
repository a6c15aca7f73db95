use Rattle.rob_counterpart.proofs.Searching.MasterEndings.{cuts_optimal, cuts_infeasible, cuts_improve}
use Rattle.rob_counterpart.proofs.cutting_planes.master_laws.Goals as goal

pub returns-clause-optimal : goal.returns-clause-optimal
returns-clause-optimal c = λ m cuts own rows x y are. cuts_optimal m cuts are own rows x y

pub returns-clause-infeasible : goal.returns-clause-infeasible
returns-clause-infeasible c = λ m cuts own rows are. cuts_infeasible m cuts are own rows

pub returns-clause-unbounded : goal.returns-clause-unbounded
returns-clause-unbounded c = λ m cuts own rows column x r are. cuts_improve m cuts are own rows column x r
