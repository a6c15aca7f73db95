use Rattle.rob_counterpart.proofs.Searching.MasterEndings.{cuts_keep, cuts_keep_along}
use Rattle.rob_counterpart.proofs.cutting_planes.keeping_laws.Goals as goal

pub returns-clause-plan : goal.returns-clause-plan
returns-clause-plan c = λ m cuts own rows x y q are. λ en. cuts_keep m cuts are own rows x y en q

pub returns-clause-unbounded : goal.returns-clause-unbounded
returns-clause-unbounded c =
    λ m cuts own rows column x r q are. λ en. cuts_keep_along m cuts are own rows column x r en q
