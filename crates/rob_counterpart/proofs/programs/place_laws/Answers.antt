use Rattle.rob_counterpart.proofs.Positions.ReformPlaces.{reform_is}
use Rattle.rob_counterpart.proofs.Sets.SetLemmas.{over_set_is, cost_is, search_is}
use Rattle.rob_counterpart.proofs.Searching.MasterLemmas.{master_is}
use Rattle.rob_counterpart.proofs.programs.place_laws.Goals as goal

pub returns-clause-counterpart : goal.returns-clause-counterpart
returns-clause-counterpart c = reform_is

pub returns-clause-over_set : goal.returns-clause-over_set
returns-clause-over_set c = λ d f. (over_set_is d f, cost_is d f)

pub returns-clause-search : goal.returns-clause-search
returns-clause-search c = search_is

pub returns-clause-master : goal.returns-clause-master
returns-clause-master c = master_is
