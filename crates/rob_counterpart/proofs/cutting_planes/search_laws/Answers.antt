use Rattle.rob_counterpart.proofs.Searching.WorstCaseLemmas.{search_worst_case, search_value, search_grows, worst_covers, covers_scaled}
use Rattle.rob_counterpart.proofs.cutting_planes.search_laws.Goals as goal

pub returns-clause-worst : goal.returns-clause-worst
returns-clause-worst c = λ m i z own rows x y model some. search_worst_case m model i some z own rows x y

pub returns-clause-peak : goal.returns-clause-peak
returns-clause-peak c = λ m i z own rows x y model some. search_value m model i some z own rows x y

pub returns-clause-along : goal.returns-clause-along
returns-clause-along c = λ m i z own rows column x r model some. search_grows m model i some z own rows column x r

pub returns-clause-covers : goal.returns-clause-covers
returns-clause-covers c = λ m i z scenario amounts some. worst_covers m i some z scenario amounts

pub returns-clause-scaled : goal.returns-clause-scaled
returns-clause-scaled c = covers_scaled
