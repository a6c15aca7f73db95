use Rattle.rob_counterpart.specs.Splitting.{plus, minus}
use Rattle.rob_counterpart.proofs.Pairs.PairLaw.{program_keeps_pairs, ending_keeps_pairs}
use Rattle.rob_counterpart.proofs.Pairs.SplitLemmas.{opposite_apart, set_pair, master_pair}
use Rattle.rob_counterpart.proofs.basic_pairs.basis_laws.Goals as goal

pub returns-clause-counterpart : goal.returns-clause-counterpart
returns-clause-counterpart c = program_keeps_pairs

pub returns-clause-infeasible : goal.returns-clause-infeasible
returns-clause-infeasible c = λ d P own rows re en. ending_keeps_pairs d P own rows re en.basis en.ends.below

pub returns-clause-over_set : goal.returns-clause-over_set
returns-clause-over_set c =
    λ d f P own rows k se co l b. opposite_apart P (plus k) (minus k) (set_pair d f P se co k l) own rows b

pub returns-clause-master : goal.returns-clause-master
returns-clause-master c =
    λ d cuts P own rows j ma l b. opposite_apart P (plus j) (minus j) (master_pair d cuts P ma j l) own rows b
