use Rattle.rob_counterpart.proofs.Proving.CertificateLemmas.{read_optimal_proves, read_infeasible_proves, read_unbounded_proves}
use Rattle.rob_counterpart.proofs.certificates.ending_laws.Goals as goal

pub returns-clause-optimal : goal.returns-clause-optimal
returns-clause-optimal c = λ m own rows x y cert model inside. read_optimal_proves m model own rows cert inside x y

pub returns-clause-infeasible : goal.returns-clause-infeasible
returns-clause-infeasible c = λ m own rows cert model inside. read_infeasible_proves m model own rows cert inside

pub returns-clause-unbounded : goal.returns-clause-unbounded
returns-clause-unbounded c =
    λ m own rows column x r cert model inside. read_unbounded_proves m model own rows cert inside column x r
