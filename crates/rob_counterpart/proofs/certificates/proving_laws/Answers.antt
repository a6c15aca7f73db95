use Rattle.rob_counterpart.specs.ReadCertificates.{optimal_read, infeasible_read, unbounded_read}
use Rattle.rob_counterpart.proofs.Proving.CertificateLemmas.{read_optimal_proves, read_infeasible_proves, read_unbounded_proves, optimal_is_read, infeasible_is_read, unbounded_is_read}
use Rattle.rob_counterpart.proofs.certificates.proving_laws.Goals as goal

pub returns-clause-optimal : goal.returns-clause-optimal
returns-clause-optimal c = λ m inside own rows x y model admitted en.
    read_optimal_proves m model own rows (optimal_read m inside x y) admitted x y
    (optimal_is_read m inside own rows x y en)

pub returns-clause-infeasible : goal.returns-clause-infeasible
returns-clause-infeasible c = λ m inside own rows model admitted en.
    read_infeasible_proves m model own rows (infeasible_read m inside rows) admitted
    (infeasible_is_read m inside own rows en)

pub returns-clause-unbounded : goal.returns-clause-unbounded
returns-clause-unbounded c = λ m inside own rows column x r model admitted en.
    read_unbounded_proves m model own rows (unbounded_read m inside x r) admitted column x r
    (unbounded_is_read m inside own rows column x r en)
