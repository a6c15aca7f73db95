use Rattle.rob_counterpart.proofs.Proving.CertificateLemmas.{optimal_is_read, infeasible_is_read, unbounded_is_read}
use Rattle.rob_counterpart.proofs.certificates.reading_laws.Goals as goal

pub returns-clause-optimal : goal.returns-clause-optimal
returns-clause-optimal c = optimal_is_read

pub returns-clause-infeasible : goal.returns-clause-infeasible
returns-clause-infeasible c = infeasible_is_read

pub returns-clause-unbounded : goal.returns-clause-unbounded
returns-clause-unbounded c = unbounded_is_read
