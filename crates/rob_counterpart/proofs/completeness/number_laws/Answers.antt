use Rattle.rob_counterpart.proofs.Proving.CompletenessLemmas.{optimal_exists, unbounded_exists}
use Rattle.rob_counterpart.proofs.completeness.number_laws.Goals as goal

pub returns-clause-optimal : goal.returns-clause-optimal
returns-clause-optimal c = optimal_exists

pub returns-clause-unbounded : goal.returns-clause-unbounded
returns-clause-unbounded c = unbounded_exists
