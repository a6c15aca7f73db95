use Rattle.rob_counterpart.proofs.Proving.CompletenessLemmas.{scenario_or_weights, some_certificate, some_status}
use Rattle.rob_counterpart.proofs.completeness.completeness_laws.Goals as goal

pub returns-clause-scenario : goal.returns-clause-scenario
returns-clause-scenario c = scenario_or_weights

pub returns-clause-certificate : goal.returns-clause-certificate
returns-clause-certificate c = λ m inside model. some_certificate m model inside

pub returns-clause-status : goal.returns-clause-status
returns-clause-status c = λ m inside model. some_status m model inside
