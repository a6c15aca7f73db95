use Rattle.rob_meaning.proofs.Conditions.EmptyInLemmas.{shows_empty_in}
use Rattle.rob_meaning.proofs.Conditions.EmptyLemmas.{shows_empty}
use Rattle.rob_counterpart.specs.ReadCertificates.{weights_read}
use Rattle.rob_counterpart.proofs.Sets.OwnSetLemmas.{weights_in}
use Rattle.rob_counterpart.proofs.Sets.ScenarioLemmas.{set_weights, basis_admitted}
use Rattle.rob_counterpart.proofs.uncertainty_set.set_laws.Goals as goal

pub returns : goal.returns
returns c = record {
  weights = set_weights;
  empty = λ m own rows model en. shows_empty m model (weights_read m rows) (set_weights m own rows en);
  one_set = λ m own rows model en.
      let found = weights_in m model own rows en in
      (found.0, found.1, shows_empty_in m model found.0 (weights_read m rows) found.1);
  scenario = λ m own rows x model. basis_admitted m model own rows x;
}
