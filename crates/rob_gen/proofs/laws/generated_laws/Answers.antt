use Rattle.rob_gen.proofs.GeneratedLemmas.{admitted, generated_again, well_formed, within_limits, well_named}
use Rattle.rob_gen.proofs.laws.generated_laws.Goals as goal

pub returns : goal.returns
returns c = record {
  model = well_formed;
  limits = within_limits;
  named = well_named;
  again = generated_again;
  admitted = admitted;
}
