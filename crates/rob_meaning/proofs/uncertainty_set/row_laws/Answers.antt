use Rattle.rob_meaning.proofs.Conditions.OwnRowLemmas.{length-row_sets, own_number, set_of_joint, sets_in}
use Rattle.rob_meaning.proofs.uncertainty_set.row_laws.Goals as goal

pub returns : goal.returns
returns c = record {
  counted = length-row_sets;
  sets = λ m i model. sets_in m model i;
  parameters = set_of_joint;
  own = λ m i c model. own_number m model i c;
}
