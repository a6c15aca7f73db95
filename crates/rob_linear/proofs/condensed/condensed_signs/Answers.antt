use Rattle.rob_linear.proofs.RowForms.CondensedSigns.{condensed_first, condensed_none}
use Rattle.rob_linear.proofs.condensed.condensed_signs.Goals as goal

pub returns : goal.returns
returns c = record {
  first = condensed_first;
  none = condensed_none;
}
