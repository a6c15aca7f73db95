use Rattle.rob_meaning.proofs.Tables.AtLemmas.{form_law, keeps_law, joint_bound_law, bound_law}
use Rattle.rob_meaning.proofs.forms.form_laws.Goals as goal

pub returns : goal.returns
returns c = record {
  form = λ m i u plan tau model. form_law m model plan tau i u;
  keeps = λ m u plan tau model. keeps_law m model plan tau u;
  joint_bound = λ m plan tau model. joint_bound_law m model plan tau;
  bound = λ m plan tau model. bound_law m model plan tau;
}
