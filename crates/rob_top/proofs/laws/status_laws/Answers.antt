use Rattle.rob_top.proofs.Relations.StatusLawLemmas.{not_empty, one_status}
use Rattle.rob_top.proofs.laws.status_laws.Goals as goal

pub returns : goal.returns
returns c = record {
  one_status = λ call known a b text other. one_status call a b text other known;
  not_empty = λ call known status weights text other. not_empty call status weights text other known;
}
