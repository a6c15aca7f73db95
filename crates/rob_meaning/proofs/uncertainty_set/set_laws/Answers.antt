use Rattle.rob_meaning.proofs.Conditions.AdmittedLemmas.{admission_law}
use Rattle.rob_meaning.proofs.Conditions.ConeLemmas.{along_ray, taken_law}
use Rattle.rob_meaning.proofs.Conditions.EmptyInLemmas.{shows_empty_in}
use Rattle.rob_meaning.proofs.Conditions.EmptyLemmas.{shows_empty}
use Rattle.rob_meaning.proofs.Conditions.WholeRowLemmas.{lifted_law}
use Rattle.rob_meaning.proofs.uncertainty_set.set_laws.Goals as goal

pub returns : goal.returns
returns c = record {
  admitted = λ m u model. admission_law m model u;
  ray = λ m u r t model. along_ray m model u r t;
  taken = λ m s p model. taken_law m model s p;
  lifted = λ m s p model. lifted_law m model s p;
  empty = λ m weights model. shows_empty m model weights;
  empty_in = λ m S weights model. shows_empty_in m model S weights;
}
