use Rattle.rob_meaning.proofs.Conditions.AdmittedLemmas.{admission_law}
use Rattle.rob_meaning.proofs.Conditions.WholeRowLemmas.{lifted_law}
use Rattle.rob_meaning.specs.Places.{1ℚ}
use Rattle.rob_sets.proofs.WholeRows.LiftedLemmas.{covered, through}
use Rattle.rob_sets.proofs.laws.set_form_laws.Goals as goal

pub returns : goal.returns
returns c = record {
  admitted = λ m set u model is.
      through (admission_law m model u) (through (lifted_law m model 1ℚ u) (covered m set 1ℚ u is));
  taken = λ m set s p model is. through (lifted_law m model s p) (covered m set s p is);
}
