use Rattle.rob_meaning.proofs.Conditions.AdmittedLemmas.{admits_jointly, jointly_admits, some_admitted_law}
use Rattle.rob_meaning.proofs.uncertainty_set.part_laws.Goals as goal
use Rattle.rob_meaning.specs.UncertaintySet.{part_of}

pub returns : goal.returns
returns c = record {
  by_condition = λ m u model. (admits_jointly m model u, jointly_admits m model u);
  some_admitted = some_admitted_law;
  one_empty = λ m S some none u admitted. none (part_of m S u) (admitted.parts S some);
}
