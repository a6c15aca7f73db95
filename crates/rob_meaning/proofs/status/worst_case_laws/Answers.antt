use Rattle.rob_meaning.proofs.Proving.StatusLemmas.{attained_is_worst_case, bound_weakens, one_worst_case, optimum_is_worst_case}
use Rattle.rob_meaning.proofs.status.worst_case_laws.Goals as goal

pub returns : goal.returns
returns c = record {
  weaker = bound_weakens;
  attained = attained_is_worst_case;
  one_worst_case = one_worst_case;
  optimum = optimum_is_worst_case;
}
