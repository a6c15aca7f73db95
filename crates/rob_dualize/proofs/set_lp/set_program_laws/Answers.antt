use Rattle.rob_counterpart.specs.Counterpart.{set_program}
use Rattle.rob_counterpart.specs.SamePrograms.{AreSame}
use Rattle.rob_dualize.proofs.SetEmptyLemmas.{empty_where_infeasible, infeasible_where_empty}
use Rattle.rob_dualize.proofs.SetProgramLemmas.{has_whole_rows, few, of_model, same_program}
use Rattle.rob_dualize.proofs.set_lp.set_program_laws.Goals as goal

pub returns-clause-whole : goal.returns-clause-whole
returns-clause-whole c = has_whole_rows

pub returns-clause-few : goal.returns-clause-few
returns-clause-few c = few

pub returns-clause-rows : goal.returns-clause-rows
returns-clause-rows c = λ m set P is h. of_model m set is P h

pub returns-clause-same : goal.returns-clause-same
returns-clause-same c = λ m set P is h. same_program m set is P h

pub returns-clause-empty : goal.returns-clause-empty
returns-clause-empty c = λ m set P model is h.
    let same : AreSame P (set_program m) = same_program m set is P h in
    (empty_where_infeasible m model P same, infeasible_where_empty m model P same)
