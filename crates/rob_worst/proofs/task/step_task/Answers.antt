use Rattle.std.proofs.Common.{map, true, ap, ◌∙◌, subst, MatchResult}
use Rattle.rob_worst.specs.Finding.{HasSearchCause}
use Rattle.rob_worst.specs.Tasks.{IsTaskOf}
use Rattle.rob_worst.proofs.VectorLemmas.{step_count, count_back}
use Rattle.rob_worst.proofs.task.step_task.Goals as goal

pub task_at-requires-clause-size : goal.task_at-requires-clause-size
task_at-requires-clause-size g c =
    count_back g.N.Exact.value c.items.result.now _ _
    (ap (map g.N.Exact.value) c.items.ensures.list ∙ c.in_ok-vector.ensures.vector)
    (step_count g.N.Exact.value c.args.step.now c.args.model.forms.now.columns c.requires.size)

pub returns-clause-task : goal.returns-clause-task
returns-clause-task g c = λ m f s.
    let value = g.N.Exact.value in
    subst (λ z. MatchResult c.task_at.result (IsTaskOf m true c.args.form z)
    (HasSearchCause g.N.Exact.limit m true c.args.form z))
    (ap (map value) c.items.ensures.list ∙ c.in_ok-vector.ensures.vector) (c.task_at.ensures.task m f s)
