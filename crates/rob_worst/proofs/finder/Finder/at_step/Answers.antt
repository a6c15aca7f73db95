use Rattle.std.proofs.Common.{◌<◌, List, length, subst, ap, ◌∙◌, suc, true}
use lib.IntN.{ℤ}
use Rattle.rob_worst.specs.Vectors.{step_of}
use Rattle.rob_worst.proofs.VectorLemmas.{step_count}
use Rattle.rob_dualize.proofs.MakingLemmas.{set_of_one}
use Rattle.rob_worst.proofs.finder.Finder.at_step.Goals as goal

pub search-requires-clause-model : goal.search-requires-clause-model
search-requires-clause-model g c = set_of_one c.args.forms.now c.args.set.now c.requires.model.elaborated

pub returns-clause-answer : goal.returns-clause-answer
returns-clause-answer g c = λ m model f s.
    c.search.ensures.answer m model s true c.args.form (subst
    (λ (all : List (List (List ℤ))). c.args.form < length all) f.matrices c.requires.form_in)
    (step_of g.N.Exact.value c.args.step.now) (step_count g.N.Exact.value c.args.step.now c.args.forms.now.columns
    c.requires.size ∙ ap (λ n. suc (suc n)) f.columns)
    (c.step_task-task.ensures.task m f s)
