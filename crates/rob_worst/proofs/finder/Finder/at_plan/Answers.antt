use Rattle.std.proofs.Common.{◌<◌, List, length, subst, ap, ◌∙◌, suc, false}
use lib.IntN.{ℤ}
use Rattle.rob_worst.specs.Vectors.{plan_of}
use Rattle.rob_worst.proofs.VectorLemmas.{plan_count}
use Rattle.rob_dualize.proofs.MakingLemmas.{set_of_one}
use Rattle.rob_worst.proofs.finder.Finder.at_plan.Goals as goal

pub search-requires-clause-model : goal.search-requires-clause-model
search-requires-clause-model g c = set_of_one c.args.forms.now c.args.set.now c.requires.model.elaborated

pub returns-clause-answer : goal.returns-clause-answer
returns-clause-answer g c = λ m model f s.
    c.search.ensures.answer m model s false c.args.form (subst
    (λ (all : List (List (List ℤ))). c.args.form < length all) f.matrices c.requires.form_in)
    (plan_of g.N.Exact.value c.args.plan.now) (plan_count g.N.Exact.value c.args.plan.now c.args.forms.now.columns
    c.requires.size ∙ ap (λ n. suc (suc n)) f.columns)
    (c.plan_task-task.ensures.task m f s)
