use Rattle.std.proofs.Common.{sym, subst}
use Rattle.rob_cuts.specs.declared.scan.Target.{Target}
use Rattle.rob_cuts.specs.Scans.{vector_of, by_step_of, FitsTarget}
use Rattle.rob_worst.specs.Finding.{Searches}
use Rattle.rob_dualize.proofs.MakingLemmas.{set_of_few}
use Rattle.rob_cuts.proofs.scan.search.Goals as goal

pub at_plan-requires-clause-model : goal.at_plan-requires-clause-model
at_plan-requires-clause-model g c = record {
  elaborated = c.requires.model.elaborated;
  few = set_of_few c.args.model.forms.now c.args.model.set.now c.requires.model.elaborated c.requires.model.few;
}

pub at_plan-requires-clause-size : goal.at_plan-requires-clause-size
at_plan-requires-clause-size g c = subst (FitsTarget c.args.model.forms.now.columns) c.in-Plan.is c.requires.target

pub at_step-requires-clause-model : goal.at_step-requires-clause-model
at_step-requires-clause-model g c = record {
  elaborated = c.requires.model.elaborated;
  few = set_of_few c.args.model.forms.now c.args.model.set.now c.requires.model.elaborated c.requires.model.few;
}

pub at_step-requires-clause-size : goal.at_step-requires-clause-size
at_step-requires-clause-size g c = subst (FitsTarget c.args.model.forms.now.columns) c.in-Step.is c.requires.target

pub returns-in-Plan-clause-answer : goal.returns-in-Plan-clause-answer
returns-in-Plan-clause-answer g c = λ m model f st.
    subst (λ (t : Target g.row.N.Denot). Searches g.N.Exact.value g.N.Exact.limit m (by_step_of t) c.args.form
    (vector_of g.N.Exact.value t)
    (g.L.Ledger.wides c.args.ledger.now) (g.L.Ledger.wides c.at_plan.new.ledger) c.at_plan.result) (sym c.in-Plan.is)
    (c.at_plan.ensures.answer m model f st)

pub returns-in-Step-clause-answer : goal.returns-in-Step-clause-answer
returns-in-Step-clause-answer g c = λ m model f st.
    subst (λ (t : Target g.row.N.Denot). Searches g.N.Exact.value g.N.Exact.limit m (by_step_of t) c.args.form
    (vector_of g.N.Exact.value t)
    (g.L.Ledger.wides c.args.ledger.now) (g.L.Ledger.wides c.at_step.new.ledger) c.at_step.result) (sym c.in-Step.is)
    (c.at_step.ensures.answer m model f st)
