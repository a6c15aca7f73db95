use Rattle.std.proofs.Common.{subst, arith}
use Rattle.rob_simplex.specs.Solutions.{point_of}
use Rattle.rob_worst.specs.Vectors.{plan_of}
use Rattle.rob_cuts.specs.Scans.{IsScanned}
use Rattle.rob_cuts.specs.declared.scan.Scan.{Scan}
use Rattle.rob_cuts.proofs.LookLemmas.{plan_broken, plan_kept, plan_stopped, plan_columns_count}
use Rattle.rob_cuts.proofs.RouteLemmas.{few_pairs}
use Rattle.rob_cuts.proofs.look.look_at_plan.Goals as goal

pub plan-requires-clause-few : goal.plan-requires-clause-few
plan-requires-clause-few g c = omega (
  arith,
  c.requires.pairs.count,
  few_pairs c.args.model.forms.now
      c.args.model.set.now c.requires.model.elaborated c.requires.model.few,
)

pub scan_forms-requires-clause-target : goal.scan_forms-requires-clause-target
scan_forms-requires-clause-target g c =
    plan_columns_count g.N.Exact.limit c.requires.model.elaborated.model g.N.Exact.value c.args.model.forms.now
    c.requires.model.elaborated.are_forms
    c.in_ok-plan.plan (point_of c.args.solver.now) c.in_ok-plan.ensures.columns c.in_ok-plan.ensures.bound

pub returns-in-Ok-Broken-clause-look : goal.returns-in-Ok-Broken-clause-look
returns-in-Ok-Broken-clause-look g c = λ m model f st.
    plan_broken g.N.Exact.limit m g.N.Exact.value c.args.model.forms.now f c.in_ok-plan.plan
    (point_of c.args.solver.now) c.in_ok-plan.ensures.columns c.in_ok-plan.ensures.bound c.in-Ok-Broken.cut
    (subst (λ (s : Scan g.row.N.Denot). IsScanned g.N.Exact.limit m g.N.Exact.value
    (plan_of g.N.Exact.value c.in_ok-plan.plan) s) c.in-Ok-Broken.field-0-is
    (c.in-Ok-Broken.ensures.scanned m model f st))

pub returns-in-Ok-Kept-clause-look : goal.returns-in-Ok-Kept-clause-look
returns-in-Ok-Kept-clause-look g c = λ m model f st.
    plan_kept g.N.Exact.limit m g.N.Exact.value c.args.model.forms.now f c.in_ok-plan.plan
    (point_of c.args.solver.now) c.in_ok-plan.ensures.columns c.in_ok-plan.ensures.bound c.in-Ok-Kept.kept
    (subst (λ (s : Scan g.row.N.Denot). IsScanned g.N.Exact.limit m g.N.Exact.value
    (plan_of g.N.Exact.value c.in_ok-plan.plan) s) c.in-Ok-Kept.field-0-is
    (c.in-Ok-Kept.ensures.scanned m model f st))

pub returns-in-Err-clause-look : goal.returns-in-Err-clause-look
returns-in-Err-clause-look g c = λ m model f st.
    plan_stopped g.N.Exact.limit m g.N.Exact.value c.args.model.forms.now f c.in_ok-plan.plan
    (point_of c.args.solver.now) c.in_ok-plan.ensures.columns c.in_ok-plan.ensures.bound c.in-Err.stop
    (c.in-Err.ensures.scanned m model f st)
