use Rattle.std.proofs.Common.{map, ap, ◌∙◌, sym, subst, arith}
use Rattle.rob_simplex.specs.Solutions.{ray_of}
use Rattle.rob_worst.specs.Vectors.{step_of}
use Rattle.rob_cuts.specs.Scans.{IsScanned}
use Rattle.rob_cuts.specs.declared.scan.Scan.{Scan}
use Rattle.rob_cuts.proofs.LookLemmas.{step_broken, step_kept, step_stopped, step_count}
use Rattle.rob_cuts.proofs.RouteLemmas.{few_pairs}
use Rattle.rob_cuts.proofs.look.look_at_step.Goals as goal

pub direction-requires-clause-few : goal.direction-requires-clause-few
direction-requires-clause-few g c = omega (
  arith,
  c.requires.pairs.count,
  few_pairs c.args.model.forms.now
      c.args.model.set.now c.requires.model.elaborated c.requires.model.few,
)

pub scan_forms-requires-clause-target : goal.scan_forms-requires-clause-target
scan_forms-requires-clause-target g c =
    step_count g.N.Exact.limit c.requires.model.elaborated.model g.N.Exact.value c.args.model.forms.now
    c.requires.model.elaborated.are_forms
    c.items.result.now (ray_of c.args.solver.now) (ap (map g.N.Exact.value) c.items.ensures.list
    ∙ c.in_ok-step.ensures.numbers)

pub returns-in-Ok-Broken-clause-look : goal.returns-in-Ok-Broken-clause-look
returns-in-Ok-Broken-clause-look g c = λ m model f st.
    step_broken g.N.Exact.limit m g.N.Exact.value c.args.model.forms.now f c.items.result.now
    (ray_of c.args.solver.now) (ap (map g.N.Exact.value) c.items.ensures.list ∙ c.in_ok-step.ensures.numbers)
    c.in-Ok-Broken.cut
    (subst (λ (s : Scan g.row.N.Denot). IsScanned g.N.Exact.limit m g.N.Exact.value
    (step_of g.N.Exact.value c.items.result.now) s) c.in-Ok-Broken.field-0-is
    (c.in-Ok-Broken.ensures.scanned m model f st))

pub returns-in-Ok-Kept-clause-look : goal.returns-in-Ok-Kept-clause-look
returns-in-Ok-Kept-clause-look g c = λ m model f st.
    step_kept g.N.Exact.limit m g.N.Exact.value c.args.model.forms.now f c.items.result.now (ray_of c.args.solver.now)
    (ap (map g.N.Exact.value) c.items.ensures.list ∙ c.in_ok-step.ensures.numbers)
    c.in_ok-step.step (sym c.items.ensures.list) c.in-Ok-Kept.kept
    (subst (λ (s : Scan g.row.N.Denot). IsScanned g.N.Exact.limit m g.N.Exact.value
    (step_of g.N.Exact.value c.items.result.now) s) c.in-Ok-Kept.field-0-is
    (c.in-Ok-Kept.ensures.scanned m model f st))

pub returns-in-Err-clause-look : goal.returns-in-Err-clause-look
returns-in-Err-clause-look g c = λ m model f st.
    step_stopped g.N.Exact.limit m g.N.Exact.value c.args.model.forms.now f c.items.result.now
    (ray_of c.args.solver.now) (ap (map g.N.Exact.value) c.items.ensures.list ∙ c.in_ok-step.ensures.numbers)
    c.in-Err.stop
    (c.in-Err.ensures.scanned m model f st)
