use Rattle.std.proofs.Common.{ap, ◌∙◌, length}
use Rattle.rob_number.proofs.CountLemmas.{later}
use Rattle.rob_simplex.specs.Solutions.{ray_of}
use Rattle.rob_cuts.proofs.LookLemmas.{look_count}
use Rattle.rob_cuts.proofs.OutcomeLemmas.{step_cut_off, step_refused, point_cut_off, plan_stopped, unbounded_out}
use Rattle.rob_cuts.proofs.RoundLemmas.{round_of, columns_are_pairs, boundless_one, direction_one, step_stopped}
use Rattle.rob_cuts.proofs.RouteLemmas.{of_route, route_set}
use Rattle.rob_cuts.proofs.SolvingLemmas.{counts_stop}
use Rattle.rob_cuts.proofs.round.boundless.Goals as goal

pub look_at_step-requires : goal.look_at_step-requires
look_at_step-requires g c =
    let r = round_of c.requires.model.elaborated.are_forms c.requires.run.master c.requires.ended.answer in
    record {
      model = c.requires.model;
      finder = c.requires.finder;
      ray = c.requires.ended.answer.answered.0;
      pairs = record { count = columns_are_pairs r; one = direction_one r };
    }

pub look_at_plan-requires : goal.look_at_plan-requires
look_at_plan-requires g c =
    let r = round_of c.requires.model.elaborated.are_forms c.requires.run.master c.requires.ended.answer in
    record {
      model = c.requires.model;
      finder = c.look_at_step.ensures.finder;
      point = c.requires.ended.answer.answered.1;
      pairs = record { count = columns_are_pairs r; one = boundless_one r };
    }

pub boundless_round-requires-clause-within : goal.boundless_round-requires-clause-within
boundless_round-requires-clause-within g c =
    let told = rw c.in-Ok-Broken.field-0-is at (of_route c.requires.model c.in-Ok-Broken.ensures.look) in told.1.base

pub boundless_round-requires-in-Ok-Broken-look_at_plan-clause-within :
    goal.boundless_round-requires-in-Ok-Broken-look_at_plan-clause-within
boundless_round-requires-in-Ok-Broken-look_at_plan-clause-within g c =
    let look = of_route c.requires.model c.in-Ok-Broken-look_at_plan.ensures.look in
    let told = rw c.in-Ok-Broken-look_at_plan.field-0-is at look in told.1.base

pub whole_step-requires : goal.whole_step-requires
whole_step-requires g c =
    let away = rw c.in-Ok-Kept.field-0-is at (of_route c.requires.model c.in-Ok-Kept.ensures.look) in
    let count = look_count g.N.Exact.value c.requires.model.elaborated.are_forms c.in-Ok-Kept.step
    (ray_of c.args.solver.now) away.0 in
    record { size = ap length c.items.ensures.list ∙ count }

pub inside-requires : goal.inside-requires
inside-requires g c =
    let e = c.requires.model.elaborated in
    record { finder = (c.args.model.set.now, e, route_set c.requires.model, c.look_at_plan.ensures.finder) }

pub returns-in-Ok-Broken-clause-outcome : goal.returns-in-Ok-Broken-clause-outcome
returns-in-Ok-Broken-clause-outcome g c = λ m model f st.
    step_cut_off g.N.Exact.value g.N.Exact.limit (round_of f c.requires.run.master c.requires.ended.answer)
    c.in-Ok-Broken.cut (rw c.in-Ok-Broken.field-0-is at (c.in-Ok-Broken.ensures.look m model f st))
    c.boundless_round.result c.boundless_round.ensures.round c.or_stop.result c.or_stop.ensures.answer

pub returns-in-Ok-Broken-look_at_plan-clause-outcome : goal.returns-in-Ok-Broken-look_at_plan-clause-outcome
returns-in-Ok-Broken-look_at_plan-clause-outcome g c = λ m model f st.
    point_cut_off g.N.Exact.value g.N.Exact.limit (round_of f c.requires.run.master c.requires.ended.answer) model
    c.in-Ok-Kept.step c.in-Ok-Kept.held (rw c.in-Ok-Kept.field-0-is at (c.in-Ok-Kept.ensures.look m model f st))
    c.in-Ok-Broken-look_at_plan.cut
    (rw c.in-Ok-Broken-look_at_plan.field-0-is at (c.in-Ok-Broken-look_at_plan.ensures.look m model f st))
    c.boundless_round-in-Ok-Broken-look_at_plan.result c.boundless_round-in-Ok-Broken-look_at_plan.ensures.round
    c.or_stop-in-Ok-Broken-look_at_plan.result c.or_stop-in-Ok-Broken-look_at_plan.ensures.answer

pub returns-in-Err-clause-outcome : goal.returns-in-Err-clause-outcome
returns-in-Err-clause-outcome g c = λ m model f st.
    step_stopped (round_of f c.requires.run.master c.requires.ended.answer) g.N.Exact.limit c.in-Err.stop
    (c.in-Err.ensures.look m model f st)

pub returns-in-Err-look_at_plan-clause-outcome : goal.returns-in-Err-look_at_plan-clause-outcome
returns-in-Err-look_at_plan-clause-outcome g c = λ m model f st.
    plan_stopped g.N.Exact.value g.N.Exact.limit (round_of f c.requires.run.master c.requires.ended.answer) model
    c.in-Ok-Kept.step c.in-Ok-Kept.held (rw c.in-Ok-Kept.field-0-is at (c.in-Ok-Kept.ensures.look m model f st))
    c.in-Err-look_at_plan.stop (c.in-Err-look_at_plan.ensures.look m model f st)

pub returns-in-Err-whole_step-clause-outcome : goal.returns-in-Err-whole_step-clause-outcome
returns-in-Err-whole_step-clause-outcome g c = λ m model f st.
    step_refused g.N.Exact.value g.N.Exact.limit (round_of f c.requires.run.master c.requires.ended.answer)
    c.in-Ok-Kept.step c.in-Ok-Kept.held (rw c.in-Ok-Kept.field-0-is at (c.in-Ok-Kept.ensures.look m model f st))
    c.items.ensures.list g.met.N.Exact.limit_low c.in-Err-whole_step.refusal c.in-Err-whole_step.ensures.wide
    c.unclear-stop.result c.unclear-stop.ensures.stop

pub returns-clause-outcome : goal.returns-clause-outcome
returns-clause-outcome g c = λ m model f st.
    unbounded_out g.N.Exact.value g.N.Exact.limit (round_of f c.requires.run.master c.requires.ended.answer) model
    c.in-Ok-Kept.step c.in-Ok-Kept.held (rw c.in-Ok-Kept.field-0-is at (c.in-Ok-Kept.ensures.look m model f st))
    (c.requires.run.tells m model f st) c.requires.ended.few c.in-Ok-Kept-look_at_plan.plan
    c.in-Ok-Kept-look_at_plan.kept
    (rw c.in-Ok-Kept-look_at_plan.field-0-is at (c.in-Ok-Kept-look_at_plan.ensures.look m model f st))
    c.in-Ok.step c.items.ensures.list c.in-Ok.ensures.columns c.in-Ok.ensures.bound _
    (c.in_ok-inside.ensures.scenario m c.args.model.set.now model f st c.look_at_plan.ensures.finder)
    c.unbounded.ensures.certificate

pub returns-in-Err-whole_step-clause-counted : goal.returns-in-Err-whole_step-clause-counted
returns-in-Err-whole_step-clause-counted g c =
    counts_stop (later c.look_at_step.ensures.counted c.look_at_plan.ensures.counted) c.count.ensures.unchanged
    c.unclear-stop.result c.count.ensures.counted
