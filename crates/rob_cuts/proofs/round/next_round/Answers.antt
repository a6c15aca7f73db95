use Rattle.std.proofs.Common.{◌<◌, ◌^◌, length, ap, ◌∙◌, subst, arith}
use Rattle.rob_model.specs.declared.place.Program.TheVariants as named
use Rattle.rob_dualize.specs.Solving.{CountsAnswer}
use Rattle.rob_dualize.proofs.SolvingLemmas.{wide_counted}
use Rattle.rob_simplex.specs.Solvers.{positions}
use Rattle.rob_cuts.proofs.MasterLemmas.{master_shaped}
use Rattle.rob_cuts.proofs.OutcomeLemmas.{infeasible_out}
use Rattle.rob_cuts.proofs.RoundLemmas.{round_of, ended_so, ends_so, rounds_made, rounds_are_rows, master_refused}
use Rattle.rob_cuts.proofs.RouteLemmas.{route_forms, route_set}
use Rattle.rob_cuts.proofs.SolvingLemmas.{counts_stopped}
use Rattle.rob_cuts.proofs.round.next_round.Goals as goal

pub solve_master-requires : goal.solve_master-requires
solve_master-requires g c = record {
  shaped = master_shaped c.requires.run.master;
  within = c.requires.run.within;
}

pub best-requires : goal.best-requires
best-requires g c = record {
  model = c.requires.model;
  finder = c.requires.finder;
  run = c.requires.run;
  ended = ends_so c.args.run.now.master c.in-Ok.ensures.solved c.in-Optimal.is c.in-Ok.ensures.few;
}

pub boundless-requires : goal.boundless-requires
boundless-requires g c = record {
  model = c.requires.model;
  finder = c.requires.finder;
  run = c.requires.run;
  ended = ends_so c.args.run.now.master c.in-Ok.ensures.solved c.in-Unbounded.is c.in-Ok.ensures.few;
}

pub without_plan-requires : goal.without_plan-requires
without_plan-requires g c =
    let e = c.requires.model.elaborated in
    let ended = ended_so c.args.run.now.master c.in-Ok.ensures.solved c.in-Infeasible.is in
    record {
      few = route_forms c.requires.model;
      finder = (c.args.model.set.now, e, route_set c.requires.model, c.requires.finder);
      weights = ended.answered;
      rows = rounds_are_rows (round_of e.are_forms c.requires.run.master ended);
      few_rows = c.in-Ok.ensures.few;
      fits = c.requires.run.fits;
    }

pub returns-in-Optimal-clause-wides : goal.returns-in-Optimal-clause-wides
returns-in-Optimal-clause-wides g c =
    subst (λ n. CountsAnswer n (g.L.Ledger.wides c.best.new.ledger) c.best.result) c.in-Ok.ensures.counted.wides
    c.best.ensures.wides

pub returns-clause-wides : goal.returns-clause-wides
returns-clause-wides g c =
    subst (λ n. CountsAnswer n (g.L.Ledger.wides c.boundless.new.ledger) c.boundless.result)
    c.in-Ok.ensures.counted.wides c.boundless.ensures.wides

pub returns-in-Infeasible-clause-outcome : goal.returns-in-Infeasible-clause-outcome
returns-in-Infeasible-clause-outcome g c = λ m model f st.
    let ended = ended_so c.args.run.now.master c.in-Ok.ensures.solved c.in-Infeasible.is in
    infeasible_out g.N.Exact.value g.N.Exact.limit (round_of f c.requires.run.master ended) model
    (c.requires.run.tells m model f st) c.in-Ok.ensures.few st c.args.finder.now c.requires.finder
    c.without_plan.result c.without_plan.ensures.end c.or_stop.result c.or_stop.ensures.answer

pub returns-in-Infeasible-clause-wides : goal.returns-in-Infeasible-clause-wides
returns-in-Infeasible-clause-wides g c =
    counts_stopped (g.L.Ledger.wides c.args.ledger.now) (g.L.Ledger.wides c.solve_master.new.ledger)
    c.in-Ok.ensures.counted.wides c.without_plan.result c.or_stop.result c.or_stop.ensures.answer

-- ---- the master is refused
pub overflow_cast-rows : goal.overflow_cast-rows
overflow_cast-rows g c =
    let e = c.requires.model.elaborated in
    let few : positions c.in-Err-Wide.solver < 2 ^ 31 = rw c.in-Err-Wide.field-0-is at c.in-Err-Wide.ensures.few in
    let stopped = rw c.in-Err-Wide.field-0-is at c.in-Err-Wide.ensures.stopped in
    let rows =
    rounds_made e.are_forms c.args.run.now.rounds c.requires.run.master c.in-Err-Wide.solver stopped.0 in
    omega (arith, ap length c.items.ensures.list, rows)

pub wide-requires : goal.wide-requires
wide-requires g c =
    let e = c.requires.model.elaborated in
    let stopped = rw c.in-Err-Wide.field-0-is at c.in-Err-Wide.ensures.stopped in
    record {
      positions = ap length c.items.ensures.list
          ∙ rounds_made e.are_forms c.args.run.now.rounds c.requires.run.master c.in-Err-Wide.solver stopped.0;
    }

pub returns-in-Err-Wide-clause-outcome : goal.returns-in-Err-Wide-clause-outcome
returns-in-Err-Wide-clause-outcome g c = λ m model f st.
    let wide = rw c.in-Err-Wide.field-0-is at c.in-Err-Wide.ensures.stopped in
    let caused = rw c.in-Err-Wide.field-0-is at c.in-Err-Wide.ensures.caused in
    master_refused f c.args.run.now.rounds c.requires.run.master c.in-Err-Wide.solver g.N.Exact.limit
    c.in-Err-Wide.stop c.position.ensures.position wide.0 wide.1 caused c.wide.result c.wide.ensures.stop

pub returns-in-Err-Wide-clause-wides : goal.returns-in-Err-Wide-clause-wides
returns-in-Err-Wide-clause-wides g c =
    wide_counted (g.L.Ledger.wides c.args.ledger.now) (g.L.Ledger.wides c.solve_master.new.ledger)
    c.in-Err-Wide.solver.basis named.Master c.position.result c.wide.result
    (rw c.in-Err-Wide.field-0-is at c.in-Err-Wide.ensures.counted.wides) c.wide.ensures.stop
