use Rattle.rob_cuts.proofs.OutcomeLemmas.{best_cut_off, optimum_out}
use Rattle.rob_cuts.proofs.RoundLemmas.{round_of, rounds_are_rows, columns_are_pairs, best_one, best_stopped}
use Rattle.rob_cuts.proofs.RouteLemmas.{route_forms, route_set}
use Rattle.rob_cuts.proofs.SolvingLemmas.{counts_stopped}
use Rattle.rob_cuts.proofs.round.best.Goals as goal

pub look_at_plan-requires : goal.look_at_plan-requires
look_at_plan-requires g c =
    let r = round_of c.requires.model.elaborated.are_forms c.requires.run.master c.requires.ended.answer in
    record {
      model = c.requires.model;
      finder = c.requires.finder;
      point = c.requires.ended.answer.answered.1;
      pairs = record { count = columns_are_pairs r; one = best_one r };
    }

pub best_round-requires : goal.best_round-requires
best_round-requires g c =
    let e = c.requires.model.elaborated in
    let look = c.in-Ok-Broken.ensures.look e.model c.requires.model.is_model e.are_forms e.is_set in
    let told = rw c.in-Ok-Broken.field-0-is at look in
    record {
      rows = rounds_are_rows (round_of e.are_forms c.requires.run.master c.requires.ended.answer);
      few = c.requires.ended.few;
      within = told.1.base;
    }

pub optimum-requires : goal.optimum-requires
optimum-requires g c =
    let e = c.requires.model.elaborated in
    record {
      few = route_forms c.requires.model;
      finder = (c.args.model.set.now, e, route_set c.requires.model, c.look_at_plan.ensures.finder);
      optimum = c.requires.ended.answer.answered.0;
      rows = rounds_are_rows (round_of e.are_forms c.requires.run.master c.requires.ended.answer);
      few_rows = c.requires.ended.few;
      fits = c.requires.run.fits;
    }

pub returns-in-Ok-Broken-clause-outcome : goal.returns-in-Ok-Broken-clause-outcome
returns-in-Ok-Broken-clause-outcome g c = λ m model f st.
    best_cut_off g.N.Exact.value g.N.Exact.limit (round_of f c.requires.run.master c.requires.ended.answer)
    c.in-Ok-Broken.cut (rw c.in-Ok-Broken.field-0-is at (c.in-Ok-Broken.ensures.look m model f st))
    c.best_round.result c.best_round.ensures.round c.or_stop.result c.or_stop.ensures.answer

pub returns-in-Ok-Broken-clause-wides : goal.returns-in-Ok-Broken-clause-wides
returns-in-Ok-Broken-clause-wides g c =
    counts_stopped (g.L.Ledger.wides c.args.ledger.now) (g.L.Ledger.wides c.look_at_plan.new.ledger)
    c.in-Ok-Broken.ensures.wides c.best_round.result c.or_stop.result c.or_stop.ensures.answer

pub returns-in-Ok-Kept-clause-outcome : goal.returns-in-Ok-Kept-clause-outcome
returns-in-Ok-Kept-clause-outcome g c = λ m model f st.
    optimum_out g.N.Exact.value g.N.Exact.limit (round_of f c.requires.run.master c.requires.ended.answer) model
    (c.requires.run.tells m model f st) c.requires.ended.few st c.look_at_plan.new.finder
    c.look_at_plan.ensures.finder c.in-Ok-Kept.plan c.in-Ok-Kept.kept
    (rw c.in-Ok-Kept.field-0-is at (c.in-Ok-Kept.ensures.look m model f st))
    c.optimum.result c.optimum.ensures.end c.or_stop-in-Ok-Kept.result c.or_stop-in-Ok-Kept.ensures.answer

pub returns-in-Ok-Kept-clause-wides : goal.returns-in-Ok-Kept-clause-wides
returns-in-Ok-Kept-clause-wides g c =
    counts_stopped (g.L.Ledger.wides c.args.ledger.now) (g.L.Ledger.wides c.look_at_plan.new.ledger)
    c.in-Ok-Kept.ensures.wides c.optimum.result c.or_stop-in-Ok-Kept.result c.or_stop-in-Ok-Kept.ensures.answer

pub returns-in-Err-clause-outcome : goal.returns-in-Err-clause-outcome
returns-in-Err-clause-outcome g c = λ m model f st.
    best_stopped (round_of f c.requires.run.master c.requires.ended.answer) g.N.Exact.limit c.in-Err.stop
    (c.in-Err.ensures.look m model f st)
