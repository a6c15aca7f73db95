use Rattle.std.proofs.Common.{ap, ◌∙◌}
use Rattle.rob_number.proofs.CountLemmas.{later}
use Rattle.rob_dualize.proofs.MakingLemmas.{set_of_few, set_of_one}
use Rattle.rob_cuts.specs.Stops.{stop_after}
use Rattle.rob_cuts.proofs.RouteLemmas.{few_columns, route_sound, state_none, next_of, next_form_in, next_fits, state_more, rounds_left, sum_stops}
use Rattle.rob_cuts.proofs.SolvingLemmas.{set_cause, set_fits, cause_after, fits_after, solution_is, counts_after, counts_stop}
use Rattle.rob_cuts.proofs.route.solve_cuts.Goals as goal

pub new-requires : goal.new-requires
new-requires g c = record {
  model = set_of_one c.args.forms.now c.args.set.now c.requires.model.elaborated;
  few = set_of_few c.args.forms.now c.args.set.now c.requires.model.elaborated c.requires.few;
}

pub returns-in-Err-clause-stopped : goal.returns-in-Err-clause-stopped
returns-in-Err-clause-stopped g c m model f st =
    set_cause g.N.Exact.limit m c.in-Err.stop (c.in-Err.ensures.answer m model st)

pub returns-in-Err-clause-fits : goal.returns-in-Err-clause-fits
returns-in-Err-clause-fits g c = set_fits c.requires.model c.in-Err.stop c.in-Err.ensures.answer

pub rounds-init : goal.rounds-init
rounds-init g c = record {
  state = state_none g.met.N.Exact.limit_low c.in_ok-run.ensures.master c.in_ok-run.ensures.within
      c.in_ok-run.ensures.rounds;
  finder = c.in-Ok.ensures.finder;
  wides = c.in-Ok.ensures.wides;
  counted = c.new.ensures.counted;
}

pub next_round-requires : goal.next_round-requires
next_round-requires g c = record {
  model = record { of_model = c.requires.model; few = c.requires.few };
  finder = c.rounds.invariant.finder;
  run = c.rounds.invariant.state;
}

pub go_on-requires : goal.go_on-requires
go_on-requires g c =
    let r = next_of c.requires.model c.rounds.invariant.state _ c.in-Ok-Cut.field-0-is c.in-Ok-Cut.ensures.outcome in
    record {
      sound = route_sound c.requires.model g.met.N.Exact.limit_high;
      few = few_columns c.args.forms.now c.args.set.now c.requires.model.elaborated c.requires.few;
      form_in = next_form_in r;
      fits = next_fits r;
    }

pub rounds-preserved : goal.rounds-preserved
rounds-preserved g c =
    let r = next_of c.requires.model c.rounds.invariant.state _ c.in-Ok-Cut.field-0-is c.in-Ok-Cut.ensures.outcome in
    let e = c.in_default.ensures in
    record {
      state = state_more r c.go_on.new.run e.added e.within e.rounds;
      finder = c.next_round.ensures.finder;
      wides = c.in-Ok-Cut.ensures.wides ∙ c.rounds.invariant.wides;
      counted = later c.rounds.invariant.counted c.next_round.ensures.counted;
    }

pub rounds-smaller : goal.rounds-smaller
rounds-smaller g c =
    let r = next_of c.requires.model c.rounds.invariant.state _ c.in-Ok-Cut.field-0-is c.in-Ok-Cut.ensures.outcome in
    rounds_left r c.go_on.new.run c.in_default.ensures.added c.in_default.ensures.within c.in_default.ensures.rounds

pub returns-in-Ok-End-clause-solved : goal.returns-in-Ok-End-clause-solved
returns-in-Ok-End-clause-solved g c =
    solution_is c.rounds.invariant.state g.N.Exact.value c.in-Ok-End.field-0-is c.in-Ok-End.ensures.outcome

pub returns-in-Ok-End-clause-fits : goal.returns-in-Ok-End-clause-fits
returns-in-Ok-End-clause-fits g c = c.rounds.invariant.state.fits

pub returns-in-Ok-End-clause-wides : goal.returns-in-Ok-End-clause-wides
returns-in-Ok-End-clause-wides g c = c.in-Ok-End.ensures.wides ∙ c.rounds.invariant.wides

-- ---- a stop, with the rounds before it
pub returns-in-Err-go_on : goal.returns-in-Err-go_on
returns-in-Err-go_on g c =
    let r = next_of c.requires.model c.rounds.invariant.state _ c.in-Ok-Cut.field-0-is c.in-Ok-Cut.ensures.outcome in
    let is = c.after.ensures.stop ∙ ap (stop_after c.in-Err-go_on.stop) c.in-Err-go_on.ensures.rounds in
    record {
      solved = tt;
      stopped = cause_after c.rounds.invariant.state c.in-Err-go_on.stop is c.in-Ok.ensures.answer
          (sum_stops r c.in-Err-go_on.stop c.in-Err-go_on.ensures.stopped);
      fits = fits_after c.rounds.invariant.state c.in-Err-go_on.stop is;
      wides = counts_after c.rounds.invariant.state c.in-Err-go_on.stop is
          (c.in-Ok-Cut.ensures.wides ∙ c.rounds.invariant.wides) _ c.count.ensures.counted;
      counted = counts_stop (later c.rounds.invariant.counted c.next_round.ensures.counted) c.count.ensures.unchanged
          c.in-Err-go_on.stop c.count.ensures.counted;
    }

pub returns-in-Err-next_round : goal.returns-in-Err-next_round
returns-in-Err-next_round g c =
    let is = c.after-in-Err-next_round.ensures.stop in
    let why = c.in-Err-next_round.stop in
    record {
      solved = tt;
      stopped = cause_after c.rounds.invariant.state why is c.in-Ok.ensures.answer c.in-Err-next_round.ensures.outcome;
      fits = fits_after c.rounds.invariant.state why is;
      wides = counts_after c.rounds.invariant.state why is c.rounds.invariant.wides _ c.in-Err-next_round.ensures.wides;
      counted = later c.rounds.invariant.counted c.next_round.ensures.counted;
    }
