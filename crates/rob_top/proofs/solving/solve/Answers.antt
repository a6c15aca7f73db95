use Rattle.std.proofs.Common.{refl}
use Rattle.rob_cert.specs.View.{certificate_of}
use Rattle.rob_dualize.proofs.SizeLemmas.{few_within_limits}
use Rattle.rob_model.specs.View.{robust}
use Rattle.rob_top.proofs.Meaning.RouteLemmas.{rounds_of_found, stop_of}
use Rattle.rob_top.proofs.Meaning.SolvingLemmas.{report_answers, solution_fits, solve_counted, stopped_answers}
use Rattle.rob_words.specs.declared.verb.Verb.TheVariants.{Solve}
use Rattle.rob_top.proofs.solving.solve.Goals as goal

pub find-requires-clause-model : goal.find-requires-clause-model
find-requires-clause-model g c = record {
  elaborated = record {
    model = robust g.N.Exact.value c.args.model.now;
    elaborated = c.requires.elaborated;
  };
  is_model = c.requires.valid.well_formed;
}

pub find-requires-clause-few : goal.find-requires-clause-few
find-requires-clause-few g c =
    few_within_limits (robust g.N.Exact.value c.args.model.now) c.args.elaborated.forms.now
    c.args.elaborated.set.now c.requires.valid.limits c.requires.elaborated.are_forms c.requires.elaborated.is_set

pub reported-requires-clause-shape : goal.reported-requires-clause-shape
reported-requires-clause-shape g c =
    (c.in-Ok.ensures.solves (robust g.N.Exact.value c.args.model.now) c.requires.valid.well_formed
    c.requires.elaborated.are_forms
    c.requires.elaborated.is_set).found.shape

pub reported-requires-clause-rounds : goal.reported-requires-clause-rounds
reported-requires-clause-rounds g c =
    rounds_of_found (robust g.N.Exact.value c.args.model.now) c.args.route _ _
    (c.in-Ok.ensures.solves (robust g.N.Exact.value c.args.model.now) c.requires.valid.well_formed
    c.requires.elaborated.are_forms c.requires.elaborated.is_set).found

pub stopped-requires-clause-named : goal.stopped-requires-clause-named
stopped-requires-clause-named g c =
    stop_of (robust g.N.Exact.value c.args.model.now) c.args.route g.N.Exact.limit c.in-Err.stop
    (c.in-Err.ensures.solves (robust g.N.Exact.value c.args.model.now) c.requires.valid.well_formed
    c.requires.elaborated.are_forms c.requires.elaborated.is_set).stopped

pub returns-in-Ok-clause-answers : goal.returns-in-Ok-clause-answers
returns-in-Ok-clause-answers g c =
    report_answers g.N.Exact.limit (robust g.N.Exact.value c.args.model.now) c.requires.valid.well_formed c.args.route
    (certificate_of g.N.Exact.value c.in-Ok.cert) _
    (c.in-Ok.ensures.solves (robust g.N.Exact.value c.args.model.now) c.requires.valid.well_formed
    c.requires.elaborated.are_forms c.requires.elaborated.is_set).found
    (solution_fits g.N.Exact.value g.N.Exact.limit g.met.N.Exact.fits
    (robust g.N.Exact.value c.args.model.now) c.in-Ok.cert)
    (c.in-Ok.ensures.solves (robust g.N.Exact.value c.args.model.now) c.requires.valid.well_formed
    c.requires.elaborated.are_forms
    c.requires.elaborated.is_set).fits _ c.reported.result
    c.reported.ensures.report

pub returns-in-Ok-clause-counted : goal.returns-in-Ok-clause-counted
returns-in-Ok-clause-counted g c =
    solve_counted c.args.route g.N.Exact.value g.N.Exact.limit (robust g.N.Exact.value c.args.model.now) _ _ _
    (c.find.ensures.solves (robust g.N.Exact.value c.args.model.now) c.requires.valid.well_formed
    c.requires.elaborated.are_forms c.requires.elaborated.is_set)

pub returns-in-Err-clause-answers : goal.returns-in-Err-clause-answers
returns-in-Err-clause-answers g c =
    let solved =
    c.in-Err.ensures.solves (robust g.N.Exact.value c.args.model.now) c.requires.valid.well_formed
    c.requires.elaborated.are_forms c.requires.elaborated.is_set in
    stopped_answers g.N.Exact.limit (robust g.N.Exact.value c.args.model.now) (g.L.Ledger.wides c.args.ledger.now)
    (g.L.Ledger.wides c.find.new.ledger) Solve
    c.args.route c.in-Err.stop c.stopped.result refl solved.stopped solved.fits solved.counted c.stopped.ensures.stop

pub returns-in-Err-clause-counted : goal.returns-in-Err-clause-counted
returns-in-Err-clause-counted g c =
    solve_counted c.args.route g.N.Exact.value g.N.Exact.limit (robust g.N.Exact.value c.args.model.now) _ _ _
    (c.find.ensures.solves (robust g.N.Exact.value c.args.model.now) c.requires.valid.well_formed
    c.requires.elaborated.are_forms c.requires.elaborated.is_set)
