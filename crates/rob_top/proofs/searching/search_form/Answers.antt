use Rattle.rob_model.specs.View.{robust}
use Rattle.rob_top.proofs.Meaning.SearchStops.{found_search, given_size, stop_of_search, stopped_search}
use Rattle.rob_top.proofs.Meaning.SearchingLemmas.{told_scale}
use Rattle.rob_worst.specs.Vectors.{plan_of}
use Rattle.rob_top.proofs.searching.search_form.Goals as goal

pub with_slack-requires-clause-scale : goal.with_slack-requires-clause-scale
with_slack-requires-clause-scale g c =
    let m = robust g.N.Exact.value c.args.model.now in
    told_scale g.N.Exact.limit m g.N.Exact.value c.args.form (plan_of g.N.Exact.value c.args.plan.now) c.in-Ok.worst
    (c.in-Ok.ensures.answer m c.requires.valid.well_formed c.requires.elaborated.are_forms
    c.requires.elaborated.is_set).found.1

pub stopped-requires-clause-named : goal.stopped-requires-clause-named
stopped-requires-clause-named g c =
    let m = robust g.N.Exact.value c.args.model.now in
    stop_of_search g.N.Exact.limit m c.args.form (plan_of g.N.Exact.value c.args.plan.now)
    c.requires.form_in c.in-Err.stop
    (c.in-Err.ensures.answer m c.requires.valid.well_formed c.requires.elaborated.are_forms
    c.requires.elaborated.is_set).stopped

pub returns-in-Ok-clause-answers : goal.returns-in-Ok-clause-answers
returns-in-Ok-clause-answers g c =
    let m = robust g.N.Exact.value c.args.model.now in
    let told = c.in-Ok.ensures.answer m c.requires.valid.well_formed c.requires.elaborated.are_forms
    c.requires.elaborated.is_set in
    found_search g.N.Exact.value g.N.Exact.limit m c.args.form c.args.plan.now g.met.N.Exact.fits
    c.requires.valid.well_formed c.requires.form_in
    (given_size g.N.Exact.value m c.args.plan.now c.requires.size) (g.L.Ledger.wides c.args.ledger.now)
    (g.L.Ledger.wides c.worst.new.ledger)
    (g.L.Ledger.wides c.with_slack.new.ledger) c.in-Ok.worst c.with_slack.result told.counted told.found.1
    c.with_slack.ensures.worst

pub returns-in-Err-clause-answers : goal.returns-in-Err-clause-answers
returns-in-Err-clause-answers g c =
    let m = robust g.N.Exact.value c.args.model.now in
    let told = c.in-Err.ensures.answer m c.requires.valid.well_formed c.requires.elaborated.are_forms
    c.requires.elaborated.is_set in
    stopped_search g.N.Exact.value g.N.Exact.limit m c.args.form c.args.plan.now (g.L.Ledger.wides c.args.ledger.now)
    (g.L.Ledger.wides c.worst.new.ledger) c.in-Err.stop c.stopped.result told.stopped
    told.counted c.stopped.ensures.stop
