use Rattle.rob_cert.specs.View.{certificate_of}
use Rattle.rob_cert.specs.declared.ending.Stop.TheVariants as stop
use Rattle.rob_model.specs.View.{robust}
use Rattle.rob_top.proofs.Meaning.ComparedLemmas.{found_tells, wide_tells}
use Rattle.rob_top.proofs.Meaning.ComparedWorkLemmas.{never_empty, rose_counts, stop_cause, stop_counts, stop_fits}
use Rattle.rob_top.proofs.Meaning.RouteLemmas.{stop_of}
use Rattle.rob_top.proofs.Meaning.SolvingLemmas.{solution_fits, solve_counted}
use Rattle.rob_top.proofs.comparing.line_by.Goals as goal
use Rattle.rob_top.specs.declared.comparing.RouteLine.{RouteLine}

pub find-requires-clause-model : goal.find-requires-clause-model
find-requires-clause-model g c = record {
  elaborated = record {
    model = robust g.N.Exact.value c.args.model.now;
    elaborated = c.requires.elaborated;
  };
  is_model = c.requires.valid.well_formed;
}

pub returns-in-Ok-clause-told : goal.returns-in-Ok-clause-told
returns-in-Ok-clause-told g c =
    found_tells g.N.Exact.limit (robust g.N.Exact.value c.args.model.now) c.args.route
    (certificate_of g.N.Exact.value c.in-Ok.cert) _ (λ (told : RouteLine). told.spot) (λ (told : RouteLine). told.text)
    c.status_line.result c.requires.valid.well_formed
    (c.in-Ok.ensures.solves _ c.requires.valid.well_formed c.requires.elaborated.are_forms
    c.requires.elaborated.is_set).found
    (solution_fits g.N.Exact.value g.N.Exact.limit g.met.N.Exact.fits
    (robust g.N.Exact.value c.args.model.now) c.in-Ok.cert)
    c.status_line.ensures.line c.status_line.ensures.no_spot

pub returns-in-Ok-clause-counted : goal.returns-in-Ok-clause-counted
returns-in-Ok-clause-counted g c =
    solve_counted c.args.route g.N.Exact.value g.N.Exact.limit (robust g.N.Exact.value c.args.model.now) _ _ _
    (c.find.ensures.solves _ c.requires.valid.well_formed c.requires.elaborated.are_forms c.requires.elaborated.is_set)

pub wide_line-requires-clause-named : goal.wide_line-requires-clause-named
wide_line-requires-clause-named g c =
    (stop_of (robust g.N.Exact.value c.args.model.now) c.args.route g.N.Exact.limit
    (stop.Wide c.in-Err-Wide.spot c.in-Err-Wide.trace)
    (stop_cause g.N.Exact.value g.N.Exact.limit (robust g.N.Exact.value c.args.model.now) c.args.route _ _
    c.find.result c.in-Err-Wide.field-0 _ c.in-Err-Wide.is c.in-Err-Wide.field-0-is
    (c.find.ensures.solves _ c.requires.valid.well_formed c.requires.elaborated.are_forms
    c.requires.elaborated.is_set))).0

pub wide_line-requires-clause-rounds : goal.wide_line-requires-clause-rounds
wide_line-requires-clause-rounds g c =
    (stop_of (robust g.N.Exact.value c.args.model.now) c.args.route g.N.Exact.limit
    (stop.Wide c.in-Err-Wide.spot c.in-Err-Wide.trace)
    (stop_cause g.N.Exact.value g.N.Exact.limit (robust g.N.Exact.value c.args.model.now) c.args.route _ _
    c.find.result c.in-Err-Wide.field-0 _ c.in-Err-Wide.is c.in-Err-Wide.field-0-is
    (c.find.ensures.solves _ c.requires.valid.well_formed c.requires.elaborated.are_forms
    c.requires.elaborated.is_set))).1

pub returns-in-Err-Wide-clause-told : goal.returns-in-Err-Wide-clause-told
returns-in-Err-Wide-clause-told g c =
    wide_tells g.N.Exact.limit (robust g.N.Exact.value c.args.model.now) c.args.route c.in-Err-Wide.spot
    c.in-Err-Wide.trace.rounds (λ (told : RouteLine). told.spot) (λ (told : RouteLine). told.text) c.wide_line.result
    (stop_cause g.N.Exact.value g.N.Exact.limit (robust g.N.Exact.value c.args.model.now) c.args.route _ _
    c.find.result c.in-Err-Wide.field-0 _ c.in-Err-Wide.is c.in-Err-Wide.field-0-is
    (c.find.ensures.solves _ c.requires.valid.well_formed c.requires.elaborated.are_forms c.requires.elaborated.is_set))
    (stop_fits g.N.Exact.value g.N.Exact.limit (robust g.N.Exact.value c.args.model.now) c.args.route _ _
    c.find.result c.in-Err-Wide.field-0 _ c.in-Err-Wide.is c.in-Err-Wide.field-0-is
    (c.find.ensures.solves _ c.requires.valid.well_formed c.requires.elaborated.are_forms c.requires.elaborated.is_set))
    c.wide_line.ensures.line c.wide_line.ensures.spot

pub returns-in-Err-Wide-clause-rose : goal.returns-in-Err-Wide-clause-rose
returns-in-Err-Wide-clause-rose g c =
    rose_counts (g.L.Ledger.wides c.args.ledger.now) (g.L.Ledger.wides c.find.new.ledger) c.in-Err-Wide.spot
    c.in-Err-Wide.trace (λ (told : RouteLine). told.spot) c.wide_line.result
    (stop_counts g.N.Exact.value g.N.Exact.limit (robust g.N.Exact.value c.args.model.now) c.args.route _ _
    c.find.result c.in-Err-Wide.field-0 _ c.in-Err-Wide.is c.in-Err-Wide.field-0-is
    (c.find.ensures.solves _ c.requires.valid.well_formed c.requires.elaborated.are_forms c.requires.elaborated.is_set))
    c.wide_line.ensures.spot

pub returns-in-Err-Wide-clause-counted : goal.returns-in-Err-Wide-clause-counted
returns-in-Err-Wide-clause-counted g c =
    solve_counted c.args.route g.N.Exact.value g.N.Exact.limit (robust g.N.Exact.value c.args.model.now) _ _ _
    (c.find.ensures.solves _ c.requires.valid.well_formed c.requires.elaborated.are_forms c.requires.elaborated.is_set)

pub unreachable-requires : goal.unreachable-requires
unreachable-requires g c =
    never_empty c.args.route g.N.Exact.limit (robust g.N.Exact.value c.args.model.now) _ c.requires.admitted
    (stop_cause g.N.Exact.value g.N.Exact.limit (robust g.N.Exact.value c.args.model.now) c.args.route _ _
    c.find.result c.in-Err-EmptySet.field-0 _ c.in-Err-EmptySet.is c.in-Err-EmptySet.field-0-is
    (c.find.ensures.solves _ c.requires.valid.well_formed c.requires.elaborated.are_forms c.requires.elaborated.is_set))

pub returns-clause-counted : goal.returns-clause-counted
returns-clause-counted g c =
    solve_counted c.args.route g.N.Exact.value g.N.Exact.limit (robust g.N.Exact.value c.args.model.now) _ _ _
    (c.find.ensures.solves _ c.requires.valid.well_formed c.requires.elaborated.are_forms c.requires.elaborated.is_set)
