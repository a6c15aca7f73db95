use Rattle.std.proofs.Common.{ℕ, ◌≡◌, ◌∙◌, sym, ap, subst}
use Rattle.std.proofs.lemmas.Result.{err_from_is_err_and}
use Rattle.std.specs.Prelude.{IfOk}
use Rattle.rob_meaning.specs.Certificates.{Certificate}
use Rattle.rob_counterpart.specs.Counterpart.{counterpart, robust_of}
use Rattle.rob_model.specs.View.{scenario_of}
use Rattle.rob_model.specs.declared.place.Program.TheVariants as named
use Rattle.rob_number.specs.Counts.{raised}
use Rattle.rob_cert.specs.View.{certificate_of}
use Rattle.rob_solver.specs.Solving.{CountsStopped}
use Rattle.rob_dualize.specs.Ending.{HasEnded, IsStoppedAt, IsStoppedAs, StopsAt, position_of, read_from}
use Rattle.rob_dualize.specs.Refusals.{IsRefusedAt}
use Rattle.rob_dualize.specs.Wholes.{counterpart_of}
use Rattle.rob_dualize.proofs.EndingLemmas.{solution}
use Rattle.rob_dualize.proofs.MakingLemmas.{has_ended, counterpart_ended, counterpart_few, counterpart_refused, read_same}
use Rattle.rob_dualize.proofs.SetLemmas.{set_cause}
use Rattle.rob_dualize.proofs.SolvingLemmas.{stopped_with, answered, wide_in_counterpart, wide_counted}
use Rattle.rob_dualize.proofs.route.solve_dual.Goals as goal

pub scenario-requires : goal.scenario-requires
scenario-requires g c = record { model = record { elaborated = c.requires.model; few = c.requires.few } }

pub solve_counterpart-requires : goal.solve_counterpart-requires
solve_counterpart-requires g c = record { model = record { elaborated = c.requires.model; few = c.requires.few } }

pub certificate-requires-clause-model : goal.certificate-requires-clause-model
certificate-requires-clause-model g c = record { elaborated = c.requires.model; few = c.requires.few }

pub returns-in_err-inside-clause-solves : goal.returns-in_err-inside-clause-solves
returns-in_err-inside-clause-solves g c =
    let p = err_from_is_err_and c.from_residual.result c.from_residual.ensures.1 in
    rw (p.1, p.2) (λ m model f st.
    let found = c.in_err-inside.ensures.found m model f st in
    stopped_with g.N.Exact.value g.N.Exact.limit m (g.L.Ledger.wides c.args.ledger.now)
    (g.L.Ledger.wides c.scenario.new.ledger) c.in_err-inside.field-0.0
    (set_cause g.N.Exact.limit m c.in_err-inside.field-0.0 found.stopped) found.counted)

pub returns-in-Ok-clause-solves : goal.returns-in-Ok-clause-solves
returns-in-Ok-clause-solves g c = λ m model f st.
    let value = g.N.Exact.value in
    let s = c.in-Ok.field-0.solver in
    let kind = c.in-Ok.field-0.kind in
    let inside = scenario_of g.N.Exact.value c.in_ok-inside.inside in
    let found = (c.in_ok-inside.ensures.found m model f st).found in
    let ended : HasEnded (counterpart_of c.args.forms.now c.args.set.now) kind s =
    has_ended g.row.N.Denot (counterpart_of c.args.forms.now c.args.set.now) s kind c.in-Ok.ensures.solved in
    answered value g.N.Exact.limit m (g.L.Ledger.wides c.args.ledger.now)
    (g.L.Ledger.wides c.solve_counterpart.new.ledger)
    (read_from (robust_of m) inside kind s)
    (solution m model (counterpart_few c.args.forms.now c.args.set.now m f st c.requires.few) inside found.0 found.1 s
    kind
    (counterpart_ended c.args.forms.now c.args.set.now m f st kind s ended))
    (c.in-Ok.ensures.counted.wides ∙ (c.in_ok-inside.ensures.found m model f st).counted)
    c.certificate.result
    (subst (λ (q : Certificate). IfOk c.certificate.result (λ cert. certificate_of value cert ≡ q))
    (read_same c.args.forms.now c.args.set.now m f st inside kind s) c.certificate.ensures.certificate)
    c.or_stop.result c.or_stop.ensures.answer

pub returns-in-Err-Wide-clause-solves : goal.returns-in-Err-Wide-clause-solves
returns-in-Err-Wide-clause-solves g c = λ m model f st.
    let found = c.in_ok-inside.ensures.found m model f st in
    let s = c.in-Err-Wide.solver in
    let h : IsStoppedAt g.N.Exact.limit (counterpart_of c.args.forms.now c.args.set.now) s c.in-Err-Wide.stop =
    subst (IsStoppedAs g.N.Exact.limit (counterpart_of c.args.forms.now c.args.set.now)) c.in-Err-Wide.field-0-is
    c.in-Err-Wide.ensures.stopped in
    let position : c.position.result ≡ position_of c.in-Err-Wide.stop =
    rw c.in-Err-Wide.field-0-is at c.position.ensures.position in
    let stopped : StopsAt s.basis named.Reform c.position.result c.wide.result =
    rw c.in-Err-Wide.field-0-is at c.wide.ensures.stop in
    let counted : g.L.Ledger.wides c.solve_counterpart.new.ledger ≡ raised (g.L.Ledger.wides c.scenario.new.ledger) =
    subst (CountsStopped (g.L.Ledger.wides c.scenario.new.ledger) (g.L.Ledger.wides c.solve_counterpart.new.ledger))
    c.in-Err-Wide.field-0-is c.in-Err-Wide.ensures.counted.wides in
    stopped_with g.N.Exact.value g.N.Exact.limit m (g.L.Ledger.wides c.args.ledger.now)
    (g.L.Ledger.wides c.solve_counterpart.new.ledger) c.wide.result
    (wide_in_counterpart g.N.Exact.limit m s.basis c.position.result c.wide.result
    (scenario_of g.N.Exact.value c.in_ok-inside.inside) found.found.0
    (subst (λ (i : ℕ). IsRefusedAt g.N.Exact.limit (counterpart m) s.basis i) (sym position)
    (counterpart_refused c.args.forms.now c.args.set.now m f st g.N.Exact.limit s c.in-Err-Wide.stop h))
    stopped)
    (wide_counted (g.L.Ledger.wides c.args.ledger.now) (g.L.Ledger.wides c.solve_counterpart.new.ledger) s.basis
    named.Reform c.position.result c.wide.result
    (counted ∙ ap raised found.counted) stopped)
