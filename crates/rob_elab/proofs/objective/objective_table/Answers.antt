use Rattle.std.proofs.Common.{arith, ap, ◌∙◌}
use Rattle.rob_meaning.specs.Forms.{difference, objective_form, tau_column}
use Rattle.rob_meaning.proofs.Naming.NameLemmas.{length-column_names}
use Rattle.rob_model.specs.View.{robust, sense_of}
use Rattle.rob_sets.specs.Subexpressions.{HasWideCoefficient}
use Rattle.rob_sets.specs.Tabulating.{IsWideWithin}
use Rattle.rob_sets.proofs.Expressions.DifferenceLemmas.{difference_tabulates}
use Rattle.rob_sets.proofs.Judging.StopLemmas.{stop_weaker}
use Rattle.rob_sets.proofs.Expressions.TabulatingLemmas.{memory_stops, tabulates_as, tabulates_err}
use Rattle.rob_elab.proofs.ObjectiveLemmas.{in_objective, tau_is}
use Rattle.rob_elab.proofs.objective.objective_table.Goals as goal

pub overflow_add-column : goal.overflow_add-column
overflow_add-column g c =
    let m = robust g.N.Exact.value c.args.model.now in
    omega (arith, c.column_count-column.ensures.count, length-column_names m, c.requires.valid.limits.columns)

pub returns-in_err-goal-clause-table : goal.returns-in_err-goal-clause-table
returns-in_err-goal-clause-table g c =
    let value = g.N.Exact.value in
    let limit = g.N.Exact.limit in
    let m = robust value c.args.model.now in
    let first = g.L.Ledger.wides c.args.ledger.now in
    let last = g.L.Ledger.wides c.coefficients.new.ledger in
    let r = c.from_residual in
    tabulates_err value limit m (objective_form m.sense m.objective (tau_column m)) first last r.result
    c.in_err-goal.field-0.0
    (stop_weaker c.in_err-goal.field-0.0 (λ (w : IsWideWithin limit m m.objective first last).
    (w.0, in_objective (HasWideCoefficient limit m) m.sense m.objective (tau_column m) w.1))
    c.in_err-goal.ensures.table)
    r.ensures.1

pub returns-in_err-tau-clause-table : goal.returns-in_err-tau-clause-table
returns-in_err-tau-clause-table g c =
    let value = g.N.Exact.value in
    let m = robust value c.args.model.now in
    let r = c.from_residual-in_err-tau in
    memory_stops value g.N.Exact.limit m (objective_form m.sense m.objective (tau_column m))
    (g.L.Ledger.wides c.args.ledger.now) (g.L.Ledger.wides c.unit.new.ledger) r.result c.in_err-tau.field-0.0
    c.in_err-tau.ensures.memory r.ensures.1

pub returns-in-Minimise-clause-table : goal.returns-in-Minimise-clause-table
returns-in-Minimise-clause-table g c =
    let value = g.N.Exact.value in
    let limit = g.N.Exact.limit in
    let fits = g.met.N.Exact.fits in
    let one = g.met.N.Exact.limit_low in
    let m = robust value c.args.model.now in
    let tau = tau_column m in
    let first = g.L.Ledger.wides c.args.ledger.now in
    let last = g.L.Ledger.wides c.less.new.ledger in
    let here = tau_is value limit fits one m c.in_ok-tau.tau c.column_count-column.result
    (c.column_count-column.ensures.count ∙ length-column_names m) c.in_ok-tau.ensures.number in
    tabulates_as value limit m (objective_form m.sense m.objective tau) (difference m.objective tau) first last
    c.less.result (ap (λ x. objective_form (sense_of x) m.objective tau) c.in-Minimise.is)
    (difference_tabulates value limit fits one m m.objective tau c.in_ok-goal.goal c.in_ok-tau.tau first
    (g.L.Ledger.wides c.unit.new.ledger) last c.less.result c.in_ok-goal.ensures.table here
    (omega (arith, c.coefficients.ensures.counted.wides, c.unit.ensures.counted.wides)) c.less.ensures.table
    c.less.ensures.wide)

pub returns-in-Maximise-clause-table : goal.returns-in-Maximise-clause-table
returns-in-Maximise-clause-table g c =
    let value = g.N.Exact.value in
    let limit = g.N.Exact.limit in
    let fits = g.met.N.Exact.fits in
    let one = g.met.N.Exact.limit_low in
    let m = robust value c.args.model.now in
    let tau = tau_column m in
    let first = g.L.Ledger.wides c.args.ledger.now in
    let last = g.L.Ledger.wides c.less-in-Maximise.new.ledger in
    let here = tau_is value limit fits one m c.in_ok-tau.tau c.column_count-column.result
    (c.column_count-column.ensures.count ∙ length-column_names m) c.in_ok-tau.ensures.number in
    tabulates_as value limit m (objective_form m.sense m.objective tau) (difference tau m.objective) first last
    c.less-in-Maximise.result (ap (λ x. objective_form (sense_of x) m.objective tau) c.in-Maximise.is)
    (difference_tabulates value limit fits one m tau m.objective c.in_ok-tau.tau c.in_ok-goal.goal first
    (g.L.Ledger.wides c.unit.new.ledger) last c.less-in-Maximise.result here c.in_ok-goal.ensures.table
    (omega (arith, c.coefficients.ensures.counted.wides, c.unit.ensures.counted.wides)) c.less-in-Maximise.ensures.table
    c.less-in-Maximise.ensures.wide)
