use Rattle.rob_check.proofs.TargetLemmas.{tau_minimise, tau_maximise, inner_target}
use Rattle.rob_check.proofs.columns.target_at.Goals as goal

pub returns-in-Minimise-sense-clause-number : goal.returns-in-Minimise-sense-clause-number
returns-in-Minimise-sense-clause-number g c =
    tau_minimise c.args.sense c.args.columns c.args.column (g.N.Exact.value c.args.value) _ _ c.in-Minimise-sense.is
    c.if-column-columns.true c.one-unit.ensures.value c.neg-in-Minimise-sense.ensures.negation

pub returns-in-Maximise-sense-clause-number : goal.returns-in-Maximise-sense-clause-number
returns-in-Maximise-sense-clause-number g c =
    tau_maximise c.args.sense c.args.columns c.args.column (g.N.Exact.value c.args.value) _ c.in-Maximise-sense.is
    c.if-column-columns.true c.one-unit.ensures.value

pub returns-else-column-columns-clause-number : goal.returns-else-column-columns-clause-number
returns-else-column-columns-clause-number g c =
    inner_target c.args.sense c.args.columns c.args.column (g.N.Exact.value c.args.value) _ c.if-column-eq0.false
    c.if-column-columns.false c.zero.ensures.value
