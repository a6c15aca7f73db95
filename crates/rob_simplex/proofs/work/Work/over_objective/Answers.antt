use Rattle.std.proofs.Common.{arith}
use Rattle.rob_simplex.proofs.work.Work.over_objective.Goals as goal

pub entry-requires-clause-row_in : goal.entry-requires-clause-row_in
entry-requires-clause-row_in g c = omega (arith, c.positions-m.ensures.positions)

pub entry-requires-2-clause-row_in : goal.entry-requires-2-clause-row_in
entry-requires-2-clause-row_in g c = omega (arith, c.positions-m.ensures.positions)

pub entry-requires-2-clause-column_in : goal.entry-requires-2-clause-column_in
entry-requires-2-clause-column_in g c = omega (arith, c.columns.ensures.columns, c.positions-m.ensures.positions)

pub overflow_add-own : goal.overflow_add-own
overflow_add-own g c = omega (arith, c.columns.ensures.few, c.positions-m.ensures.positions)

pub overflow_add-own-2 : goal.overflow_add-own-2
overflow_add-own-2 g c = omega (arith, c.columns.ensures.few, c.positions-m.ensures.positions)

pub quotient-requires-clause-numerator : goal.quotient-requires-clause-numerator
quotient-requires-clause-numerator g c = c.entry.ensures.top

pub quotient-requires-clause-denominator : goal.quotient-requires-clause-denominator
quotient-requires-clause-denominator g c = c.entry-2.ensures.top
