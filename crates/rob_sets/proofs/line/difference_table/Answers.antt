use Rattle.std.proofs.Common.{arith}
use Rattle.std.specs.Prelude.{◌∷◌, ◌++◌, []}
use Rattle.rob_meaning.specs.Forms.{difference}
use Rattle.rob_model.specs.View.{robust, expression_of}
use Rattle.rob_sets.specs.Subexpressions.{subexpressions}
use Rattle.rob_sets.proofs.Expressions.DifferenceLemmas.{alone, difference_tabulates, left_done}
use Rattle.rob_sets.proofs.Judging.JudgingLemmas.{judging_begins}
use Rattle.rob_sets.proofs.Cells.PartedLemmas.{parted}
use Rattle.rob_sets.proofs.Expressions.TabulatingLemmas.{part_stops}
use Rattle.rob_sets.proofs.line.difference_table.Goals as goal

pub returns-in_err-table-clause-table : goal.returns-in_err-table-clause-table
returns-in_err-table-clause-table g c =
    let value = g.N.Exact.value in
    let l = expression_of value c.args.left.now in
    let r = expression_of value c.args.right.now in
    let first = g.L.Ledger.wides c.args.ledger.now in
    part_stops value g.N.Exact.limit (robust value c.args.model.now) (difference l r) first first
    (g.L.Ledger.wides c.coefficients.new.ledger) c.from_residual.result c.in_err-table.field-0.0
    (judging_begins (subexpressions (difference l r)))
    (parted (subexpressions l) (alone l ∷ (subexpressions r ++ (difference l r ∷ [])))) (omega arith)
    c.in_err-table.ensures.table c.from_residual.ensures.1

pub returns-in_err-subtracted-clause-table : goal.returns-in_err-subtracted-clause-table
returns-in_err-subtracted-clause-table g c =
    let value = g.N.Exact.value in
    let limit = g.N.Exact.limit in
    let m = robust value c.args.model.now in
    let l = expression_of value c.args.left.now in
    let r = expression_of value c.args.right.now in
    let residual = c.from_residual-in_err-subtracted in
    part_stops value limit m (difference l r) (g.L.Ledger.wides c.args.ledger.now)
    (g.L.Ledger.wides c.coefficients.new.ledger) (g.L.Ledger.wides c.coefficients-2.new.ledger) residual.result
    c.in_err-subtracted.field-0.0
    (left_done value limit g.met.N.Exact.fits g.met.N.Exact.limit_low m l r c.in_ok-table.table
    c.in_ok-table.ensures.table)
    (parted (subexpressions r) (difference l r ∷ [])) c.coefficients.ensures.counted.wides
    c.in_err-subtracted.ensures.table residual.ensures.1

pub returns-clause-table : goal.returns-clause-table
returns-clause-table g c =
    let value = g.N.Exact.value in
    difference_tabulates value g.N.Exact.limit g.met.N.Exact.fits g.met.N.Exact.limit_low
    (robust value c.args.model.now) (expression_of value c.args.left.now) (expression_of value c.args.right.now)
    c.in_ok-table.table c.in_ok-subtracted.subtracted (g.L.Ledger.wides c.args.ledger.now)
    (g.L.Ledger.wides c.coefficients-2.new.ledger) (g.L.Ledger.wides c.less.new.ledger) c.less.result
    c.in_ok-table.ensures.table c.in_ok-subtracted.ensures.table
    (omega (arith, c.coefficients.ensures.counted.wides, c.coefficients-2.ensures.counted.wides)) c.less.ensures.table
    c.less.ensures.wide
