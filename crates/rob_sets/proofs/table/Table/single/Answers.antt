use Rattle.std.proofs.Common.{ap, ◌∙◌, subst}
use Rattle.std.proofs.lemmas.Result.{err_from_is_err_and}
use Rattle.rob_algebra.specs.Fraction.{◌+ℚ◌, ◌*ℚ◌}
use Rattle.rob_algebra.specs.FractionLaws.{ℚ-zero-add}
use Rattle.rob_algebra.specs.Width.{IsWide}
use Rattle.rob_algebra.proofs.WidthLaws.{fits_not_wide}
use Rattle.rob_number.specs.Counts.{Rose}
use Rattle.rob_meaning.specs.Coefficients.{single}
use Rattle.rob_sets.specs.Tables.{numbers_of}
use Rattle.rob_sets.proofs.Judging.StopLemmas.{only_memory}
use Rattle.rob_sets.proofs.table.Table.single.Goals as goal

pub returns-clause-number : goal.returns-clause-number
returns-clause-number g c k j =
    let value = g.N.Exact.value in
    c.in_ok-add.ensures.added k j
    ∙ ap (λ u. u +ℚ value c.args.x *ℚ single c.args.cell.row c.args.cell.column k j) (c.new-table.ensures.zero k j)
    ∙ ℚ-zero-add (value c.args.x *ℚ single c.args.cell.row c.args.cell.column k j)

pub returns-in_err-add-clause-memory : goal.returns-in_err-add-clause-memory
returns-in_err-add-clause-memory g c =
    let value = g.N.Exact.value in
    let p = err_from_is_err_and c.from_residual.result c.from_residual.ensures.1 in
    only_memory c.from_residual.result c.in_err-add.field-0.0 p.0 p.1 p.2
    (λ (h : Rose (g.L.Ledger.wides c.args.ledger.now) (g.L.Ledger.wides c.add.new.ledger)
    × IsWide g.N.Exact.limit
    (numbers_of value c.new-table.result c.args.cell.row c.args.cell.column +ℚ value c.args.x)).
    fits_not_wide g.N.Exact.limit (value c.args.x) (g.met.N.Exact.fits c.args.x)
    (subst (IsWide g.N.Exact.limit)
    (ap (λ u. u +ℚ value c.args.x) (c.new-table.ensures.zero c.args.cell.row c.args.cell.column)
    ∙ ℚ-zero-add (value c.args.x)) h.1))
    c.in_err-add.ensures.wide
