use Rattle.std.proofs.Common.{arith, inl}
use Rattle.rob_algebra.specs.Width.{IsWideWhole}
use Rattle.rob_number.specs.Counts.{Rose}
use Rattle.rob_meaning.specs.Clearing.{entries, whole_at}
use Rattle.rob_sets.specs.FirstWide.{Some_of}
use Rattle.rob_sets.specs.Tables.{numbers_of}
use Rattle.rob_sets.proofs.WholeRows.ClearingSteps.{clear_wide}
use Rattle.rob_sets.proofs.Judging.StopLemmas.{stops_also}
use Rattle.rob_elab.specs.Forms.{rows_of}
use Rattle.rob_elab.proofs.RowLemmas.{rows_fit}
use Rattle.rob_elab.proofs.matrix.clear_rows.Goals as goal

pub returns-in-Some-clause-not_wide : goal.returns-in-Some-clause-not_wide
returns-in-Some-clause-not_wide g c =
    rows_fit g.N.Exact.limit (rows_of c.args.rows c.args.columns (numbers_of g.N.Exact.value c.args.table.now))
    c.in-Some.common c.cleared_rows.result c.in-Some.ensures.least.0 c.in-Some.ensures.least.1
    c.cleared_rows.ensures.cleared c.cleared_rows.ensures.fits

pub returns-in-Some-clause-wide : goal.returns-in-Some-clause-wide
returns-in-Some-clause-wide g c =
    let all = entries (rows_of c.args.rows c.args.columns (numbers_of g.N.Exact.value c.args.table.now)) in
    stops_also c.cleared_rows.result
    (λ (h : Rose (g.L.Ledger.wides c.common_denominator.new.ledger) (g.L.Ledger.wides c.cleared_rows.new.ledger)
    × Some_of (λ q. IsWideWhole g.N.Exact.limit (whole_at c.in-Some.common q)) all). (
      omega (arith, h.0, c.common_denominator.ensures.counted.wides),
      clear_wide g.N.Exact.limit all c.in-Some.common c.in-Some.ensures.least.0 h.1,
    ))
    c.cleared_rows.ensures.wide

pub returns-in-None-clause-wide : goal.returns-in-None-clause-wide
returns-in-None-clause-wide g c = (
  omega (arith, c.common_denominator.ensures.counted.wides, c.wide.ensures.counted),
  inl c.in-None.ensures.least,
)
