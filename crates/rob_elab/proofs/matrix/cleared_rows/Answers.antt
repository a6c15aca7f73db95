use Rattle.std.proofs.Common.{arith, ap, sym, ◌∙◌, subst}
use Rattle.std.proofs.lemmas.Result.{err_from_is_err_and}
use Rattle.std.specs.Prelude.{◌≡◌, ◌≤◌, List, ℤ, map, nat_abs}
use Rattle.rob_algebra.specs.Fraction.{Fraction}
use Rattle.rob_algebra.specs.Width.{IsWideWhole}
use Rattle.rob_number.specs.Counts.{Rose}
use Rattle.rob_meaning.specs.Clearing.{whole_at}
use Rattle.rob_meaning.specs.Places.{Each, tabulate}
use Rattle.rob_meaning.proofs.Lists.EachLemmas.{each_push}
use Rattle.rob_sets.specs.FirstWide.{Some_of}
use Rattle.rob_sets.specs.Tables.{numbers_of}
use Rattle.rob_number.proofs.CountLemmas.{later}
use Rattle.rob_sets.proofs.Judging.StopLemmas.{stops_more}
use Rattle.rob_elab.specs.Forms.{MatrixFits, rows_of}
use Rattle.rob_elab.proofs.RowLemmas.{mapped_more, some_row}
use Rattle.rob_elab.proofs.matrix.cleared_rows.Goals as goal

pub returns-in_err-numbers-clause-wide : goal.returns-in_err-numbers-clause-wide
returns-in_err-numbers-clause-wide g c =
    let f = numbers_of g.N.Exact.value c.args.table.now in
    let Q = λ (q : Fraction). IsWideWhole g.N.Exact.limit (whole_at c.args.common q) in
    let p = err_from_is_err_and c.from_residual.result c.from_residual.ensures.1 in
    stops_more c.from_residual.result c.in_err-numbers.field-0.0 p.0 p.1 p.2
    (λ (h : Rose (g.L.Ledger.wides c.loop-row.ledger) (g.L.Ledger.wides c.cleared_row.new.ledger)
    × Some_of Q (tabulate c.args.columns (f c.loop-row.row))). (
      omega (arith, c.loop-row.invariant.counted.wides, h.0),
      some_row Q c.args.rows (λ k. tabulate c.args.columns (f k)) c.loop-row.row c.loop-row-test.true h.1,
    ))
    c.in_err-numbers.ensures.wide

pub loop-row-preserved : goal.loop-row-preserved
loop-row-preserved g c =
    let f = numbers_of g.N.Exact.value c.args.table.now in
    record {
      cleared = mapped_more (map (whole_at c.args.common)) c.loop-row.matrix c.push.new.self c.in_ok-numbers.numbers
          c.loop-row.row (λ k. tabulate c.args.columns (f k)) c.loop-row.invariant.cleared
          c.in_ok-push.ensures.appended c.in_ok-numbers.ensures.cleared;
      fits = subst (MatrixFits g.N.Exact.limit) (sym c.in_ok-push.ensures.appended)
          (each_push (λ (row : List ℤ). Each (λ a. nat_abs a ≤ g.N.Exact.limit) row) c.loop-row.matrix
          c.in_ok-numbers.numbers c.loop-row.invariant.fits c.in_ok-numbers.ensures.fits);
      counted = later c.loop-row.invariant.counted c.cleared_row.ensures.counted;
    }

pub returns-clause-cleared : goal.returns-clause-cleared
returns-clause-cleared g c =
    let all : c.loop-row.row ≡ c.args.rows = omega (arith, c.loop-row-test.false, c.loop-row.auto.row-end) in
    c.loop-row.invariant.cleared
    ∙ ap (λ n. map (map (whole_at c.args.common))
    (rows_of n c.args.columns (numbers_of g.N.Exact.value c.args.table.now))) all
