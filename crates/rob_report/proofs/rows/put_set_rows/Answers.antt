use Rattle.std.proofs.Common.{[], ◌++◌, arith, ap, refl, ◌∙◌}
use Rattle.rob_cert.specs.Spelling.{name_at}
use Rattle.rob_meaning.proofs.Naming.NameLemmas.{length-set_row_names}
use Rattle.rob_meaning.specs.Names.{set_column_names, set_row_names}
use Rattle.rob_model.specs.View.{robust}
use Rattle.rob_report.proofs.PairLemmas.{pairs_more}
use Rattle.rob_report.specs.Rows.{set_row_line}
use Rattle.rob_report.proofs.rows.put_set_rows.Goals as goal

pub bounds-rows-index : goal.bounds-rows-index
bounds-rows-index g c =
    omega (
      arith,
      c.loop-index-test.true,
      c.set_row_count-index-end.ensures.count,
      c.requires.count,
      length-set_row_names (robust g.N.Exact.value c.args.model.now),
    )

pub put_row-requires-clause-inside : goal.put_row-requires-clause-inside
put_row-requires-clause-inside g c =
    omega (
      arith,
      c.loop-index-test.true,
      c.set_row_count-index-end.ensures.count,
      length-set_row_names (robust g.N.Exact.value c.args.model.now),
    )

pub loop-index-preserved : goal.loop-index-preserved
loop-index-preserved g c =
    let m = robust g.N.Exact.value c.args.model.now in
    let row = c.index-rows-index.result in
    pairs_more (set_row_line (set_column_names m)) (set_row_names m) c.args.rows.now c.loop-index.index _ [] row row
    c.loop-index.out c.put_row.new.out _
    (omega (arith, c.loop-index-test.true, c.set_row_count-index-end.ensures.count))
    (omega (
      arith,
      c.loop-index-test.true,
      c.set_row_count-index-end.ensures.count,
      c.requires.count,
      length-set_row_names m,
    ))
    refl c.index-rows-index.is
    (c.in_ok-put_row.ensures.appended
    ∙ ap (λ columns. c.loop-index.out ++ set_row_line columns (name_at (set_row_names m) c.loop-index.index) row)
    (c.items.ensures.list ∙ c.in_ok-columns.ensures.list))
    c.loop-index.invariant
