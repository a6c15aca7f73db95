use Rattle.std.proofs.Common.{[], ◌++◌, arith, ap, refl, ◌∙◌}
use Rattle.rob_cert.specs.Spelling.{name_at}
use Rattle.rob_meaning.proofs.Naming.NameLemmas.{length-form_names}
use Rattle.rob_meaning.specs.Names.{form_names}
use Rattle.rob_model.specs.View.{robust}
use Rattle.rob_report.proofs.PairLemmas.{pairs_more}
use Rattle.rob_report.proofs.TermLemmas.{form_line_same}
use Rattle.rob_report.specs.Rows.{form_column_names, form_line, fronts_of}
use Rattle.rob_report.proofs.rows.put_forms.Goals as goal

pub bounds-matrices-index : goal.bounds-matrices-index
bounds-matrices-index g c =
    omega (
      arith,
      c.loop-index-test.true,
      c.form_count-index-end.ensures.count,
      c.requires.count,
      length-form_names (robust g.N.Exact.value c.args.model.now),
    )

pub put_matrix_line-requires-clause-inside : goal.put_matrix_line-requires-clause-inside
put_matrix_line-requires-clause-inside g c =
    omega (
      arith,
      c.loop-index-test.true,
      c.form_count-index-end.ensures.count,
      length-form_names (robust g.N.Exact.value c.args.model.now),
    )

pub loop-index-preserved : goal.loop-index-preserved
loop-index-preserved g c =
    let m = robust g.N.Exact.value c.args.model.now in
    let matrix = c.index-matrices-index.result in
    pairs_more (form_line (fronts_of m.parameters) (form_column_names m)) (form_names m) c.args.matrices.now
    c.loop-index.index _ [] matrix matrix
    c.loop-index.out c.put_matrix_line.new.out _
    (omega (arith, c.loop-index-test.true, c.form_count-index-end.ensures.count))
    (omega (arith, c.loop-index-test.true, c.form_count-index-end.ensures.count, c.requires.count, length-form_names m))
    refl c.index-matrices-index.is
    (c.in_ok-put_matrix_line.ensures.appended
    ∙ ap (λ t. c.loop-index.out ++ t)
    (form_line_same _ (fronts_of m.parameters) _ (form_column_names m)
    (name_at (form_names m) c.loop-index.index) _ matrix
    c.in_ok-labels.ensures.fronts c.in_ok-labels.ensures.columns c.items.ensures.list))
    c.loop-index.invariant
