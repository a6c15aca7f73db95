use Rattle.std.proofs.Common.{arith, ap, get_or, refl, rules, [], ◌++◌, ◌∙◌, SFits, w64}
use Rattle.std.specs.Prelude.{pos}
use Rattle.std.proofs.lemmas.Int.{to_z-of_z}
use Rattle.rob_cert.specs.Spelling.{name_at}
use Rattle.rob_meaning.proofs.Naming.NameLemmas.{length-set_row_names}
use Rattle.rob_meaning.specs.Names.{set_row_names}
use Rattle.rob_model.specs.View.{robust}
use Rattle.rob_report.proofs.PairLemmas.{pairs_more}
use Rattle.rob_report.specs.Spots.{weight_line}
use Rattle.rob_report.proofs.empty_set.put_weights.Goals as goal

pub bounds-weights-index : goal.bounds-weights-index
bounds-weights-index g c =
    omega (
      arith,
      c.loop-index-test.true,
      c.set_row_count-index-end.ensures.count,
      c.requires.count,
      length-set_row_names (robust g.N.Exact.value c.args.model.now),
    )

pub put_weight-requires-clause-inside : goal.put_weight-requires-clause-inside
put_weight-requires-clause-inside g c =
    omega (
      arith,
      c.loop-index-test.true,
      c.set_row_count-index-end.ensures.count,
      length-set_row_names (robust g.N.Exact.value c.args.model.now),
    )

pub loop-index-preserved : goal.loop-index-preserved
loop-index-preserved g c =
    let m = robust g.N.Exact.value c.args.model.now in
    let weight = get_or c.args.weights.now c.loop-index.index (pos 0) in
    let fits : SFits w64 weight = search rules in
    pairs_more weight_line (set_row_names m) c.args.weights.now c.loop-index.index _ [] weight (pos 0)
    c.loop-index.out c.put_weight.new.out _
    (omega (arith, c.loop-index-test.true, c.set_row_count-index-end.ensures.count))
    (omega (
      arith,
      c.loop-index-test.true,
      c.set_row_count-index-end.ensures.count,
      c.requires.count,
      length-set_row_names m,
    ))
    refl refl
    (c.in_ok-put_weight.ensures.appended
    ∙ ap (λ z. c.loop-index.out ++ weight_line (name_at (set_row_names m) c.loop-index.index) z)
    (to_z-of_z w64 weight fits))
    c.loop-index.invariant
