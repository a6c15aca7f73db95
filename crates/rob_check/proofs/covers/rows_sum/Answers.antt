use Rattle.std.proofs.lemmas.Result.{err_from_is_err_and}
use Rattle.std.proofs.Common.{◌≡◌, List, length, get_or, arith, ap, sym, ◌∙◌, subst}
use Rattle.rob_cert.specs.View.{cover_of}
use Rattle.rob_meaning.specs.Certificates.{Cover}
use Rattle.rob_model.proofs.PartLemmas.{each_at_map}
use Rattle.rob_sets.specs.declared.set_form.SetRow.{SetRow}
use Rattle.std.proofs.Common.{◌<◌}
use Rattle.rob_check.proofs.CoverLemmas.{rows_end, rows_go_on, rows_stop}
use Rattle.rob_check.proofs.covers.rows_sum.Goals as goal

pub returns-in_err-sum-clause-exact : goal.returns-in_err-sum-clause-exact
returns-in_err-sum-clause-exact g c =
    let value = g.N.Exact.value in
    let p = err_from_is_err_and c.from_residual.result c.from_residual.ensures.1 in
    rw p.1 (rows_stop value g.N.Exact.limit c.args.set.now c.args.column c.args.mine.now c.loop-cover.cover-index
    c.cover-item.result (value c.loop-cover.sum)
    c.index-items-cover.result c.loop-cover-test.true c.cover-item.is
    (each_at_map (λ (x : Cover). x.set_row < length c.args.set.now.rows) (cover_of value) c.args.mine.now
    c.loop-cover.cover-index c.cover-item.result c.loop-cover-test.true c.cover-item.is
    c.loop-cover.invariant.names).0
    (subst (λ (rows : List SetRow). c.index-items-cover.result
    ≡ get_or rows c.cover-item.result.set_row c.index-items-cover.result)
    c.items.ensures.list c.index-items-cover.is)
    c.in_err-sum.ensures.exact
    ∙ c.loop-cover.invariant.rest)

pub loop-cover-preserved : goal.loop-cover-preserved
loop-cover-preserved g c =
    let value = g.N.Exact.value in
    let names =
    each_at_map (λ (x : Cover). x.set_row < length c.args.set.now.rows) (cover_of value) c.args.mine.now
    c.loop-cover.cover-index c.cover-item.result c.loop-cover-test.true c.cover-item.is
    c.loop-cover.invariant.names in
    record {
      rest = rows_go_on value g.N.Exact.limit c.args.set.now c.args.column c.args.mine.now c.loop-cover.cover-index
          c.cover-item.result (value c.loop-cover.sum)
          c.index-items-cover.result c.loop-cover-test.true c.cover-item.is names.0
          (subst (λ (rows : List SetRow). c.index-items-cover.result
          ≡ get_or rows c.cover-item.result.set_row c.index-items-cover.result)
          c.items.ensures.list c.index-items-cover.is)
          (value c.in_ok-sum.sum) c.in_ok-sum.ensures.exact
          ∙ c.loop-cover.invariant.rest;
      names = names.1;
      counted = record {
        ops = omega (arith, c.loop-cover.invariant.counted.ops, c.in_ok-sum.ensures.counted.ops);
        wides = omega (arith, c.loop-cover.invariant.counted.wides, c.in_ok-sum.ensures.counted.told.never_fell);
      };
    }

pub bounds-items-cover : goal.bounds-items-cover
bounds-items-cover g c =
    subst (λ n. c.cover-item.result.set_row < n) (sym (ap length c.items.ensures.list))
    (each_at_map (λ (x : Cover). x.set_row < length c.args.set.now.rows) (cover_of g.N.Exact.value) c.args.mine.now
    c.loop-cover.cover-index c.cover-item.result c.loop-cover-test.true c.cover-item.is
    c.loop-cover.invariant.names).0

pub returns-clause-exact : goal.returns-clause-exact
returns-clause-exact g c =
    rows_end g.N.Exact.value g.N.Exact.limit _ c.args.mine.now c.loop-cover.cover-index
    (g.N.Exact.value c.loop-cover.sum) (omega (arith, c.loop-cover-test.false)) ∙ c.loop-cover.invariant.rest
