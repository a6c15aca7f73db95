use Rattle.std.proofs.lemmas.Result.{err_from_is_err_and}
use Rattle.std.proofs.Common.{arith, ◌∙◌}
use Rattle.rob_check.proofs.CoverLemmas.{row_stops, row_goes_on, row_ends}
use Rattle.rob_check.proofs.covers.row_number.Goals as goal

pub returns-in_err-sum-2-clause-exact : goal.returns-in_err-sum-2-clause-exact
returns-in_err-sum-2-clause-exact g c =
    let value = g.N.Exact.value in
    let p = err_from_is_err_and c.from_residual-in_err-sum-2.result c.from_residual-in_err-sum-2.ensures.1 in
    rw p.1 (row_stops value g.N.Exact.limit (value c.args.covering.now.bound) c.args.covering.now.columns.now
    c.args.row.now c.loop-j.j
    c.index-columns-j.result (value c.loop-j.sum) c.loop-j-test.true c.index-columns-j.is
    (omega (arith, c.requires.entries, c.loop-j-test.true)) c.in_err-sum-2.ensures.exact
    ∙ c.loop-j.invariant.rest)

pub loop-j-preserved : goal.loop-j-preserved
loop-j-preserved g c =
    let value = g.N.Exact.value in
    record {
      rest = row_goes_on value g.N.Exact.limit (value c.args.covering.now.bound) c.args.covering.now.columns.now
          c.args.row.now c.loop-j.j
          c.index-columns-j.result (value c.loop-j.sum) c.loop-j-test.true c.index-columns-j.is
          (omega (arith, c.requires.entries, c.loop-j-test.true))
          (value c.in_ok-sum-2.sum) c.in_ok-sum-2.ensures.exact
          ∙ c.loop-j.invariant.rest;
      counted = record {
        ops = omega (arith, c.loop-j.invariant.counted.ops, c.in_ok-sum-2.ensures.counted.ops);
        wides = omega (arith, c.loop-j.invariant.counted.wides, c.in_ok-sum-2.ensures.counted.told.never_fell);
      };
    }

pub returns-clause-exact : goal.returns-clause-exact
returns-clause-exact g c =
    let value = g.N.Exact.value in
    row_ends value g.N.Exact.limit (value c.args.covering.now.bound) c.args.covering.now.columns.now c.args.row.now
    c.loop-j.j (value c.loop-j.sum) _
    (omega (arith, c.loop-j-test.false, c.loop-j.auto.j-end))
    (omega (arith, c.requires.entries, c.loop-j-test.false, c.loop-j.auto.j-end)) c.add_entry-2.ensures.exact
    ∙ c.loop-j.invariant.rest
