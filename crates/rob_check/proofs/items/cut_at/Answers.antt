use Rattle.std.proofs.lemmas.Result.{err_from_is_err_and}
use Rattle.std.proofs.Common.{◌∙◌, ◌+◌, arith}
use Rattle.rob_number.proofs.CountLemmas.{later}
use Rattle.rob_check.proofs.SumLemmas.{base_goes, base_stops, cut_ends, cut_goes, cut_stops, never_told, refused_later, row_fits, sum_counted}
use Rattle.rob_check.proofs.items.cut_at.Goals as goal

pub bounds-form-0 : goal.bounds-form-0
bounds-form-0 g c = omega (arith, c.requires.rows)

pub bounds-form-k : goal.bounds-form-k
bounds-form-k g c = omega (arith, c.requires.rows, c.loop-k-test.true)

pub add_entry-requires : goal.add_entry-requires
add_entry-requires g c = record {
  fits = row_fits g.N.Exact.limit c.args.form.now 0 c.index-form-0.result c.items.result.now
      (omega (arith, c.requires.rows)) c.index-form-0.is c.items.ensures.list c.requires.fits;
}

pub add_entry-requires-in-loop-k : goal.add_entry-requires-in-loop-k
add_entry-requires-in-loop-k g c = record {
  fits = row_fits g.N.Exact.limit c.args.form.now (c.loop-k.k + 1) c.index-form-k.result c.items-in-loop-k.result.now
      (omega (arith, c.requires.rows, c.loop-k-test.true)) c.index-form-k.is c.items-in-loop-k.ensures.list
      c.requires.fits;
}

pub returns-in_err-sum-clause-exact : goal.returns-in_err-sum-clause-exact
returns-in_err-sum-clause-exact g c =
    let p = err_from_is_err_and c.from_residual.result c.from_residual.ensures.1 in
    rw p.1 (base_stops g.N.Exact.value g.N.Exact.limit c.args.column c.args.base c.args.vector.now c.args.form.now
    c.index-form-0.result c.items.result.now (g.N.Exact.value c.zero-nothing.result) c.zero-nothing.ensures.value
    (omega (arith, c.requires.rows)) c.index-form-0.is c.items.ensures.list c.in_err-sum.ensures.exact)

pub returns-in_err-sum-clause-counted : goal.returns-in_err-sum-clause-counted
returns-in_err-sum-clause-counted g c =
    let p = err_from_is_err_and c.from_residual.result c.from_residual.ensures.1 in
    rw p.1 (refused_later c.zero-nothing.ensures.counted c.in_err-sum.ensures.counted)

pub loop-k-init : goal.loop-k-init
loop-k-init g c = record {
  rest = base_goes g.N.Exact.value g.N.Exact.limit c.args.column c.args.base c.args.vector.now c.args.form.now
      c.index-form-0.result c.items.result.now (g.N.Exact.value c.zero-nothing.result) c.zero-nothing.ensures.value
      (omega (arith, c.requires.rows)) c.index-form-0.is c.items.ensures.list (g.N.Exact.value c.in_ok-sum.sum)
      c.in_ok-sum.ensures.exact;
  counted = later c.zero-nothing.ensures.counted (never_told c.in_ok-sum.ensures.counted);
}

pub returns-in_err-sum-2-clause-exact : goal.returns-in_err-sum-2-clause-exact
returns-in_err-sum-2-clause-exact g c =
    let p = err_from_is_err_and c.from_residual-in_err-sum-2.result c.from_residual-in_err-sum-2.ensures.1 in
    rw p.1 (cut_stops g.N.Exact.value g.N.Exact.limit c.args.column c.args.vector.now c.loop-k.k c.args.form.now
    (c.loop-k.k + 1) c.index-vector-k.result c.index-form-k.result c.items-in-loop-k.result.now
    (g.N.Exact.value c.loop-k.sum) c.loop-k-test.true c.index-vector-k.is
    (omega (arith, c.requires.rows, c.loop-k-test.true)) c.index-form-k.is c.items-in-loop-k.ensures.list
    c.in_err-sum-2.ensures.exact ∙ c.loop-k.invariant.rest)

pub returns-in_err-sum-2-clause-counted : goal.returns-in_err-sum-2-clause-counted
returns-in_err-sum-2-clause-counted g c =
    let p = err_from_is_err_and c.from_residual-in_err-sum-2.result c.from_residual-in_err-sum-2.ensures.1 in
    rw p.1 (refused_later c.loop-k.invariant.counted c.in_err-sum-2.ensures.counted)

pub loop-k-preserved : goal.loop-k-preserved
loop-k-preserved g c = record {
  rest = cut_goes g.N.Exact.value g.N.Exact.limit c.args.column c.args.vector.now c.loop-k.k c.args.form.now
      (c.loop-k.k + 1) c.index-vector-k.result c.index-form-k.result c.items-in-loop-k.result.now
      (g.N.Exact.value c.loop-k.sum) c.loop-k-test.true c.index-vector-k.is
      (omega (arith, c.requires.rows, c.loop-k-test.true)) c.index-form-k.is c.items-in-loop-k.ensures.list
      (g.N.Exact.value c.in_ok-sum-2.sum) c.in_ok-sum-2.ensures.exact ∙ c.loop-k.invariant.rest;
  counted = later c.loop-k.invariant.counted (never_told c.in_ok-sum-2.ensures.counted);
}

pub returns-clause-exact : goal.returns-clause-exact
returns-clause-exact g c =
    cut_ends g.N.Exact.value g.N.Exact.limit c.args.column c.args.vector.now c.loop-k.k c.args.form.now
    (c.loop-k.k + 1) (g.N.Exact.value c.loop-k.sum) (omega (arith, c.loop-k-test.false)) ∙ c.loop-k.invariant.rest

pub returns-clause-counted : goal.returns-clause-counted
returns-clause-counted g c = sum_counted c.loop-k.invariant.counted
