use Rattle.std.proofs.lemmas.Result.{err_from_is_err_and}
use Rattle.std.proofs.Common.{◌∙◌, ap, map, arith}
use Rattle.rob_cert.specs.View.{item_of}
use Rattle.rob_model.proofs.PartLemmas.{each_at_map}
use Rattle.rob_check.specs.Conditions.{item_within}
use Rattle.rob_check.specs.Sums.{added_within}
use Rattle.rob_check.specs.View.{TakesForm}
use Rattle.rob_check.proofs.ItemLemmas.{column_ends, column_goes, column_stops, item_wide}
use Rattle.rob_check.proofs.SumLemmas.{refused_later, sum_counted}
use Rattle.rob_check.proofs.items.column_sum.Goals as goal

pub loop-item-init : goal.loop-item-init
loop-item-init g c = record {
  rest = ap (λ z. added_within g.N.Exact.limit z (map (item_within g.N.Exact.limit c.args.forms.now.matrices
      c.args.column) (map (item_of g.N.Exact.value) c.args.items.now))) c.zero-sum.ensures.value;
  items = c.requires.items;
  counted = c.zero-sum.ensures.counted;
}

pub item_at-requires-clause-form : goal.item_at-requires-clause-form
item_at-requires-clause-form g c =
    (each_at_map (TakesForm c.args.forms.now.matrices) (item_of g.N.Exact.value) c.args.items.now
    c.loop-item.item-index c.item-item.result c.loop-item-test.true c.item-item.is c.loop-item.invariant.items).0

pub returns-in_err-part-clause-exact : goal.returns-in_err-part-clause-exact
returns-in_err-part-clause-exact g c =
    let p = err_from_is_err_and c.from_residual.result c.from_residual.ensures.1 in
    rw p.1 (item_wide g.N.Exact.value g.N.Exact.limit c.args.forms.now.matrices c.args.column c.args.items.now
    c.loop-item.item-index c.item-item.result (g.N.Exact.value c.loop-item.sum) c.loop-item-test.true c.item-item.is
    c.in_err-part.ensures.exact ∙ c.loop-item.invariant.rest)

pub returns-in_err-part-clause-counted : goal.returns-in_err-part-clause-counted
returns-in_err-part-clause-counted g c =
    let p = err_from_is_err_and c.from_residual.result c.from_residual.ensures.1 in
    rw p.1 (refused_later c.loop-item.invariant.counted c.in_err-part.ensures.counted)

pub returns-in_err-sum-clause-exact : goal.returns-in_err-sum-clause-exact
returns-in_err-sum-clause-exact g c =
    let p = err_from_is_err_and c.from_residual-in_err-sum.result c.from_residual-in_err-sum.ensures.1 in
    rw p.1 (column_stops g.N.Exact.value g.N.Exact.limit c.args.forms.now.matrices c.args.column c.args.items.now
    c.loop-item.item-index c.item-item.result (g.N.Exact.value c.loop-item.sum) c.loop-item-test.true c.item-item.is
    (g.N.Exact.value c.in_ok-part.part) c.in_ok-part.ensures.exact c.in_err-sum.ensures.exact
    ∙ c.loop-item.invariant.rest)

pub loop-item-preserved : goal.loop-item-preserved
loop-item-preserved g c = record {
  rest = column_goes g.N.Exact.value g.N.Exact.limit c.args.forms.now.matrices c.args.column c.args.items.now
      c.loop-item.item-index c.item-item.result (g.N.Exact.value c.loop-item.sum) c.loop-item-test.true c.item-item.is
      (g.N.Exact.value c.in_ok-part.part) c.in_ok-part.ensures.exact (g.N.Exact.value c.in_ok-sum.sum)
      c.in_ok-sum.ensures.exact ∙ c.loop-item.invariant.rest;
  items = (each_at_map (TakesForm c.args.forms.now.matrices) (item_of g.N.Exact.value) c.args.items.now
      c.loop-item.item-index c.item-item.result c.loop-item-test.true c.item-item.is c.loop-item.invariant.items).1;
  counted = record {
    ops = omega (
      arith,
      c.loop-item.invariant.counted.ops,
      c.in_ok-part.ensures.counted.ops,
      c.in_ok-sum.ensures.counted.ops,
    );
    wides = omega (
      arith,
      c.loop-item.invariant.counted.wides,
      c.in_ok-part.ensures.counted.told.never_fell,
      c.in_ok-sum.ensures.counted.wides,
    );
  };
}

pub returns-clause-exact : goal.returns-clause-exact
returns-clause-exact g c =
    column_ends g.N.Exact.value g.N.Exact.limit c.args.forms.now.matrices c.args.column c.args.items.now
    c.loop-item.item-index (g.N.Exact.value c.loop-item.sum) (omega (arith, c.loop-item-test.false))
    ∙ c.loop-item.invariant.rest

pub returns-clause-counted : goal.returns-clause-counted
returns-clause-counted g c = sum_counted c.loop-item.invariant.counted
