use Rattle.std.proofs.Common.{rules, arith, ap, List}
use Rattle.std.proofs.lemmas.Map.Iter.{rest_more, rest_all}
use Rattle.std.proofs.lemmas.Result.{err_from_is_err_and}
use Rattle.std.specs.Map.Iter.{deref_pair}
use Rattle.rob_algebra.specs.Fraction.{◌+ℚ◌, ◌*ℚ◌}
use Rattle.rob_algebra.specs.Width.{IsWide}
use Rattle.rob_number.specs.Counts.{Rose}
use Rattle.rob_number.proofs.AnswerLaws.{ok_tells, err_tells}
use Rattle.rob_sets.specs.Tables.{numbers_of}
use Rattle.rob_sets.specs.declared.table.Cell.{Cell}
use Rattle.rob_sets.proofs.Cells.EntryLemmas.{number_in}
use Rattle.rob_sets.proofs.Cells.NumberLemmas.{number_fits}
use Rattle.rob_sets.proofs.Judging.StopLemmas.{stops, stops_more}
use Rattle.rob_sets.proofs.Products.TimesLemmas.{first_begins, first_ends, product_wide, second_begins, second_ends, second_goes_on, sum_wide}
use Rattle.rob_sets.proofs.table.Table.times.Goals as goal

pub loop-a-init : goal.loop-a-init
loop-a-init g c = record {
  left = first_begins (search rules)
      (λ k j. ap (λ (es : List (Cell × g.row.N.Denot)). number_in g.N.Exact.value es k j)
      c.into_iter-a-iterator.ensures.into_iter_gives.0) c.new-product.ensures.zero;
  counted = record { ops = search rules; wides = search rules };
}

pub loop-b-init : goal.loop-b-init
loop-b-init g c = record {
  left = second_begins
      (rest_more deref_pair c.loop-a.a-iterator c.next.new.self c.next.result (c.in-Some.a, c.in-Some.x) c.in-Some.is
      c.next.ensures.steps) c.loop-a.invariant.left (search rules)
      (λ k j. ap (λ (es : List (Cell × g.row.N.Denot)). number_in g.N.Exact.value es k j)
      c.into_iter-b-iterator.ensures.into_iter_gives.0);
  counted = record { ops = search rules; wides = search rules };
}

pub loop-a-preserved : goal.loop-a-preserved
loop-a-preserved g c = record {
  left = second_ends
      (rest_all deref_pair c.loop-b.b-iterator c.next-in-loop-b.new.self c.next-in-loop-b.result c.in-None-2.is
      c.next-in-loop-b.ensures.steps) c.loop-b.invariant.left;
  counted = c.loop-b.invariant.counted;
}

pub returns-clause-product : goal.returns-clause-product
returns-clause-product g c =
    first_ends
    (rest_all deref_pair c.loop-a.a-iterator c.next.new.self c.next.result c.in-None.is c.next.ensures.steps)
    c.requires.apart c.loop-a.invariant.left

pub loop-b-preserved : goal.loop-b-preserved
loop-b-preserved g c =
    let value = g.N.Exact.value in
    record {
      left = second_goes_on
          (rest_more deref_pair c.loop-b.b-iterator c.next-in-loop-b.new.self c.next-in-loop-b.result
          (c.in-Some-2.b, c.in-Some-2.y) c.in-Some-2.is c.next-in-loop-b.ensures.steps) c.loop-b.invariant.left
          c.both.ensures.row c.both.ensures.column
          (ok_tells g.N.Exact.limit (value c.in-Some.x.now *ℚ value c.in-Some-2.y.now) (value c.in_ok-number.number)
          c.in_ok-number.ensures.exact).0
          (numbers_of value c.add.new.self) c.in_ok-add.ensures.added;
      counted = record {
        ops = omega (arith, c.loop-b.invariant.counted.ops, c.mul.ensures.counted.ops, c.add.ensures.counted.ops);
        wides = omega (arith, c.loop-b.invariant.counted.wides, c.in_ok-number.ensures.counted.wides);
      };
    }

pub returns-in_err-number-clause-wide : goal.returns-in_err-number-clause-wide
returns-in_err-number-clause-wide g c =
    let value = g.N.Exact.value in
    stops c.from_residual.result (
      omega (arith, c.loop-b.invariant.counted.wides, c.in_err-number.ensures.counted.wides),
      product_wide
          (rest_more deref_pair c.loop-b.b-iterator c.next-in-loop-b.new.self c.next-in-loop-b.result
          (c.in-Some-2.b, c.in-Some-2.y) c.in-Some-2.is c.next-in-loop-b.ensures.steps) c.loop-b.invariant.left
          g.N.Exact.limit g.met.N.Exact.limit_low c.requires.apart
          (err_tells g.N.Exact.limit (value c.in-Some.x.now *ℚ value c.in-Some-2.y.now) c.in_err-number.ensures.exact),
    )

pub returns-in_err-add-clause-wide : goal.returns-in_err-add-clause-wide
returns-in_err-add-clause-wide g c =
    let value = g.N.Exact.value in
    let limit = g.N.Exact.limit in
    let low = g.met.N.Exact.limit_low in
    let p = err_from_is_err_and c.from_residual-in_err-add.result c.from_residual-in_err-add.ensures.1 in
    stops_more c.from_residual-in_err-add.result c.in_err-add.field-0.0 p.0 p.1 p.2
    (λ (h : Rose (g.L.Ledger.wides c.mul.new.ledger) (g.L.Ledger.wides c.add.new.ledger) × IsWide limit
    (numbers_of value c.loop-b.product c.both.result.row c.both.result.column +ℚ value c.in_ok-number.number)). (
      omega (arith, c.loop-b.invariant.counted.wides, c.in_ok-number.ensures.counted.wides, h.0),
      sum_wide
          (rest_more deref_pair c.loop-b.b-iterator c.next-in-loop-b.new.self c.next-in-loop-b.result
          (c.in-Some-2.b, c.in-Some-2.y) c.in-Some-2.is c.next-in-loop-b.ensures.steps) c.loop-b.invariant.left
          c.both.ensures.row c.both.ensures.column
          (ok_tells limit (value c.in-Some.x.now *ℚ value c.in-Some-2.y.now) (value c.in_ok-number.number)
          c.in_ok-number.ensures.exact).0
          limit low c.requires.apart (number_fits value limit g.met.N.Exact.fits low c.loop-b.product) h.1,
    ))
    c.in_err-add.ensures.wide
