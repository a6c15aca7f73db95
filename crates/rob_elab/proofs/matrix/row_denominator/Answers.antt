use Rattle.std.proofs.Common.{arith, ap, ◌∙◌}
use Rattle.std.specs.Prelude.{◌≡◌, ◌++◌}
use Rattle.rob_algebra.specs.Fraction.{den_pos}
use Rattle.rob_meaning.proofs.Tables.ClearingLemmas.{lcm_pos}
use Rattle.rob_meaning.specs.Clearing.{denominator}
use Rattle.rob_meaning.specs.Places.{tabulate}
use Rattle.rob_sets.specs.Tables.{numbers_of}
use Rattle.rob_sets.proofs.WholeRows.ClearingSteps.{common_first}
use Rattle.rob_number.proofs.CountLemmas.{later}
use Rattle.rob_elab.proofs.RowLemmas.{number_more, number_wide}
use Rattle.rob_elab.proofs.matrix.row_denominator.Goals as goal

pub loop-column-init : goal.loop-column-init
loop-column-init g c = record {
  least = λ before h. h ∙ common_first before;
  positive = c.requires.positive;
  within = c.requires.within;
  counted = record { ops = omega arith; wides = omega arith };
}

pub with_number-requires : goal.with_number-requires
with_number-requires g c = record { positive = c.loop-column.invariant.positive }

pub returns-in-None-clause-least : goal.returns-in-None-clause-least
returns-in-None-clause-least g c before h =
    let value = g.N.Exact.value in
    number_wide before (numbers_of value c.args.table.now c.args.row) g.N.Exact.limit c.loop-column.column
    c.args.columns (value c.number-number.result) c.loop-column.least c.loop-column-test.true
    c.number-number.ensures.value (c.loop-column.invariant.least before h) c.in-None.ensures.multiple

pub loop-column-preserved : goal.loop-column-preserved
loop-column-preserved g c =
    let value = g.N.Exact.value in
    let q = value c.number-number.result in
    record {
      least = λ before h. number_more before (numbers_of value c.args.table.now c.args.row) c.loop-column.column q
          c.loop-column.least c.in-Some.multiple c.number-number.ensures.value
          (c.loop-column.invariant.least before h) c.in-Some.ensures.multiple.0;
      positive = omega (
        arith,
        c.in-Some.ensures.multiple.0,
        lcm_pos q.den c.loop-column.least (den_pos q) c.loop-column.invariant.positive,
      );
      within = c.in-Some.ensures.multiple.1;
      counted = later c.loop-column.invariant.counted c.number-number.ensures.counted;
    }

pub returns-clause-least : goal.returns-clause-least
returns-clause-least g c before h =
    let f = numbers_of g.N.Exact.value c.args.table.now c.args.row in
    let all : c.loop-column.column ≡ c.args.columns =
    omega (arith, c.loop-column-test.false, c.loop-column.auto.column-end) in (
      c.loop-column.invariant.least before h ∙ ap (λ n. denominator (before ++ tabulate n f)) all,
      c.loop-column.invariant.within,
    )
