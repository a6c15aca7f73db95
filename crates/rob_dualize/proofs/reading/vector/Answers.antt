use Rattle.std.proofs.Common.{map, ap}
use Rattle.rob_algebra.specs.Fraction.{◌-ℚ◌}
use Rattle.rob_counterpart.specs.RobustProgram.{RobustProgram}
use Rattle.rob_counterpart.specs.Reform.{positive_row, negative_row}
use Rattle.rob_dualize.specs.Numbers.{told}
use Rattle.rob_dualize.specs.Wholes.{wholes_in}
use Rattle.rob_dualize.proofs.SizeLemmas.{double_fits, first_fits, in_set, negative_fits, negative_in, negative_told, pair_fits, positive_fits, positive_in, positive_told, width_fits}
use Rattle.rob_dualize.proofs.ReadingLemmas.{one_told, difference_told}
use Rattle.rob_dualize.proofs.TabulateLemmas.{row_more}
use Rattle.rob_dualize.proofs.reading.vector.Goals as goal

-- ---- the places are small, and within the numbers
pub overflow_mul-first : goal.overflow_mul-first
overflow_mul-first g c = double_fits c.requires.model

pub overflow_add-first : goal.overflow_add-first
overflow_add-first g c = width_fits c.requires.model

pub overflow_mul-first-2 : goal.overflow_mul-first-2
overflow_mul-first-2 g c = first_fits c.requires.model c.requires.form_in

pub overflow_mul-positive : goal.overflow_mul-positive
overflow_mul-positive g c = pair_fits c.requires.model c.requires.form_in c.loop-c-test.true

pub overflow_add-positive : goal.overflow_add-positive
overflow_add-positive g c = positive_fits c.requires.model c.requires.form_in c.loop-c-test.true

pub bounds-numbers-first : goal.bounds-numbers-first
bounds-numbers-first g c =
    positive_in c.requires.model c.requires.form_in c.loop-c-test.true c.args.numbers.now c.requires.numbers

pub overflow_mul-negative : goal.overflow_mul-negative
overflow_mul-negative g c = pair_fits c.requires.model c.requires.form_in c.loop-c-test.true

pub overflow_add-negative : goal.overflow_add-negative
overflow_add-negative g c = positive_fits c.requires.model c.requires.form_in c.loop-c-test.true

pub overflow_add-negative-in-loop-c : goal.overflow_add-negative-in-loop-c
overflow_add-negative-in-loop-c g c = negative_fits c.requires.model c.requires.form_in c.loop-c-test.true

pub bounds-numbers-first-in-loop-c : goal.bounds-numbers-first-in-loop-c
bounds-numbers-first-in-loop-c g c =
    negative_in c.requires.model c.requires.form_in c.loop-c-test.true c.args.numbers.now c.requires.numbers

-- ---- the numbers there are those of the pair
pub difference-requires : goal.difference-requires
difference-requires g c =
    let value = g.N.Exact.value in
    let d : RobustProgram = wholes_in c.args.model in
    let positive = positive_told c.requires.model c.requires.form_in c.loop-c-test.true c.args.numbers.now
    c.requires.numbers value c.index-numbers-first.result c.index-numbers-first.is in
    let negative = negative_told c.requires.model c.requires.form_in c.loop-c-test.true c.args.numbers.now
    c.requires.numbers value c.index-numbers-first-in-loop-c.result c.index-numbers-first-in-loop-c.is in
    record {
      one = one_told value c.args.numbers.now (negative_row d c.args.i c.loop-c.c) (positive_row d c.args.i c.loop-c.c)
          c.index-numbers-first-in-loop-c.result c.index-numbers-first.result negative positive
          (c.requires.pairs c.args.i c.loop-c.c c.requires.form_in
          (in_set c.requires.model c.requires.form_in c.loop-c-test.true));
    }

pub loop-c-init : goal.loop-c-init
loop-c-init g c = ap (map g.N.Exact.value) c.new-vector.ensures.empty

pub loop-c-preserved : goal.loop-c-preserved
loop-c-preserved g c =
    let value = g.N.Exact.value in
    let numbers = c.args.numbers.now in
    let d : RobustProgram = wholes_in c.args.model in
    let positive = positive_told c.requires.model c.requires.form_in c.loop-c-test.true c.args.numbers.now
    c.requires.numbers value c.index-numbers-first.result c.index-numbers-first.is in
    let negative = negative_told c.requires.model c.requires.form_in c.loop-c-test.true c.args.numbers.now
    c.requires.numbers value c.index-numbers-first-in-loop-c.result c.index-numbers-first-in-loop-c.is in
    row_more value c.loop-c.vector c.push.new.self c.difference.result c.loop-c.c
    (λ k. told value numbers (negative_row d c.args.i k) -ℚ told value numbers (positive_row d c.args.i k))
    c.loop-c.invariant c.in_ok-push.ensures.appended
    (difference_told value numbers (negative_row d c.args.i c.loop-c.c) (positive_row d c.args.i c.loop-c.c)
    c.index-numbers-first-in-loop-c.result c.index-numbers-first.result (value c.difference.result) negative positive
    c.difference.ensures.value)
