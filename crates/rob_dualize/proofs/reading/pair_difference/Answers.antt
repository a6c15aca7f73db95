use Rattle.std.proofs.Common.{◌+◌, ◌*◌, arith}
use Rattle.rob_counterpart.specs.Splitting.{plus, minus}
use Rattle.rob_dualize.proofs.ReadingLemmas.{told_place, one_told, difference_told}
use Rattle.rob_dualize.proofs.reading.pair_difference.Goals as goal

pub difference-requires : goal.difference-requires
difference-requires g c =
    let value = g.N.Exact.value in
    let numbers = c.args.numbers.now in
    let first = told_place value numbers (2 * c.args.j) (plus c.args.j) c.index-numbers-j.result (omega arith)
    (omega (arith, c.requires.inside)) c.index-numbers-j.is in
    let second = told_place value numbers (2 * c.args.j + 1) (minus c.args.j) c.index-numbers-j-2.result (omega arith)
    (omega (arith, c.requires.inside)) c.index-numbers-j-2.is in
    record {
      one = one_told value numbers (plus c.args.j) (minus c.args.j) c.index-numbers-j.result
          c.index-numbers-j-2.result first second c.requires.one;
    }

pub returns : goal.returns
returns g c =
    let value = g.N.Exact.value in
    let numbers = c.args.numbers.now in
    let first = told_place value numbers (2 * c.args.j) (plus c.args.j) c.index-numbers-j.result (omega arith)
    (omega (arith, c.requires.inside)) c.index-numbers-j.is in
    let second = told_place value numbers (2 * c.args.j + 1) (minus c.args.j) c.index-numbers-j-2.result (omega arith)
    (omega (arith, c.requires.inside)) c.index-numbers-j-2.is in
    record {
      difference = difference_told value numbers (plus c.args.j) (minus c.args.j) c.index-numbers-j.result
          c.index-numbers-j-2.result (value c.difference.result) first second c.difference.ensures.value;
    }
