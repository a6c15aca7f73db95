use Rattle.std.proofs.Common.{arith}
use Rattle.std.proofs.lemmas.Map.Iter.{rest_more, rest_all}
use Rattle.std.specs.Map.Iter.{deref_pair}
use Rattle.rob_algebra.specs.Fraction.{◌+ℚ◌}
use Rattle.rob_meaning.specs.Values.{signed}
use Rattle.rob_sets.specs.Tables.{numbers_of}
use Rattle.rob_sets.proofs.Cells.EntryLemmas.{joined_step, joined_end, ordered_behind}
use Rattle.rob_sets.proofs.table.Table.join.Goals as goal

pub loop-cell-preserved : goal.loop-cell-preserved
loop-cell-preserved g c =
    let value = g.N.Exact.value in
    let left = rest_more deref_pair c.loop-cell.cell-iterator c.next.new.self c.next.result
    (c.in-Some.cell, c.in-Some.x) c.in-Some.is c.next.ensures.steps in
    record {
      ordered = ordered_behind value c.loop-cell.cell-iterator c.next.new.self (c.in-Some.cell.now, c.in-Some.x.now)
          left c.loop-cell.invariant.ordered;
      rest = λ k j. joined_step value c.args.minus c.loop-cell.cell-iterator c.next.new.self c.in-Some.cell.now
          c.in-Some.x.now c.signed.result left
          c.loop-cell.invariant.ordered c.signed.ensures.value k j (numbers_of value c.loop-cell.self k j)
          (numbers_of value c.add.new.self k j)
          (numbers_of value c.args.self.now k j +ℚ signed c.args.minus (numbers_of value c.args.other.now k j))
          (c.loop-cell.invariant.rest k j) (c.in_ok-add.ensures.added k j);
      counted = record {
        ops = omega (arith, c.loop-cell.invariant.counted.ops, c.add.ensures.counted.ops);
        wides = omega (arith, c.loop-cell.invariant.counted.wides, c.add.ensures.counted.wides);
      };
    }

pub returns-clause-joined : goal.returns-clause-joined
returns-clause-joined g c k j =
    let value = g.N.Exact.value in
    joined_end value c.args.minus c.loop-cell.cell-iterator
    (rest_all deref_pair c.loop-cell.cell-iterator c.next.new.self c.next.result c.in-None.is c.next.ensures.steps) k j
    (numbers_of value c.loop-cell.self k j)
    (numbers_of value c.args.self.now k j +ℚ signed c.args.minus (numbers_of value c.args.other.now k j))
    (c.loop-cell.invariant.rest k j)
