use Rattle.std.specs.Prelude.{◌≡◌, ℕ}
use Rattle.rob_number.specs.Counts.{NeverFell}
use Rattle.rob_algebra.specs.Fraction.{◌+ℚ◌}
use Rattle.rob_meaning.specs.Values.{signed}
use Rattle.rob_sets.proofs.Cells.EntryLemmas.{AreOrdered, number_in}
use Rattle.rob_sets.specs.Tables.{numbers_of}
use Rattle.rob_sets.proofs.table.Table.join.Given as goal

-- the numbers so far, with those of the entries that are left, are the sum
abbrev pub invariant-loop-cell : goal.invariant-loop-cell
invariant-loop-cell g l =
    let value = g.N.Exact.value in
    record {
      ordered : AreOrdered l.cell-iterator;
      rest : (k j : ℕ) → numbers_of value l.self k j +ℚ signed l.minus (number_in value l.cell-iterator k j)
          ≡ numbers_of value l.fn.self k j +ℚ signed l.minus (numbers_of value l.other k j);
      counted : NeverFell g.L.Ledger.ops g.L.Ledger.wides l.fn.ledger l.ledger;
    }
