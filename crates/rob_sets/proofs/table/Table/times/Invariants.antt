use Rattle.rob_number.specs.Counts.{NeverFell}
use Rattle.rob_sets.specs.Tables.{numbers_of}
use Rattle.rob_sets.proofs.Products.TimesLemmas.{FirstLeft, SecondLeft}
use Rattle.rob_sets.proofs.table.Table.times.Given as goal

-- the numbers so far, with the products of what is left of the first table, are the product
abbrev pub invariant-loop-a : goal.invariant-loop-a
invariant-loop-a g l =
    let value = g.N.Exact.value in
    record {
      left : FirstLeft value (numbers_of value l.self) (numbers_of value l.other) l.a-iterator
          (numbers_of value l.product);
      counted : NeverFell g.L.Ledger.ops g.L.Ledger.wides l.fn.ledger l.ledger;
    }

-- the same, with one entry of the first table and what is left of the second
abbrev pub invariant-loop-b : goal.invariant-loop-b
invariant-loop-b g l =
    let value = g.N.Exact.value in
    record {
      left : SecondLeft value (numbers_of value l.self) (numbers_of value l.other) (l.a, l.x) l.a-iterator l.b-iterator
          (numbers_of value l.product);
      counted : NeverFell g.L.Ledger.ops g.L.Ledger.wides l.fn.ledger l.ledger;
    }
