use Rattle.std.specs.Prelude.{◌≡◌, ◌∷◌, ◌++◌, map}
use Rattle.rob_number.specs.Counts.{NeverFell}
use Rattle.rob_meaning.specs.Places.{tabulate}
use Rattle.rob_sets.specs.Appending.{row_of}
use Rattle.rob_sets.specs.Tables.{numbers_of}
use Rattle.rob_sets.proofs.row.row_numbers.Given as goal

-- the right side, and the parameters' numbers so far
abbrev pub invariant-loop-k : goal.invariant-loop-k
invariant-loop-k g l =
    let row = row_of (numbers_of g.N.Exact.value l.table) in
    record {
      numbers : map g.N.Exact.value l.numbers.items ≡ row.limit ∷ tabulate l.k row.on_parameters;
      counted : NeverFell g.L.Ledger.ops g.L.Ledger.wides l.fn.ledger l.ledger;
    }

-- the same, all parameters, and the numbers of the columns t so far
abbrev pub invariant-loop-t : goal.invariant-loop-t
invariant-loop-t g l =
    let row = row_of (numbers_of g.N.Exact.value l.table) in
    record {
      numbers : map g.N.Exact.value l.numbers.items
          ≡ row.limit ∷ (tabulate l.parameters row.on_parameters ++ tabulate l.t row.on_lifts);
      counted : NeverFell g.L.Ledger.ops g.L.Ledger.wides l.fn.ledger l.ledger;
    }
