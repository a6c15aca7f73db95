use Rattle.std.proofs.Common.{◌≡◌, ◌++◌}
use Rattle.rob_meaning.specs.Places.{tabulate}
use Rattle.rob_cells.proofs.split.append_number.Given as goal

-- the number for each round so far
abbrev pub invariant-loop : goal.invariant-loop
invariant-loop l = l.list ≡ l.fn.list ++ tabulate l.counter (λ _. l.number)
