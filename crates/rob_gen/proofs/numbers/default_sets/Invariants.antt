-- A 0 for each round so far.
use Rattle.std.proofs.Common.{◌≡◌}
use Rattle.rob_meaning.specs.Places.{tabulate}
use Rattle.rob_gen.proofs.numbers.default_sets.Given as goal

abbrev pub invariant-loop : goal.invariant-loop
invariant-loop l = l.list ≡ tabulate l.counter (λ _. 0)
