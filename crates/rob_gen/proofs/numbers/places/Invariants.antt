-- The places so far.
use Rattle.std.proofs.Common.{◌≡◌}
use Rattle.rob_gen.specs.Generated.{places}
use Rattle.rob_gen.proofs.numbers.places.Given as goal

abbrev pub invariant-loop-place : goal.invariant-loop-place
invariant-loop-place l = l.list ≡ places l.place
