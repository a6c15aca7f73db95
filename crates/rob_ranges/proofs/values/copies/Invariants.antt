use Rattle.std.proofs.Common.{◌≡◌, ◌++◌, drop}
use Rattle.rob_ranges.proofs.values.copies.Given as goal

-- those behind this place are still to be copied
abbrev pub invariant-loop-place : goal.invariant-loop-place
invariant-loop-place l = l.copies.items ++ drop l.place-index l.places ≡ l.places
