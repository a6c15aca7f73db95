-- The lowest column so far.
use Rattle.std.specs.Prelude.{◌≤◌}
use Rattle.std.proofs.Common.{get_or}
use Rattle.rob_entries.specs.Choices.{IsFloor}
use Rattle.rob_entries.proofs.scans.lowest_between.Given as goal

abbrev pub invariant-loop-k : goal.invariant-loop-k
invariant-loop-k l =
    (l.best ≤ l.fn.before) × IsFloor l.fn.marks (λ k. get_or l.fn.near k 0) l.fn.from l.k l.fn.low l.best
