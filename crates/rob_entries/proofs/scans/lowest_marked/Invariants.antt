-- The lowest column among the parts so far.
use Rattle.std.specs.Prelude.{◌≤◌, ◌*◌}
use Rattle.std.proofs.Common.{get_or}
use Rattle.rob_entries.specs.Choices.{IsFloor}
use Rattle.rob_entries.proofs.scans.lowest_marked.Given as goal

abbrev pub invariant-loop-part : goal.invariant-loop-part
invariant-loop-part l =
    (l.best ≤ l.fn.before) × IsFloor l.fn.marks (λ k. get_or l.fn.near k 0) 0 (l.part * 16) l.fn.low l.best
