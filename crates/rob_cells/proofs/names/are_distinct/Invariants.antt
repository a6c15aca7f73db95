use Rattle.std.proofs.Common.{◌≡◌, drop, []}
use Rattle.rob_cells.proofs.DistinctLemmas.{are_new}
use Rattle.rob_cells.proofs.DistinctLemmas.{texts}
use Rattle.rob_cells.proofs.names.are_distinct.Given as goal

-- whether those that are left are new and distinct is whether all are distinct
abbrev pub invariant-loop-name : goal.invariant-loop-name
invariant-loop-name l =
    are_new (texts l.seen.keys) (drop l.name-index l.names) ≡ are_new [] l.names
