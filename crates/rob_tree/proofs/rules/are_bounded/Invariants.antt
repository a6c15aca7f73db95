use Rattle.std.proofs.Common.{◌≡◌, drop}
use Rattle.rob_model.specs.View.{robust}
use Rattle.rob_reach.specs.Ranges.{are_bounded}
use Rattle.rob_tree.proofs.rules.are_bounded.Given as goal

-- the names so far have both bounds, so the rest decides
abbrev pub invariant-loop-column : goal.invariant-loop-column
invariant-loop-column g l =
    let xs = (robust g.N.Exact.value l.model).variables in
    are_bounded xs (drop l.column-index l.names) ≡ are_bounded xs l.names
