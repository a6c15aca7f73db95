use Rattle.std.proofs.Common.{◌≡◌, drop, map}
use Rattle.rob_reach.specs.Growing.{first_broken}
use Rattle.rob_branch.proofs.search.first_broken.Given as goal

-- the names so far are whole, so the first of the rest is the first of all
abbrev pub invariant-loop-column : goal.invariant-loop-column
invariant-loop-column g l =
    let plan = map g.N.Exact.value l.plan in
    first_broken (drop l.column-index l.names) plan ≡ first_broken l.names plan
