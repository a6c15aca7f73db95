use Rattle.std.proofs.Common.{◌≡◌, drop}
use Rattle.rob_expand.specs.Growing.{is_bare}
use Rattle.rob_expand.proofs.expansion.are_bare.Given as goal

abbrev pub invariant-loop-item : goal.invariant-loop-item
invariant-loop-item l = is_bare (drop l.item-index l.items) l.values ≡ is_bare l.items l.values
