use Rattle.std.proofs.Common.{◌≡◌, drop, map}
use Rattle.rob_syntax.specs.Seen.{seen_index}
use Rattle.rob_places.specs.Walk.{walk_indices}
use Rattle.rob_places.proofs.walk.indices.Given as goal

-- what is left to be looked at decides
abbrev pub invariant-loop-index : goal.invariant-loop-index
invariant-loop-index l =
    walk_indices l.test l.around (map seen_index (drop l.index-index l.indices)) l.left
    ≡ walk_indices l.test l.around (map seen_index l.indices) l.fn.left
