use Rattle.std.proofs.Common.{◌≡◌, ◌++◌, drop}
use Rattle.std.specs.List.{flat_map}
use Rattle.rob_rules.specs.Leaves.{member_leaves}
use Rattle.rob_rules.proofs.leaf.append_members.Given as goal

abbrev pub invariant-loop-member : goal.invariant-loop-member
invariant-loop-member l =
    l.list ++ flat_map member_leaves (drop l.member-index l.members) ≡ l.fn.list ++ flat_map member_leaves l.members
