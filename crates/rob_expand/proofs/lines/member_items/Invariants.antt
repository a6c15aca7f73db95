use Rattle.std.proofs.Common.{◌≡◌, ◌++◌, [], drop, map}
use Rattle.rob_syntax.specs.Seen.{seen_ranged, seen_share}
use Rattle.rob_expand.specs.Statements.{member_item}
use Rattle.rob_expand.proofs.lines.member_items.Given as goal

abbrev pub invariant-loop-member : goal.invariant-loop-member
invariant-loop-member l =
    l.made ++ map (member_item l.limit []) (map (seen_ranged seen_share) (drop l.member-index l.members))
    ≡ map (member_item l.limit []) (map (seen_ranged seen_share) l.members)
