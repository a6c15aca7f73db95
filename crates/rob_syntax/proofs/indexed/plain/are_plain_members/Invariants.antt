use Rattle.std.proofs.Common.{◌≡◌, drop, map}
use Rattle.rob_syntax.specs.Plain.{are_plain_members}
use Rattle.rob_syntax.specs.Seen.{seen_ranged, seen_share}
use Rattle.rob_syntax.proofs.indexed.plain.are_plain_members.Given as goal

abbrev pub invariant-loop-member : goal.invariant-loop-member
invariant-loop-member l =
    are_plain_members (map (seen_ranged seen_share) (drop l.member-index l.members))
    ≡ are_plain_members (map (seen_ranged seen_share) l.members)
