use Rattle.std.proofs.Common.{◌≡◌, drop, map}
use Rattle.rob_syntax.specs.Few.{all_few}
use Rattle.rob_syntax.specs.Seen.{seen_ranged, seen_share}
use Rattle.rob_syntax.proofs.indexed.limits.all_members_few.Given as goal

abbrev pub invariant-loop-member : goal.invariant-loop-member
invariant-loop-member l =
    all_few (map (seen_ranged seen_share) (drop l.member-index l.members))
    ≡ all_few (map (seen_ranged seen_share) l.members)
