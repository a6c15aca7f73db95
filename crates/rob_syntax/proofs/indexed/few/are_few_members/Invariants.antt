use Rattle.std.proofs.Common.{◌≡◌, drop, map}
use Rattle.rob_index.specs.FewIndices.{are_few_items}
use Rattle.rob_syntax.specs.Seen.{seen_ranged, seen_share}
use Rattle.rob_syntax.proofs.indexed.few.are_few_members.Given as goal

abbrev pub invariant-loop-member : goal.invariant-loop-member
invariant-loop-member l =
    are_few_items (λ m. m.name) (map (seen_ranged seen_share) (drop l.member-index l.members))
    ≡ are_few_items (λ m. m.name) (map (seen_ranged seen_share) l.members)
