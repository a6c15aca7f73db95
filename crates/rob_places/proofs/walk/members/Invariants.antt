use Rattle.std.proofs.Common.{◌≡◌, drop, map}
use Rattle.rob_syntax.specs.Seen.{seen_ranged, seen_share}
use Rattle.rob_places.specs.Tests.{is_set}
use Rattle.rob_places.specs.Walk.{walk_each}
use Rattle.rob_places.proofs.walk.members.Given as goal

-- what is left to be looked at decides
abbrev pub invariant-loop-member : goal.invariant-loop-member
invariant-loop-member l = record {
  around : l.around ≡ l.fn.around;
  stands :
      walk_each (is_set l.task.declared.now) l.task.test (λ m. m.name) l.fn.around
      (map (seen_ranged seen_share) (drop l.member-index l.own)) l.left
      ≡ walk_each (is_set l.task.declared.now) l.task.test (λ m. m.name) l.fn.around
      (map (seen_ranged seen_share) l.own) l.fn.left;
}
