use Rattle.std.proofs.Common.{◌≡◌, drop, map}
use Rattle.rob_syntax.specs.Seen.{seen_ranged, seen_ref}
use Rattle.rob_places.specs.Tests.{is_set}
use Rattle.rob_places.specs.Walk.{walk_each}
use Rattle.rob_places.proofs.walk.entries.Given as goal

-- what is left to be looked at decides
abbrev pub invariant-loop-entry : goal.invariant-loop-entry
invariant-loop-entry l = record {
  around : l.around ≡ l.fn.around;
  stands :
      walk_each (is_set l.task.declared.now) l.task.test (λ r. r) l.fn.around
      (map (seen_ranged seen_ref) (drop l.entry-index l.own)) l.left
      ≡ walk_each (is_set l.task.declared.now) l.task.test (λ r. r) l.fn.around
      (map (seen_ranged seen_ref) l.own) l.fn.left;
}
