use Rattle.std.proofs.Common.{◌≡◌, drop, map}
use Rattle.rob_syntax.specs.Seen.{seen_part, seen_tree, parts_of, factors_of}
use Rattle.rob_places.specs.Tests.{is_set}
use Rattle.rob_places.specs.Walk.{walk_parts, walk_factors}
use Rattle.rob_places.proofs.walk.+tree.Given as goal

-- what is left to be looked at decides
abbrev pub invariant-parts-loop-part : goal.invariant-parts-loop-part
invariant-parts-loop-part l = record {
  around : l.around ≡ l.fn.around;
  stands :
      walk_parts (is_set l.task.declared.now) l.task.test l.fn.around
      (parts_of (map seen_part (drop l.part-index l.own))) l.left
      ≡ walk_parts (is_set l.task.declared.now) l.task.test l.fn.around (parts_of (map seen_part l.own)) l.fn.left;
}

abbrev pub invariant-factors-loop-factor : goal.invariant-factors-loop-factor
invariant-factors-loop-factor l = record {
  around : l.around ≡ l.fn.around;
  stands :
      walk_factors (is_set l.task.declared.now) l.task.test l.fn.around
      (factors_of (map seen_tree (drop l.factor-index l.own))) l.left
      ≡ walk_factors (is_set l.task.declared.now) l.task.test l.fn.around (factors_of (map seen_tree l.own)) l.fn.left;
}
