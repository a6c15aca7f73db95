use Rattle.std.proofs.Common.{◌≡◌, take}
use Rattle.rob_syntax.specs.Seen.{seen_part, seen_tree}
use Rattle.rob_expand.specs.Placed.{part_of}
use Rattle.rob_expand.specs.Scopes.{IsPart, IsPlaced, Pairwise}
use Rattle.rob_expand.proofs.place.+place.Given as goal

abbrev pub invariant-place_parts-loop-part : goal.invariant-place_parts-loop-part
invariant-place_parts-loop-part l = record {
  around : l.scope ≡ l.fn.scope;
  placed :
      Pairwise (λ p x. IsPart l.fn.scope.bound l.fn.scope.names (part_of p) (seen_part x)) l.placed
      (take l.part-index l.parts);
}

abbrev pub invariant-place_factors-loop-factor : goal.invariant-place_factors-loop-factor
invariant-place_factors-loop-factor l = record {
  around : l.scope ≡ l.fn.scope;
  placed :
      Pairwise (λ p x. IsPlaced l.fn.scope.bound l.fn.scope.names p (seen_tree x)) l.placed
      (take l.factor-index l.factors);
}
