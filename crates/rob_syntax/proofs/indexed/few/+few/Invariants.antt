use Rattle.std.proofs.Common.{◌≡◌, drop, map}
use Rattle.rob_index.specs.FewIndices.{are_few_parts, are_few_factors}
use Rattle.rob_syntax.specs.Seen.{seen_tree, seen_part, parts_of, factors_of}
use Rattle.rob_syntax.proofs.indexed.few.+few.Given as goal

abbrev pub invariant-are_few_factors-loop-factor : goal.invariant-are_few_factors-loop-factor
invariant-are_few_factors-loop-factor l =
    are_few_factors (factors_of (map seen_tree (drop l.factor-index l.factors)))
    ≡ are_few_factors (factors_of (map seen_tree l.factors))

abbrev pub invariant-are_few_parts-loop-part : goal.invariant-are_few_parts-loop-part
invariant-are_few_parts-loop-part l =
    are_few_parts (parts_of (map seen_part (drop l.part-index l.parts)))
    ≡ are_few_parts (parts_of (map seen_part l.parts))
