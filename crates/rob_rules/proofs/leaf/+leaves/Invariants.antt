use Rattle.std.proofs.Common.{◌≡◌, ◌++◌, drop, map}
use Rattle.rob_syntax.specs.Trees.{tree_of, part_of, summands_of, operands_of}
use Rattle.rob_rules.specs.Leaves.{part_leaves, factor_leaves}
use Rattle.rob_rules.proofs.leaf.+leaves.Given as goal

-- with what is left, those of all parts
abbrev pub invariant-append_parts-loop-part : goal.invariant-append_parts-loop-part
invariant-append_parts-loop-part l =
    l.list ++ part_leaves (summands_of (map part_of (drop l.part-index l.parts)))
    ≡ l.fn.list ++ part_leaves (summands_of (map part_of l.parts))

abbrev pub invariant-append_factors-loop-factor : goal.invariant-append_factors-loop-factor
invariant-append_factors-loop-factor l =
    l.list ++ factor_leaves (operands_of (map tree_of (drop l.factor-index l.factors)))
    ≡ l.fn.list ++ factor_leaves (operands_of (map tree_of l.factors))
