use Rattle.std.proofs.Common.{◌≡◌, drop, map}
use Rattle.rob_syntax.specs.Plain.{are_plain_parts, are_plain_factors}
use Rattle.rob_syntax.specs.Seen.{seen_tree, seen_part, parts_of, factors_of}
use Rattle.rob_syntax.proofs.indexed.plain.+plain.Given as goal

abbrev pub invariant-are_plain_factors-loop-factor : goal.invariant-are_plain_factors-loop-factor
invariant-are_plain_factors-loop-factor l =
    are_plain_factors (factors_of (map seen_tree (drop l.factor-index l.factors)))
    ≡ are_plain_factors (factors_of (map seen_tree l.factors))

abbrev pub invariant-are_plain_parts-loop-part : goal.invariant-are_plain_parts-loop-part
invariant-are_plain_parts-loop-part l =
    are_plain_parts (parts_of (map seen_part (drop l.part-index l.parts)))
    ≡ are_plain_parts (parts_of (map seen_part l.parts))
