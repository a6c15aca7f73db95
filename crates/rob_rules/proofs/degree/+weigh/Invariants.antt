use Rattle.std.proofs.Common.{◌≡◌, drop, map}
use Rattle.rob_syntax.specs.Trees.{tree_of, part_of, sum, product, summands_of, operands_of}
use Rattle.rob_rules.specs.Weights.{weight_of}
use Rattle.rob_rules.proofs.Trees.WeightLemmas.{sum_from, product_from}
use Rattle.rob_rules.proofs.degree.+weigh.Given as goal

abbrev pub invariant-weigh_product-loop-factor : goal.invariant-weigh_product-loop-factor
invariant-weigh_product-loop-factor l =
    product_from l.sorts l.so_far (operands_of (map tree_of (drop l.factor-index l.factors))) ≡ weight_of l.sorts
    (product (operands_of (map tree_of l.factors)))

abbrev pub invariant-weigh_sum-loop-part : goal.invariant-weigh_sum-loop-part
invariant-weigh_sum-loop-part l =
    sum_from l.sorts l.so_far (summands_of (map part_of (drop l.part-index l.parts))) ≡ weight_of l.sorts
    (sum (summands_of (map part_of l.parts)))
