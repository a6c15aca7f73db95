use Rattle.std.proofs.Common.{◌≡◌, ◌≤◌, ◌*◌, drop}
use Rattle.rob_model.specs.View.{robust}
use Rattle.rob_reach.specs.Ranges.{product_of_ranges}
use Rattle.rob_tree.proofs.rules.are_few.Given as goal

-- the product so far, with the ranges that are left, gives the whole product
abbrev pub invariant-loop-column : goal.invariant-loop-column
invariant-loop-column g l =
    let xs = (robust g.N.Exact.value l.model).variables in
    record {
      product : l.so_far * product_of_ranges xs (drop l.column-index l.names) ≡ product_of_ranges xs l.names;
      few : l.so_far ≤ 1000;
    }
