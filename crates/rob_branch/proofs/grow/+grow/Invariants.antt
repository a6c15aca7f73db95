use Rattle.std.proofs.Common.{◌+◌, ◌*◌}
use Rattle.rob_model.specs.View.{robust}
use Rattle.rob_reach.specs.Ranges.{product_of_ranges}
use Rattle.rob_branch.proofs.grow.+grow.Given as goal

-- the product of ranges falls from a box to one behind a branch
abbrev pub decreases-grow : goal.decreases-grow
decreases-grow g l = 4 * product_of_ranges (robust g.N.Exact.value l.area.model.now).variables l.area.names.now + 3

abbrev pub decreases-grow_from : goal.decreases-grow_from
decreases-grow_from g l = 4 * product_of_ranges (robust g.N.Exact.value l.area.model.now).variables l.area.names.now + 2

abbrev pub decreases-grow_branch : goal.decreases-grow_branch
decreases-grow_branch g l =
    4 * product_of_ranges (robust g.N.Exact.value l.area.model.now).variables l.area.names.now + 1

abbrev pub decreases-grow_side : goal.decreases-grow_side
decreases-grow_side g l = 4 * product_of_ranges (robust g.N.Exact.value l.area.model.now).variables l.area.names.now
