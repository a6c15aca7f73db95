use Rattle.std.proofs.Common.{◌≡◌, ◌≤◌, length, take}
use Rattle.rob_index.specs.Forms.{fixed, greatest, onto}
use Rattle.rob_ranges.proofs.reach.greatest.Given as goal

-- the values of the ranges behind this place are put in
abbrev pub invariant-outwards : goal.invariant-outwards
invariant-outwards l = record {
  within : l.left ≤ length l.ranges;
  so_far : greatest (onto (take l.left l.ranges) (fixed l.values)) l.rest
      ≡ greatest (onto l.ranges (fixed l.values)) l.form;
}

abbrev pub decreases-outwards : goal.decreases-outwards
decreases-outwards l = l.left
