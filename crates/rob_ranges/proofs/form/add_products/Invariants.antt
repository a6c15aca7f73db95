use Rattle.std.proofs.Common.{◌≡◌, ◌≤◌, ◌+◌, length, drop}
use Rattle.rob_ranges.specs.Joining.{joined_from}
use Rattle.rob_ranges.proofs.form.add_products.Given as goal

-- those behind this place are still to be added
abbrev pub invariant-loop-other : goal.invariant-loop-other
invariant-loop-other l = record {
  place : l.place ≡ l.from + l.other-index;
  within : l.place ≤ length l.factors.items;
  so_far : joined_from l.place l.factor (drop l.other-index l.others) l.factors.items
      ≡ joined_from l.from l.factor l.others l.fn.factors.items;
}
