use Rattle.std.proofs.Common.{◌≡◌, ◌≤◌, ◌+◌, length, drop, vec_capacity}
use Rattle.rob_index.specs.Fast.{unit_at}
use Rattle.rob_ranges.specs.Joining.{joined_from}
use Rattle.rob_ranges.proofs.form.add_unit.Given as goal

-- the name is still to be found behind this place
abbrev pub invariant-loop-own : goal.invariant-loop-own
invariant-loop-own l = record {
  place : l.place ≡ l.from + l.own-index;
  within : l.place ≤ length l.factors.items;
  room : l.from + length l.names ≤ vec_capacity l.factors;
  so_far : joined_from l.place l.sign (unit_at (drop l.own-index l.names) l.name) l.factors.items
      ≡ joined_from l.from l.sign (unit_at l.names l.name) l.fn.factors.items;
}
