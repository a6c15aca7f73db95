use Rattle.std.proofs.Common.{◌≡◌, ◌≤◌, ◌+◌, ◌-◌, ◌++◌, drop, length, vec_len, vec_capacity}
use Rattle.rob_ranges.proofs.form.append_copies.Given as goal

-- those behind this place are still to be copied, and there is room for them
abbrev pub invariant-loop-whole : goal.invariant-loop-whole
invariant-loop-whole l = record {
  so_far : l.out.items ++ drop l.whole-index l.wholes ≡ l.fn.out.items ++ l.wholes;
  room : vec_len l.out + (length l.wholes - l.whole-index) ≤ vec_capacity l.out;
}
