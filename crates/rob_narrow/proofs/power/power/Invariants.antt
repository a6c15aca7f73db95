-- The product of one more factor than the counter says, and not over the limit.
use Rattle.std.proofs.Common.{◌≡◌, ◌≤◌, ◌^◌, suc}
use Rattle.rob_narrow.proofs.power.power.Given as goal

abbrev pub invariant-loop : goal.invariant-loop
invariant-loop l = record {
  power : l.product ≡ l.factor ^ suc l.counter;
  below : l.product ≤ l.limit;
}
