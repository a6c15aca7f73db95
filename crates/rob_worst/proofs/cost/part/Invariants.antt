use Rattle.std.specs.Prelude.{◌≡◌, ◌≤◌, nat_abs}
use Rattle.rob_linear.specs.Vectors.{sum_to}
use Rattle.rob_worst.specs.Costs.{product_at}
use Rattle.rob_worst.proofs.cost.part.Given as goal

-- the sum so far
abbrev pub invariant-loop-j : goal.invariant-loop-j
invariant-loop-j g l = record {
  sum : l.sum ≡ sum_to l.j (product_at l.forms l.i l.k l.whole);
  within : nat_abs l.sum ≤ g.N.Exact.limit;
}
