use Rattle.std.specs.Prelude.{◌≡◌, ◌≤◌, nat_abs}
use Rattle.rob_linear.specs.Vectors.{sum_to}
use Rattle.rob_cuts.specs.Master.{cut_product}
use Rattle.rob_cuts.specs.Rounds.{cut_of}
use Rattle.rob_cuts.proofs.numbers.number.Given as goal

-- the sum so far
abbrev pub invariant-loop-k : goal.invariant-loop-k
invariant-loop-k g l = record {
  sum : l.sum ≡ sum_to l.k (cut_product l.forms (cut_of l.round) l.j);
  within : nat_abs l.sum ≤ g.N.Exact.limit;
}
