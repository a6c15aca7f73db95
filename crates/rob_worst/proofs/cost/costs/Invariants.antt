use Rattle.std.specs.Prelude.{◌≡◌, ◌≤◌, nat_abs}
use Rattle.rob_meaning.specs.Places.{Each, tabulate}
use Rattle.rob_dualize.specs.SetProgram.{in_pairs}
use Rattle.rob_worst.specs.Costs.{column_part}
use Rattle.rob_worst.proofs.cost.costs.Given as goal

-- the costs so far
abbrev pub invariant-loop-c : goal.invariant-loop-c
invariant-loop-c g l = record {
  costs : l.list ≡ in_pairs (tabulate l.c (column_part l.forms l.form l.whole));
  within : Each (λ a. nat_abs a ≤ g.N.Exact.limit) l.list;
}
