use Rattle.std.proofs.Common.{◌≡◌, ◌+◌, map, drop}
use Rattle.rob_number.specs.Counts.{NeverFell}
use Rattle.rob_meaning.specs.Places.{at}
use Rattle.rob_model.specs.Within.{rule_within}
use Rattle.rob_model.proofs.policy.rule.Given as goal

-- the sum so far, with the products that are left, gives what all products give
abbrev pub invariant-loop-k : goal.invariant-loop-k
invariant-loop-k g l =
    let value = g.N.Exact.value in
    let columns = map value l.columns in
    let go = rule_within g.N.Exact.limit columns (map value l.values) in
    record {
      rest : go (drop l.k-index l.on) l.place (value l.sum) ≡ go l.on (l.column + 1) (at columns l.column);
      place : l.place ≡ l.column + 1 + l.k-index;
      counted : NeverFell g.L.Ledger.ops g.L.Ledger.wides l.fn.ledger l.ledger;
    }
