use Rattle.std.proofs.Common.{◌≡◌, ◌≤◌, ◌*◌}
use Rattle.rob_meaning.specs.RobustModel.{RobustModel}
use Rattle.std.proofs.Common.{map}
use Rattle.rob_number.specs.Counts.{NeverFell}
use Rattle.rob_model.proofs.ConditionLemmas.{bounds_left}
use Rattle.rob_model.proofs.bounds.broken_bound.Given as goal

-- the bounds so far hold, so the first that fails is the first among those that are left
abbrev pub invariant-loop-k : goal.invariant-loop-k
invariant-loop-k g l =
    let left = λ (m : RobustModel).
    bounds_left g.N.Exact.limit m (g.N.Exact.value l.base) (map g.N.Exact.value l.vector)
    g.N.Exact.value l.params in
    record {
      rest : (m : RobustModel) → left m l.k l.index ≡ left m 0 0;
      small : l.index ≤ 2 * l.k;
      counted : NeverFell g.L.Ledger.ops g.L.Ledger.wides l.fn.ledger l.ledger;
    }
