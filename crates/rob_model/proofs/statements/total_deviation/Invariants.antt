use Rattle.std.proofs.Common.{◌≡◌, map, drop}
use Rattle.rob_number.specs.Counts.{NeverFell}
use Rattle.rob_algebra.specs.Fraction.{◌<ℚ◌}
use Rattle.rob_meaning.specs.Places.{0ℚ, Each}
use Rattle.rob_meaning.specs.RobustModel.{RobustModel}
use Rattle.rob_model.specs.declared.model.Member.{Member}
use Rattle.rob_model.proofs.ConditionLemmas.{total_left}
use Rattle.rob_model.proofs.statements.total_deviation.Given as goal

-- the sum so far, with the members that are left, gives what all give
abbrev pub invariant-loop-member : goal.invariant-loop-member
invariant-loop-member g l =
    let value = g.N.Exact.value in
    let left = λ (m : RobustModel). total_left g.N.Exact.limit m (value l.base) (map value l.vector) value l.members in
    record {
      rest : (m : RobustModel) → left m l.member-index (value l.sum) ≡ left m 0 0ℚ;
      positive : Each (λ (h : Member g.row.N.Denot). 0ℚ <ℚ value h.deviation) (drop l.member-index l.members);
      counted : NeverFell g.L.Ledger.ops g.L.Ledger.wides l.fn.ledger l.ledger;
    }
