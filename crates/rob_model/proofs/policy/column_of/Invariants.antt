use Rattle.std.proofs.Common.{◌≡◌, length}
use Rattle.rob_meaning.specs.RobustModel.{column_from}
use Rattle.rob_model.specs.View.{robust}
use Rattle.rob_model.proofs.policy.column_of.Given as goal

-- the columns so far are those before this one's
abbrev pub invariant-loop-earlier : goal.invariant-loop-earlier
invariant-loop-earlier g l =
    let m = robust g.N.Exact.value l.model in
    l.column ≡ column_from (length m.variables) m.adaptives l.earlier-index
