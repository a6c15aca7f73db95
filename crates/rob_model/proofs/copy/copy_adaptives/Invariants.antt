use Rattle.std.proofs.Common.{◌≡◌, ◌++◌, drop}
use Rattle.rob_model.proofs.copy.copy_adaptives.Given as goal

abbrev pub invariant-loop-adaptive : goal.invariant-loop-adaptive
invariant-loop-adaptive g l = l.copy ++ drop l.adaptive-index l.adaptives ≡ l.adaptives
