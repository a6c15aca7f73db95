use Rattle.std.proofs.Common.{◌≡◌, ◌++◌, drop}
use Rattle.rob_model.proofs.copy.copy_params.Given as goal

abbrev pub invariant-loop-param : goal.invariant-loop-param
invariant-loop-param g l = l.copy ++ drop l.param-index l.params ≡ l.params
