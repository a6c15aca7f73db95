use Rattle.std.proofs.Common.{◌≡◌, ◌++◌, drop}
use Rattle.rob_cells.proofs.copies.append_params.Given as goal

abbrev pub invariant-loop-param : goal.invariant-loop-param
invariant-loop-param g l = l.list ++ drop l.param-index l.params ≡ l.fn.list ++ l.params
