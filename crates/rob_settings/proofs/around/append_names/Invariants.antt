use Rattle.std.proofs.Common.{◌≡◌, ◌++◌, drop}
use Rattle.rob_settings.proofs.around.append_names.Given as goal

abbrev pub invariant-loop-name : goal.invariant-loop-name
invariant-loop-name l = l.list ++ drop l.name-index l.names ≡ l.fn.list ++ l.names
