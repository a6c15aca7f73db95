use Rattle.std.proofs.Common.{◌≡◌, ◌++◌, drop, map}
use Rattle.rob_parse.specs.Written.{parameter_at}
use Rattle.rob_parse.proofs.parts.parameters_at.Given as goal

abbrev pub invariant-loop-name : goal.invariant-loop-name
invariant-loop-name l =
    l.list ++ map (parameter_at l.sorts) (drop l.name-index l.names) ≡ map (parameter_at l.sorts) l.names
