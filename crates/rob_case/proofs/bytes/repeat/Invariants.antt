use Rattle.std.proofs.Common.{◌≡◌, ◌++◌}
use Rattle.rob_case.specs.Texts.{repeated}
use Rattle.rob_case.proofs.bytes.repeat.Given as goal

abbrev pub invariant-loop : goal.invariant-loop
invariant-loop l = l.bytes.items ≡ l.initial.bytes.items ++ repeated l.counter l.piece
