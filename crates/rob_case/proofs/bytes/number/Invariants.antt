use Rattle.std.proofs.Common.{◌≡◌, ◌++◌}
use Rattle.rob_case.specs.Texts.{all_numbered}
use Rattle.rob_case.proofs.bytes.number.Given as goal

abbrev pub invariant-loop-i : goal.invariant-loop-i
invariant-loop-i l = l.bytes.items ≡ l.initial.bytes.items ++ all_numbered l.i-counter l.front l.back
