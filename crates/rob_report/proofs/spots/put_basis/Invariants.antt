use Rattle.std.proofs.Common.{◌≡◌, ◌++◌, drop}
use Rattle.rob_report.specs.Spots.{basis_words}
use Rattle.rob_report.proofs.spots.put_basis.Given as goal

abbrev pub invariant-loop-column : goal.invariant-loop-column
invariant-loop-column l = l.out ++ basis_words (drop l.column-index l.basis) ≡ l.fn.out ++ basis_words l.basis
