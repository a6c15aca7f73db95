use Rattle.std.proofs.Common.{drop}
use Rattle.rob_cells.proofs.NameLemmas.{AreShort}
use Rattle.rob_cells.proofs.names.are_short.Given as goal

-- where those that are left are short, all are
abbrev pub invariant-loop-name : goal.invariant-loop-name
invariant-loop-name l =
    AreShort (drop l.name-index l.names) → AreShort l.names
