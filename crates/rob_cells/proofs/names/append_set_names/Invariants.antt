use Rattle.std.proofs.Common.{◌≡◌, ◌++◌, map, suc}
use Rattle.std.specs.Prelude.{codes}
use Rattle.rob_meaning.specs.Places.{tabulate}
use Rattle.rob_pieces.specs.SplitModel.{numbered}
use Rattle.rob_cells.proofs.names.append_set_names.Given as goal

-- the names of the cells so far
abbrev pub invariant-loop-i : goal.invariant-loop-i
invariant-loop-i l =
    l.names ≡ l.fn.names ++ map (numbered (codes "cell")) (tabulate l.i suc)
