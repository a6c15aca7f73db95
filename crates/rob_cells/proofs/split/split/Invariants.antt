use Rattle.std.proofs.Common.{◌≡◌, map, suc}
use Rattle.rob_cells.specs.Building.{split_over}
use Rattle.rob_cells.specs.View.{cut_of}
use Rattle.rob_meaning.specs.Places.{tabulate}
use Rattle.rob_model.specs.View.{robust}
use Rattle.rob_cells.proofs.split.split.Given as goal

-- the split model with the cells so far
abbrev pub invariant-loop-i : goal.invariant-loop-i
invariant-loop-i g l =
    let value = g.N.Exact.value in
    robust value l.split ≡ split_over (robust value l.model) (map (cut_of value) l.cuts) (tabulate l.i suc)
