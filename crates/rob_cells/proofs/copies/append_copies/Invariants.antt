use Rattle.std.proofs.Common.{◌≡◌, ◌++◌, map, drop}
use Rattle.rob_meaning.specs.RobustModel.{RobustModel}
use Rattle.rob_model.specs.View.{adaptive_of}
use Rattle.rob_pieces.specs.SplitModel.{copy_in}
use Rattle.rob_cells.proofs.copies.append_copies.Given as goal

-- the copies so far, and those that are left
abbrev pub invariant-loop-adaptive : goal.invariant-loop-adaptive
invariant-loop-adaptive g l =
    let view = adaptive_of g.N.Exact.value in
    (m : RobustModel) → map view l.list ++ map (copy_in m l.c) (map view (drop l.adaptive-index l.adaptives))
    ≡ map view l.fn.list ++ map (copy_in m l.c) (map view l.adaptives)
