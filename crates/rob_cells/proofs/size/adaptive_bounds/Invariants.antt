use Rattle.std.proofs.Common.{◌≡◌, ◌≤◌, ◌+◌, ◌*◌, map, drop}
use Rattle.rob_meaning.specs.Sizes.{adaptive_bounds}
use Rattle.rob_model.specs.View.{adaptive_of}
use Rattle.rob_cells.proofs.size.adaptive_bounds.Given as goal

-- the bounds so far, and those of the adaptive variables that are left
abbrev pub invariant-loop-adaptive : goal.invariant-loop-adaptive
invariant-loop-adaptive g l =
    let of = adaptive_of g.N.Exact.value in
    record {
      rest : l.count + adaptive_bounds (map of (drop l.adaptive-index l.adaptives))
          ≡ adaptive_bounds (map of l.adaptives);
      few : l.count ≤ 2 * l.adaptive-index;
    }
