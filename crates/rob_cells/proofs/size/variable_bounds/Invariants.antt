use Rattle.std.proofs.Common.{◌≡◌, ◌≤◌, ◌+◌, ◌*◌, map, drop}
use Rattle.rob_meaning.specs.Sizes.{variable_bounds}
use Rattle.rob_model.specs.View.{variable_of}
use Rattle.rob_cells.proofs.size.variable_bounds.Given as goal

-- the bounds so far, and those of the variables that are left
abbrev pub invariant-loop-var : goal.invariant-loop-var
invariant-loop-var g l =
    let of = variable_of g.N.Exact.value in
    record {
      rest : l.count + variable_bounds (map of (drop l.var-index l.vars)) ≡ variable_bounds (map of l.vars);
      few : l.count ≤ 2 * l.var-index;
    }
