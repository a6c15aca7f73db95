use Rattle.std.proofs.Common.{◌≡◌, ◌≤◌, ◌+◌, ◌*◌, length, map, drop}
use Rattle.rob_model.specs.GroupNames.{parameter_bound_names}
use Rattle.rob_model.specs.View.{parameter_of}
use Rattle.rob_model.proofs.bounds.bound_count.Given as goal

-- the bounds so far, and those of the parameters that are left, are all
abbrev pub invariant-loop-param : goal.invariant-loop-param
invariant-loop-param g l =
    record {
      rest : l.count + length (parameter_bound_names (map (parameter_of g.N.Exact.value) (drop l.param-index l.params)))
          ≡ length (parameter_bound_names (map (parameter_of g.N.Exact.value) l.params));
      small : l.count ≤ 2 * l.param-index;
    }
