use Rattle.std.proofs.Common.{◌≡◌, ◌++◌, map, drop}
use Rattle.rob_meaning.specs.RobustModel.{in_set}
use Rattle.rob_model.specs.View.{parameter_of}
use Rattle.rob_cells.proofs.copies.append_params_in.Given as goal

-- the parameters so far, and those that are left
abbrev pub invariant-loop-param : goal.invariant-loop-param
invariant-loop-param g l =
    let view = parameter_of g.N.Exact.value in
    map view l.list ++ map (in_set l.set) (map view (drop l.param-index l.params))
    ≡ map view l.fn.list ++ map (in_set l.set) (map view l.params)
