use Rattle.std.proofs.Common.{◌≡◌, ◌++◌, map, drop, ℕ, List}
use Rattle.rob_model.specs.declared.model.Param.{Param}
use Rattle.rob_cells.proofs.names.append_param_names.Given as goal

-- the names so far, and those of the parameters that are left
abbrev pub invariant-loop-param : goal.invariant-loop-param
invariant-loop-param g l =
    let name : Param g.row.N.Denot → List ℕ = λ p. p.name in
    l.names ++ map name (drop l.param-index l.params) ≡ l.fn.names ++ map name l.params
