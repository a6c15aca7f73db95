use Rattle.std.proofs.Common.{◌≡◌, ◌++◌, map, drop, ℕ, List}
use Rattle.rob_model.specs.declared.model.Var.{Var}
use Rattle.rob_cells.proofs.names.append_var_names.Given as goal

-- the names so far, and those of the variables that are left
abbrev pub invariant-loop-var : goal.invariant-loop-var
invariant-loop-var g l =
    let name : Var g.row.N.Denot → List ℕ = λ x. x.name in
    l.names ++ map name (drop l.var-index l.vars) ≡ l.fn.names ++ map name l.vars
