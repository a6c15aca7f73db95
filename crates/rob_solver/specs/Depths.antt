-- What contracts see of a solver of either depth.
use Rattle.std.specs.Prelude.{ℕ, ◌-◌, ◌^◌}
use Rattle.rob_simplex.specs.Solvers.{Solver}
use Rattle.rob_solver.specs.declared.depth.Depth.{Depth}
use Rattle.rob_solver.specs.declared.depth.Depth.TheVariants.{Narrow, Deep}

-- what they see of the work inside
abbrev pub shown : {N : Type 0} → Depth N → Solver
shown (Narrow work) = work
shown (Deep work) = work

-- the limit of narrow rows
abbrev pub narrow_limit : ℕ
narrow_limit = 2 ^ 62 - 1

-- the limit of deep rows
abbrev pub deep_limit : ℕ
deep_limit = 2 ^ 126 - 1
