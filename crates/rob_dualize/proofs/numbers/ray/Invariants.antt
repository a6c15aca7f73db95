use Rattle.std.specs.Prelude.{◌≡◌, map}
use Rattle.rob_meaning.specs.Places.{tabulate}
use Rattle.rob_simplex.specs.Solutions.{ray_of}
use Rattle.rob_dualize.proofs.numbers.ray.Given as goal

-- the numbers so far
abbrev pub invariant-loop-j : goal.invariant-loop-j
invariant-loop-j g l = map g.N.Exact.value l.numbers ≡ tabulate l.j (ray_of l.solver)
