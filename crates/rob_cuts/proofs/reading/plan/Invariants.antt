use Rattle.std.specs.Prelude.{◌≡◌, map}
use Rattle.rob_counterpart.specs.ReadNumbers.{differences}
use Rattle.rob_simplex.specs.Solutions.{point_of}
use Rattle.rob_cuts.proofs.reading.plan.Given as goal

-- the columns so far
abbrev pub invariant-loop-j : goal.invariant-loop-j
invariant-loop-j g l = map g.N.Exact.value l.columns ≡ differences l.j (point_of l.solver)
