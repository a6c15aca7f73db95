-- The rows so far.
use Rattle.std.proofs.Common.{◌≡◌, map}
use Rattle.rob_meaning.specs.Places.{tabulate}
use Rattle.rob_model.specs.View.{row_of}
use Rattle.rob_gen.specs.Generated.{need}
use Rattle.rob_gen.proofs.needs.needs.Given as goal

abbrev pub invariant-loop-place : goal.invariant-loop-place
invariant-loop-place g l = map (row_of g.N.Exact.value) l.list ≡ tabulate l.place need
