-- The terms that were there, and those of the places so far.
use Rattle.std.proofs.Common.{◌≡◌, suc, ◌++◌, map}
use Rattle.rob_meaning.specs.Places.{tabulate}
use Rattle.rob_model.specs.View.{signed_of}
use Rattle.rob_gen.specs.Generated.{added, stock}
use Rattle.rob_gen.proofs.expressions.add_stocks.Given as goal

abbrev pub invariant-loop-place : goal.invariant-loop-place
invariant-loop-place g l =
    map (signed_of g.N.Exact.value) l.terms ≡ map (signed_of g.N.Exact.value) l.fn.terms ++ tabulate l.place
    (λ place. added (stock (suc place)))
