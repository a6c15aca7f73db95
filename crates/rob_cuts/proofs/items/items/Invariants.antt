use Rattle.std.specs.Prelude.{◌≡◌, map, length}
use Rattle.rob_meaning.specs.Places.{at}
use Rattle.rob_cert.specs.View.{item_of}
use Rattle.rob_runs.specs.Readings.{by_form}
use Rattle.rob_cuts.specs.Items.{weighted_cuts}
use Rattle.rob_cuts.specs.Rounds.{cuts_told}
use Rattle.rob_cuts.proofs.items.items.Given as goal

-- the items of the forms so far
abbrev pub invariant-loop-form : goal.invariant-loop-form
invariant-loop-form g l =
    map (item_of g.N.Exact.value) l.all
    ≡ by_form l.form (weighted_cuts (cuts_told l.rounds) (at (map g.N.Exact.value l.weights)) (length l.rounds))
