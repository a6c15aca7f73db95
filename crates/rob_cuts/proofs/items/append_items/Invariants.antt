use Rattle.std.specs.Prelude.{◌≡◌, ◌++◌, map}
use Rattle.rob_meaning.specs.Places.{at}
use Rattle.rob_cert.specs.View.{item_of}
use Rattle.rob_runs.specs.Readings.{of_form}
use Rattle.rob_cuts.specs.Items.{weighted_cuts}
use Rattle.rob_cuts.specs.Rounds.{cuts_told}
use Rattle.rob_cuts.proofs.items.append_items.Given as goal

-- the items of the rounds so far
abbrev pub invariant-loop-q : goal.invariant-loop-q
invariant-loop-q g l =
    map (item_of g.N.Exact.value) l.all
    ≡ map (item_of g.N.Exact.value) l.fn.all
    ++ of_form l.form (weighted_cuts (cuts_told l.rounds) (at (map g.N.Exact.value l.weights)) l.q)
