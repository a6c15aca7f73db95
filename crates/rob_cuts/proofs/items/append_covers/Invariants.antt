use Rattle.std.specs.Prelude.{◌≡◌, ◌++◌, map}
use Rattle.rob_meaning.specs.Places.{tabulate}
use Rattle.rob_cert.specs.View.{cover_of}
use Rattle.rob_counterpart.specs.ReadNumbers.{covers_kept}
use Rattle.rob_cuts.specs.Items.{cover_of_amount}
use Rattle.rob_cuts.proofs.items.append_covers.Given as goal

-- the covers of the set rows so far
abbrev pub invariant-loop-r : goal.invariant-loop-r
invariant-loop-r g l =
    map (cover_of g.N.Exact.value) l.covers
    ≡ map (cover_of g.N.Exact.value) l.fn.covers ++ covers_kept
    (tabulate l.r (cover_of_amount l.form (map g.N.Exact.value l.amounts)))
