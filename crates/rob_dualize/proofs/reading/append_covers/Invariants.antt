use Rattle.std.specs.Prelude.{◌≡◌, ◌++◌, map}
use Rattle.rob_meaning.specs.Places.{tabulate}
use Rattle.rob_cert.specs.View.{cover_of}
use Rattle.rob_dualize.specs.Numbers.{told}
use Rattle.rob_counterpart.specs.ReadNumbers.{cover_at, covers_kept}
use Rattle.rob_dualize.specs.Wholes.{wholes}
use Rattle.rob_dualize.proofs.reading.append_covers.Given as goal

-- the covers of the set rows so far
abbrev pub invariant-loop-r : goal.invariant-loop-r
invariant-loop-r g l =
    map (cover_of g.N.Exact.value) l.all
    ≡ map (cover_of g.N.Exact.value) l.fn.all ++ covers_kept
    (tabulate l.r (cover_at (wholes l.model.forms.now l.model.set.now) (told g.N.Exact.value l.numbers) l.i))
