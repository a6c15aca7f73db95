use Rattle.std.specs.Prelude.{◌≡◌, map}
use Rattle.rob_cert.specs.View.{item_of}
use Rattle.rob_dualize.specs.Numbers.{told}
use Rattle.rob_counterpart.specs.ReadNumbers.{items_to}
use Rattle.rob_dualize.specs.Wholes.{wholes}
use Rattle.rob_dualize.proofs.reading.items.Given as goal

-- the items of the forms so far
abbrev pub invariant-loop-i : goal.invariant-loop-i
invariant-loop-i g l = map (item_of g.N.Exact.value) l.all ≡ items_to (wholes l.model.forms.now l.model.set.now) l.i
    (told g.N.Exact.value l.numbers)
