use Rattle.rob_meaning.proofs.Lists.TabulateLemmas.{item_more}
use Rattle.rob_dualize.specs.Wholes.{cost_of}
use Rattle.rob_dualize.proofs.EntryLemmas.{seen_same}
use Rattle.rob_cuts.proofs.NumberLemmas.{costs_within}
use Rattle.rob_cuts.proofs.master.without_cuts.Goals as goal

pub loop-k-preserved : goal.loop-k-preserved
loop-k-preserved c =
    item_more (cost_of c.args.forms.now) c.loop-k.c _ c.loop-k.k c.in_ok-push.ensures.appended
    (seen_same c.cost_number.result (cost_of c.args.forms.now c.loop-k.k) c.cost_number.ensures.number
    c.cost_number.ensures.small) c.loop-k.invariant

pub returns-clause-within : goal.returns-clause-within
returns-clause-within c = λ limit one.
    costs_within limit one c.args.forms.now c.loop-k.k c.new-a.result c.new-b.result c.loop-k.c c.new-a.ensures.empty
    c.new-b.ensures.empty c.loop-k.invariant
