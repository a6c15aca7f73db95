use Rattle.std.proofs.Common.{map, arith}
use Rattle.rob_cert.specs.View.{item_of}
use Rattle.rob_meaning.specs.Places.{at}
use Rattle.rob_dualize.proofs.ReadingLemmas.{told_is}
use Rattle.rob_cuts.specs.Rounds.{cuts_told}
use Rattle.rob_cuts.proofs.ItemLemmas.{items_more, item_at}
use Rattle.rob_cuts.proofs.items.append_items.Goals as goal

pub loop-q-preserved : goal.loop-q-preserved
loop-q-preserved g c =
    let value = g.N.Exact.value in
    items_more c.args.form (cuts_told c.args.rounds.now) (at (map g.N.Exact.value c.args.weights.now))
    (map (item_of g.N.Exact.value) c.args.all.now)
    (map (item_of g.N.Exact.value) c.loop-q.all) (map (item_of g.N.Exact.value) c.append_item.new.all) c.loop-q.q _
    c.loop-q.invariant c.in_ok-append_item.ensures.items
    (item_at c.args.rounds.now (at (map g.N.Exact.value c.args.weights.now)) c.loop-q.q c.index-rounds-q.result
    (value c.index-weights-q.result)
    (omega (arith, c.loop-q-test.true)) c.index-rounds-q.is
    (told_is value c.args.weights.now c.loop-q.q c.index-weights-q.result
    (omega (arith, c.loop-q-test.true, c.requires.weights)) c.index-weights-q.is))
