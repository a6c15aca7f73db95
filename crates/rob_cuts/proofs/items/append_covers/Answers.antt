use Rattle.std.proofs.Common.{map, ap, sym, arith}
use Rattle.rob_cert.specs.View.{cover_of}
use Rattle.rob_dualize.proofs.ReadingLemmas.{told_is}
use Rattle.rob_cuts.specs.Items.{cover_of_amount}
use Rattle.rob_cuts.proofs.ItemLemmas.{covers_more}
use Rattle.rob_cuts.proofs.items.append_covers.Goals as goal

pub loop-r-preserved : goal.loop-r-preserved
loop-r-preserved g c =
    let value = g.N.Exact.value in
    covers_more (map (cover_of g.N.Exact.value) c.args.covers.now) (map (cover_of g.N.Exact.value) c.loop-r.covers)
    (map (cover_of g.N.Exact.value) c.append_cover.new.covers)
    (cover_of_amount c.args.form (map g.N.Exact.value c.args.amounts.now)) c.loop-r.r _ c.loop-r.invariant
    c.in_ok-append_cover.ensures.covers
    (ap (λ a. record { form = c.args.form; set_row = c.loop-r.r; amount = a })
    (sym (told_is value c.args.amounts.now c.loop-r.r c.index-amounts-r.result (omega (arith, c.loop-r-test.true))
    c.index-amounts-r.is)))
