use Rattle.rob_outside.proofs.WriteLemmas.{writes_more}
use Rattle.rob_outside.proofs.std_sink.write_whole.Goals as goal

pub loop-rest-preserved : goal.loop-rest-preserved
loop-rest-preserved g c =
    writes_more _ _ _ _ _ _ c.args.piece.now c.loop-rest.rest.now c.in-Ok.count
    c.loop-rest.invariant c.in-Ok.ensures.bytes c.note.ensures.noted
