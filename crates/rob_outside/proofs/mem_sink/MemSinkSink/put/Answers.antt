use Rattle.std.proofs.Common.{ap}
use Rattle.rob_outside.specs.MemSink.{SinkState}
use Rattle.rob_outside.proofs.TakenLemmas.{took_first}
use Rattle.rob_outside.proofs.mem_sink.MemSinkSink.put.Goals as goal

pub returns-clause-took : goal.returns-clause-took
returns-clause-took c =
    let held = ap (λ (sink : SinkState). sink.bytes) c.self.view_is in
    took_first c.min.result _ _ _ c.args.piece.now held c.append.ensures.appended
