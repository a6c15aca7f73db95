use Rattle.std.proofs.Common.{◌∙◌}
use Rattle.rob_case.proofs.StepLemmas.{one_more_piece}
use Rattle.rob_case.proofs.bytes.repeat.Goals as goal

pub loop-preserved : goal.loop-preserved
loop-preserved c =
    c.in_ok-extend_from_slice.ensures.items
    ∙ one_more_piece c.args.bytes.now.items c.loop.bytes.items c.args.piece.now c.loop.counter c.loop.invariant
