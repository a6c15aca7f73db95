use Rattle.std.proofs.Common.{◌++◌, ap, ◌∙◌}
use Rattle.rob_case.proofs.StepLemmas.{one_more_line}
use Rattle.rob_case.proofs.bytes.number.Goals as goal

pub loop-i-preserved : goal.loop-i-preserved
loop-i-preserved c =
    c.in_ok-extend_from_slice.ensures.items
    ∙ ap (λ more. c.loop-i.bytes.items ++ more) (c.as_bytes.ensures.value ∙ c.in_ok-line.ensures.ok)
    ∙ one_more_line c.args.bytes.now.items c.loop-i.bytes.items c.loop-i.i-counter c.args.front.now
    c.args.back.now c.loop-i.invariant
