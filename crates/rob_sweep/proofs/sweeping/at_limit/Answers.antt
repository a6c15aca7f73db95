use Rattle.std.proofs.Common.{refl, subst}
use Rattle.rob_dualize.specs.Models.{IsWideIn}
use Rattle.rob_reach.specs.Sweeps.{Answers}
use Rattle.rob_sweep.specs.Answering.{HasCause, NamesEmpty}
use Rattle.rob_sweep.specs.View.{answer_of}
use Rattle.rob_model.specs.View.{robust}
use Rattle.rob_sweep.proofs.sweeping.at_limit.Goals as goal
use Rattle.rob_elab.specs.Written.{IsWritten}

pub returns-in-Ok-clause-written : goal.returns-in-Ok-clause-written
returns-in-Ok-clause-written g c =
    subst (IsWritten g.N.Exact.limit) c.in_ok-changed.ensures.replaced c.in-Ok.ensures.written

pub returns-in-Ok-clause-answers : goal.returns-in-Ok-clause-answers
returns-in-Ok-clause-answers g c =
    subst (λ m. Answers m (answer_of g.N.Exact.value c.in-Ok.answer)) c.in_ok-changed.ensures.replaced
    c.in-Ok.ensures.answers

pub returns-in-Ok-clause-empty : goal.returns-in-Ok-clause-empty
returns-in-Ok-clause-empty g c =
    subst (λ m. NamesEmpty m (answer_of g.N.Exact.value c.in-Ok.answer)) c.in_ok-changed.ensures.replaced
    c.in-Ok.ensures.empty

pub returns-in-Err-Wide-clause-cause : goal.returns-in-Err-Wide-clause-cause
returns-in-Err-Wide-clause-cause g c =
    let cause =
    subst (λ error. HasCause g.N.Exact.limit (robust g.N.Exact.value c.in_ok-changed.changed) error)
    c.in-Err-Wide.field-0-is
    c.in-Err-Wide.ensures.cause in
    (refl, subst (λ m. IsWideIn g.N.Exact.limit m c.in-Err-Wide.spot) c.in_ok-changed.ensures.replaced cause)
