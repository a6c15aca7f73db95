use Rattle.std.proofs.Common.{subst}
use Rattle.rob_cert.specs.View.{certificate_of}
use Rattle.rob_dualize.specs.Models.{HasModelCause, RoseIfStopped}
use Rattle.rob_model.specs.View.{robust}
use Rattle.rob_sweep.proofs.AnswerLemmas.{proved_answer, shown_names}
use Rattle.rob_sweep.specs.View.{answer_of}
use Rattle.rob_sweep.proofs.solve.answer.Goals as goal

pub returns-in-Ok-clause-answers : goal.returns-in-Ok-clause-answers
returns-in-Ok-clause-answers g c =
    let value = g.N.Exact.value in
    proved_answer (robust value c.args.model.now) (certificate_of value c.in-Ok.cert)
    (answer_of value c.claimed.result) c.claimed.ensures.claim
    c.requires.valid.well_formed c.in-Ok.ensures.solved.proves

pub returns-in-Err-EmptySet-clause-written : goal.returns-in-Err-EmptySet-clause-written
returns-in-Err-EmptySet-clause-written g c =
    (subst (HasModelCause g.N.Exact.limit (robust g.N.Exact.value c.args.model.now)) c.in-Err-EmptySet.field-0-is
    c.in-Err-EmptySet.ensures.cause).0

pub returns-in-Err-EmptySet-clause-answers : goal.returns-in-Err-EmptySet-clause-answers
returns-in-Err-EmptySet-clause-answers g c =
    let cause =
    subst (HasModelCause g.N.Exact.limit (robust g.N.Exact.value c.args.model.now)) c.in-Err-EmptySet.field-0-is
    c.in-Err-EmptySet.ensures.cause in
    cause.1.shown.empty

pub returns-in-Err-EmptySet-clause-empty : goal.returns-in-Err-EmptySet-clause-empty
returns-in-Err-EmptySet-clause-empty g c =
    let m = robust g.N.Exact.value c.args.model.now in
    shown_names m _
    (subst (HasModelCause g.N.Exact.limit m) c.in-Err-EmptySet.field-0-is c.in-Err-EmptySet.ensures.cause).1.shown

pub returns-in-Err-Wide-clause-cause : goal.returns-in-Err-Wide-clause-cause
returns-in-Err-Wide-clause-cause g c =
    (subst (HasModelCause g.N.Exact.limit (robust g.N.Exact.value c.args.model.now)) c.in-Err-Wide.field-0-is
    c.in-Err-Wide.ensures.cause).0

pub returns-in-Err-Wide-clause-rose : goal.returns-in-Err-Wide-clause-rose
returns-in-Err-Wide-clause-rose g c =
    subst (RoseIfStopped (g.L.Ledger.wides c.args.ledger.now) (g.L.Ledger.wides c.solve_model.new.ledger))
    c.in-Err-Wide.field-0-is
    c.in-Err-Wide.ensures.counted.refused
