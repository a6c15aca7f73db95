use Rattle.rob_cert.specs.View.{certificate_of}
use Rattle.rob_model.specs.View.{robust}
use Rattle.rob_top.proofs.Meaning.ReplayingLemmas.{read_answers, unread_answers}
use Rattle.rob_top.proofs.replaying.replay_text.Goals as goal

pub returns-in-Ok-clause-answers : goal.returns-in-Ok-clause-answers
returns-in-Ok-clause-answers g c =
    read_answers g.N.Exact.limit (robust g.N.Exact.value c.args.model.now) (g.L.Ledger.wides c.args.ledger.now)
    (g.L.Ledger.wides c.read_cert.new.ledger)
    (g.L.Ledger.wides c.replay_cert.new.ledger) c.args.certificate.now c.args.text.now
    (certificate_of g.N.Exact.value c.in-Ok.cert) c.replay_cert.result c.read_cert.ensures.counted.wides
    c.in-Ok.ensures.read c.in-Ok.ensures.fits c.replay_cert.ensures.answers

pub returns-in-Err-Rule-clause-answers : goal.returns-in-Err-Rule-clause-answers
returns-in-Err-Rule-clause-answers g c =
    unread_answers g.N.Exact.limit (robust g.N.Exact.value c.args.model.now) _ c.args.certificate.now c.args.text.now
    c.in-Err-Rule.rule c.in-Err-Rule.number c.certificate_rule.result
    (rw c.in-Err-Rule.field-0-is at c.in-Err-Rule.ensures.fault) c.certificate_rule.ensures.fault
