use Rattle.rob_cert.specs.View.{certificate_of}
use Rattle.rob_model.specs.View.{robust}
use Rattle.rob_top.proofs.Meaning.CheckingLemmas.{certificate_answers, rule_answers}
use Rattle.rob_top.proofs.checking.check_text.Goals as goal

pub check_cert-requires-clause-shape : goal.check_cert-requires-clause-shape
check_cert-requires-clause-shape g c = c.in-Ok.ensures.read.shape

pub returns-in-Ok-clause-answers : goal.returns-in-Ok-clause-answers
returns-in-Ok-clause-answers g c =
    certificate_answers g.N.Exact.limit (robust g.N.Exact.value c.args.model.now) _ _ _ c.args.text.now
    (certificate_of g.N.Exact.value c.in-Ok.cert) c.check_cert.result c.read_cert.ensures.counted.wides
    c.in-Ok.ensures.read c.in-Ok.ensures.fits c.check_cert.ensures.answers

pub returns-in-Err-Rule-clause-answers : goal.returns-in-Err-Rule-clause-answers
returns-in-Err-Rule-clause-answers g c =
    rule_answers g.N.Exact.limit (robust g.N.Exact.value c.args.model.now) _ c.args.text.now c.in-Err-Rule.rule
    c.in-Err-Rule.number c.certificate_rule.result (rw c.in-Err-Rule.field-0-is at c.in-Err-Rule.ensures.fault)
    c.certificate_rule.ensures.fault
