use Rattle.rob_cert.specs.View.{certificate_of}
use Rattle.rob_model.specs.View.{robust}
use Rattle.rob_top.proofs.Meaning.SearchingLemmas.{misread_answers, read_answers}
use Rattle.rob_top.proofs.searching.search_text.Goals as goal

pub returns-in-Ok-clause-answers : goal.returns-in-Ok-clause-answers
returns-in-Ok-clause-answers g c =
    read_answers g.N.Exact.limit (robust g.N.Exact.value c.args.model.now) c.args.name.now _ _ _ c.args.certificate.now
    (certificate_of g.N.Exact.value c.in-Ok.cert) c.search_cert.result c.read_cert.ensures.counted.wides
    c.in-Ok.ensures.read c.in-Ok.ensures.fits c.search_cert.ensures.answers

pub returns-in-Err-Rule-clause-answers : goal.returns-in-Err-Rule-clause-answers
returns-in-Err-Rule-clause-answers g c =
    misread_answers g.N.Exact.limit (robust g.N.Exact.value c.args.model.now) c.args.name.now _ c.args.certificate.now
    c.in-Err-Rule.rule c.in-Err-Rule.number c.certificate_rule.result
    (rw c.in-Err-Rule.field-0-is at c.in-Err-Rule.ensures.fault) c.certificate_rule.ensures.fault
