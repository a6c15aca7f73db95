use Rattle.rob_cert.specs.View.{certificate_of}
use Rattle.rob_model.specs.View.{robust}
use Rattle.rob_top.proofs.Meaning.CheckingLemmas.{accepted_answers, rejected_answers, rejected_place, too_wide_answers, too_wide_place}
use Rattle.rob_top.proofs.checking.check_cert.Goals as goal

pub check-requires-clause-elaborated : goal.check-requires-clause-elaborated
check-requires-clause-elaborated g c = c.requires.elaborated

pub rejected-requires-clause-named : goal.rejected-requires-clause-named
rejected-requires-clause-named g c =
    rejected_place g.N.Exact.limit (robust g.N.Exact.value c.args.model.now)
    (certificate_of g.N.Exact.value c.args.cert.now) c.check.result c.in-Rejected.place c.requires.shape
    c.check.ensures.exact c.in-Rejected.is

pub too_wide-requires-clause-named : goal.too_wide-requires-clause-named
too_wide-requires-clause-named g c =
    too_wide_place g.N.Exact.limit (robust g.N.Exact.value c.args.model.now)
    (certificate_of g.N.Exact.value c.args.cert.now) c.check.result c.in-TooWide.place c.requires.shape
    c.check.ensures.exact c.in-TooWide.is

pub returns-in-Accepted-clause-answers : goal.returns-in-Accepted-clause-answers
returns-in-Accepted-clause-answers g c =
    accepted_answers g.N.Exact.limit (robust g.N.Exact.value c.args.model.now)
    (certificate_of g.N.Exact.value c.args.cert.now) c.check.result c.check.ensures.exact _ c.accepted.result
    c.in-Accepted.is c.check.ensures.proves c.check.ensures.true_of c.accepted.ensures.accepted

pub returns-in-Rejected-clause-answers : goal.returns-in-Rejected-clause-answers
returns-in-Rejected-clause-answers g c =
    rejected_answers g.N.Exact.limit (robust g.N.Exact.value c.args.model.now)
    (certificate_of g.N.Exact.value c.args.cert.now) c.check.result c.check.ensures.exact _ c.in-Rejected.place
    c.rejected.result c.in-Rejected.is c.check.ensures.proves c.rejected.ensures.rejected

pub returns-in-TooWide-clause-answers : goal.returns-in-TooWide-clause-answers
returns-in-TooWide-clause-answers g c =
    too_wide_answers g.N.Exact.limit (robust g.N.Exact.value c.args.model.now)
    (certificate_of g.N.Exact.value c.args.cert.now) c.check.result c.check.ensures.exact
    (g.L.Ledger.wides c.args.ledger.now) (g.L.Ledger.wides c.check.new.ledger) c.in-TooWide.place c.too_wide.result
    c.in-TooWide.is c.check.ensures.counted.rose c.too_wide.ensures.spot
