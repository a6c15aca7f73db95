use Rattle.std.proofs.Common.{refl}
use Rattle.rob_cert.specs.View.{certificate_of, status_of}
use Rattle.rob_model.specs.View.{robust}
use Rattle.rob_check.specs.declared.verdict.Verdict.TheVariants as verdict
use Rattle.rob_branch.proofs.JudgingLemmas.{claimed_judged, has_verdict}
use Rattle.rob_branch.specs.Verdicts.{checking}
use Rattle.rob_branch.proofs.leaf.judge_written.Goals as goal

pub returns-in-TooWide-clause-judged : goal.returns-in-TooWide-clause-judged
returns-in-TooWide-clause-judged g c =
    let value = g.N.Exact.value in
    let place = c.in-TooWide.place in
    checking (certificate_of value c.args.cert.now) place refl
    (has_verdict g.N.Exact.limit (robust value c.args.model.now) (certificate_of value c.args.cert.now)
    (verdict.TooWide place) c.check.result c.requires.none_wide c.check.ensures.exact c.in-TooWide.is)
    refl

pub returns-in-Rejected-clause-judged : goal.returns-in-Rejected-clause-judged
returns-in-Rejected-clause-judged g c =
    has_verdict g.N.Exact.limit (robust g.N.Exact.value c.args.model.now)
    (certificate_of g.N.Exact.value c.args.cert.now) (verdict.Rejected c.in-Rejected.place) c.check.result
    c.requires.none_wide c.check.ensures.exact c.in-Rejected.is

pub returns-in-Accepted-clause-judged : goal.returns-in-Accepted-clause-judged
returns-in-Accepted-clause-judged g c =
    let value = g.N.Exact.value in
    claimed_judged g.N.Exact.limit (status_of c.args.claim.status) (value c.args.claim.value)
    (robust value c.args.model.now) (certificate_of value c.args.cert.now)
    (has_verdict g.N.Exact.limit (robust value c.args.model.now) (certificate_of value c.args.cert.now) verdict.Accepted
    c.check.result c.requires.none_wide c.check.ensures.exact c.in-Accepted.is)
    c.claimed.result c.claimed.ensures.claimed
