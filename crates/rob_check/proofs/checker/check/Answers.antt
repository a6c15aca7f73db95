use Rattle.std.proofs.Common.{◌≡◌, subst, sym}
use Rattle.rob_cert.specs.View.{certificate_of}
use Rattle.rob_meaning.specs.Certificates.{optimal}
use Rattle.rob_meaning.specs.Proves.{HasStatus, IsTight, Proves}
use Rattle.rob_model.specs.View.{robust}
use Rattle.rob_check.specs.Verdicts.{Judges, OnAccepted}
use Rattle.rob_check.specs.declared.verdict.Verdict.{Verdict}
use Rattle.rob_check.proofs.ProofLaws.{proves_judged, accepted_true, accepted_tight}
use Rattle.rob_check.proofs.checker.check.Goals as goal

pub check_all-requires : goal.check_all-requires
check_all-requires g c = record {
  given = record { valid = c.requires.valid; elaborated = c.requires.elaborated; shape = c.requires.shape };
}

pub returns-clause-proves : goal.returns-clause-proves
returns-clause-proves g c =
    let value = g.N.Exact.value in
    let m = robust value c.args.model.now in
    let cert = certificate_of value c.args.cert.now in
    subst (Judges (Proves m cert)) (sym c.check_all.ensures.exact)
    (proves_judged g.N.Exact.limit m c.requires.valid.well_formed cert c.requires.shape)

pub returns-clause-true_of : goal.returns-clause-true_of
returns-clause-true_of g c =
    let value = g.N.Exact.value in
    let m = robust value c.args.model.now in
    let cert = certificate_of value c.args.cert.now in
    subst (λ (v : Verdict). OnAccepted v (HasStatus m cert.status cert.value)) (sym c.check_all.ensures.exact)
    (accepted_true g.N.Exact.limit m c.requires.valid.well_formed cert c.requires.shape)

pub returns-clause-tight : goal.returns-clause-tight
returns-clause-tight g c =
    let value = g.N.Exact.value in
    let m = robust value c.args.model.now in
    let cert = certificate_of value c.args.cert.now in
    subst (λ (v : Verdict). OnAccepted v (cert.status ≡ optimal → IsTight m cert)) (sym c.check_all.ensures.exact)
    (accepted_tight g.N.Exact.limit m c.requires.valid.well_formed cert c.requires.shape)
