-- The answers of `check`.
use Rattle.std.specs.Prelude.{◌≡◌, ℕ, List}
use Rattle.rob_check.specs.Conditions.{verdict_of}
use Rattle.rob_check.specs.declared.verdict.Verdict.TheVariants as verdict
use Rattle.rob_meaning.specs.Certificates.{Certificate}
use Rattle.rob_meaning.specs.Proves.{Proves, HasStatus}
use Rattle.rob_meaning.specs.RobustModel.{RobustModel}
use Rattle.rob_model.specs.declared.place.Place.{Place}
use Rattle.rob_report.specs.Spots.{rejected_line}
use Rattle.rob_commands.specs.Answers.{accepted_text}
use Rattle.rob_top.specs.Calls.{Call, limit_of}
use Rattle.rob_top.specs.Inputs.{HasCertificate}
use Rattle.rob_words.specs.Commands.{Line}
use Rattle.rob_words.specs.declared.verb.Verb.TheVariants as verbs

module _ (call : Call) where
  -- accepted: each condition holds and no number on the way is wide; so the certificate proves, and the model is as
  -- it says
  pub record IsCertificateAccepted (text : List ℕ) : Type 0 where
    pub line : Line
    pub m : RobustModel
    pub c : Certificate
    pub read : HasCertificate call verbs.Check line m c
    pub verdict : verdict_of (limit_of line) m c ≡ verdict.Accepted
    pub proves : Proves m c
    pub holds : HasStatus m c.status c.value
    pub printed : text ≡ accepted_text c

  -- rejected: this condition is the first that fails, and no number before it is wide; so the certificate doesn't prove
  pub record IsCertificateRejected (place : Place) (text : List ℕ) : Type 0 where
    pub line : Line
    pub m : RobustModel
    pub c : Certificate
    pub read : HasCertificate call verbs.Check line m c
    pub verdict : verdict_of (limit_of line) m c ≡ verdict.Rejected place
    pub proves_not : Proves m c → ⊥
    pub printed : text ≡ rejected_line m place
