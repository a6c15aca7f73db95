-- A text of a certificate is read as that certificate.
use Rattle.std.proofs.Common.{◌≡◌, ℕ, ◌-◌, ◌^◌, ◌≤◌, List, subst}
use Rattle.std.specs.Prelude.{Result, Ok, Err, IfOk, IfErr}
use Rattle.rob_algebra.specs.Fraction.{Fraction}
use Rattle.rob_meaning.specs.Certificates.{Certificate}
use Rattle.rob_meaning.specs.Named.{IsNamed}
use Rattle.rob_meaning.specs.RobustModel.{RobustModel}
use Rattle.rob_meaning.specs.WellFormed.{IsModel}
use Rattle.rob_cert.specs.Apart.{FitsLines, IsNamedInWords}
use Rattle.rob_cert.specs.Causes.{HasCause}
use Rattle.rob_cert.specs.declared.certificate.Cert.{Cert}
use Rattle.rob_cert.specs.declared.error.CertErr.{CertErr}
use Rattle.rob_cert.specs.declared.error.CertErr.TheVariants.{Rule, Memory}
use Rattle.rob_cert.specs.Reading.{start}
use Rattle.rob_cert.specs.Spelling.{Naming, naming_of}
use Rattle.rob_cert.specs.View.{certificate_of}
use Rattle.rob_cert.specs.Whole.{IsTextOf, Reads}
use Rattle.rob_cert.proofs.OneText.OneCertificate.{read_once}
use Rattle.rob_cert.proofs.OneText.SpellingLaws.{breaks_none}

module _ {N : Type 0} (value : N → Fraction) (m : RobustModel) (limit : ℕ) (text : List ℕ) (model : IsModel m)
    (named : IsNamed m) (low : limit ≤ 2 ^ 62 - 1) where
  pub reads_exactly : (names : Naming) (r : Result (Cert N) CertErr) → names ≡ naming_of m
      → IfOk r (λ x. IsTextOf m (certificate_of value x) text)
      → IfOk r (λ x. FitsLines limit m (certificate_of value x))
      → IfErr r (λ e. HasCause names limit start text 1 e) → (c : Certificate) → IsNamedInWords m → IsTextOf m c text
      → FitsLines limit m c → Reads value c r
  reads_exactly names (Ok x) e is fits fault c words it fit =
      read_once m limit (certificate_of value x) c text model named words low is it fits fit
  reads_exactly names (Err (Rule rule line)) e is fits fault c words it fit =
      breaks_none m limit c text model named words low it fit rule line
      (subst (λ n. HasCause n limit start text 1 (Rule rule line)) e fault)
  reads_exactly names (Err Memory) e is fits fault c words it fit = tt
