-- What was read of a call's files is one thing: the model is well formed and named, and the text of a certificate is
-- that of one, or breaks one rule first.
use Rattle.std.proofs.Common.{◌≡◌, ℕ, ◌-◌, ◌^◌, ◌≤◌, List, sym, ◌∙◌, ap, subst}
use Rattle.rob_cert.specs.Apart.{IsNamedInWords}
use Rattle.rob_cert.specs.Whole.{IsTextOf}
use Rattle.rob_cert.proofs.OneText.OneBreach.{one_cause}
use Rattle.rob_cert.proofs.OneText.OneCertificate.{read_once}
use Rattle.rob_cert.proofs.OneText.SpellingLaws.{breaks_none}
use Rattle.rob_meaning.specs.Certificates.{Certificate, infeasible}
use Rattle.rob_meaning.specs.Named.{IsNamed}
use Rattle.rob_meaning.specs.RobustModel.{RobustModel}
use Rattle.rob_meaning.specs.WellFormed.{IsModel}
use Rattle.rob_number.specs.Lowest.{limit_high, limit_low}
use Rattle.rob_parse.proofs.Building.PlacedLemmas.{well_formed}
use Rattle.rob_parse.proofs.Names.WellNamed.{well_named, well_spelled}
use Rattle.rob_top.proofs.Telling.CertificateNameLemmas.{named_in_words}
use Rattle.rob_top.proofs.Meaning.SoughtLemmas.{file_model}
use Rattle.rob_top.proofs.Origins.ProgressLemmas.{file_once}
use Rattle.rob_top.proofs.Meaning.WorkLemmas.{limit_is}
use Rattle.rob_top.specs.Calls.{Call, Known, limit_of}
use Rattle.rob_top.specs.Inputs.{BreaksCertificate, HasCertificate, HasCertificateFile, HasModel, HasPlan, LacksPlan, planless, unread}
use Rattle.rob_words.specs.Commands.{Line}
use Rattle.rob_words.specs.Values.{bits_of}
use Rattle.rob_words.specs.declared.verb.Own.TheVariants as own
use Rattle.rob_words.specs.declared.verb.Verb.{Verb}

-- ---- the model
module _ (call : Call) (line : Line) (m : RobustModel) where
  least : 1 ≤ limit_of line
  least = subst (λ (l : ℕ). 1 ≤ l) (limit_is line.width) (limit_low (bits_of line.width))

  pub most : limit_of line ≤ 2 ^ 62 - 1
  most = subst (λ (l : ℕ). l ≤ 2 ^ 62 - 1) (limit_is line.width) (limit_high (bits_of line.width))

  pub well : HasModel call line m → IsModel m
  well has = well_formed (limit_of line) has.bytes m has.reads least

  pub named : HasModel call line m → IsNamed m
  named has = well_named (limit_of line) has.bytes m has.reads

  pub in_words : HasModel call line m → IsNamedInWords m
  in_words has = named_in_words m (well_spelled (limit_of line) has.bytes m has.reads)

-- ---- a certificate among the files of a command
module _ (call : Call) (known : Known call.source) (line : Line) (m : RobustModel) where
  module _ (verb : Verb) where
    same_file : (bytes other : List ℕ) → HasCertificateFile call verb line m bytes
        → HasCertificateFile call verb line m other → bytes ≡ other
    same_file bytes other h k = file_once call line own.Certificate bytes other known h.file k.file

    -- its text breaks no rule
    pub no_breach : (c : Certificate) (bytes : List ℕ) (rule number : ℕ) → HasCertificate call verb line m c
        → HasCertificateFile call verb line m bytes
        → BreaksCertificate (limit_of line) m bytes rule number → ⊥
    no_breach c bytes rule number h file breach =
        let same : bytes ≡ h.bytes = same_file bytes h.bytes file h.file in
        let has : HasModel call line m = file_model call line m verb h.bytes h.file in
        breaks_none m (limit_of line) c bytes (well call line m has) (named call line m has)
        (in_words call line m has) (most call line m)
        (subst (λ (b : List ℕ). IsTextOf m c b) (sym same) h.text) h.fits rule number breach

    -- and is that of one certificate
    pub one_certificate : (c d : Certificate) → HasCertificate call verb line m c → HasCertificate call verb line m d
        → c ≡ d
    one_certificate c d h k =
        let same : h.bytes ≡ k.bytes = same_file h.bytes k.bytes h.file k.file in
        let has : HasModel call line m = file_model call line m verb h.bytes h.file in
        read_once m (limit_of line) c d k.bytes (well call line m has) (named call line m has)
        (in_words call line m has) (most call line m)
        (subst (λ (b : List ℕ). IsTextOf m c b) same h.text) k.text h.fits k.fits

    -- a text breaks one rule first
    pub one_breach : (bytes other : List ℕ) (rule number r n : ℕ) → HasCertificateFile call verb line m bytes
        → HasCertificateFile call verb line m other → BreaksCertificate (limit_of line) m bytes rule number
        → BreaksCertificate (limit_of line) m other r n → (r ≡ rule) × (n ≡ number)
    one_breach bytes other rule number r n file k breach b =
        let here : BreaksCertificate (limit_of line) m bytes r n =
        subst (λ (list : List ℕ). BreaksCertificate (limit_of line) m list r n) (same_file other bytes k file) b
        in
        let has : HasModel call line m = file_model call line m verb bytes file in
        one_cause m (limit_of line) bytes (well call line m has) (named call line m has) (in_words call line m has)
        (most call line m) r n rule number here breach

    -- a certificate with a plan and one without are two
    planned : (c d : Certificate) → HasPlan call verb line m c → HasCertificate call verb line m d
        → d.status ≡ infeasible → ⊥
    planned c d h k is = h.has_plan (ap (λ (x : Certificate). x.status) (one_certificate c d h.certificate k) ∙ is)

    pub some_plan : (rule number : ℕ) (c : Certificate) → LacksPlan call verb line m rule number
        → HasPlan call verb line m c → ⊥
    some_plan rule number c (unread list file breach) h = no_breach c list rule number h.certificate file breach
    some_plan rule number c (planless d k is r n) h = planned c d h k is

    -- why there is no plan is one rule at one line
    pub one_lack : (rule number r n : ℕ) → LacksPlan call verb line m rule number → LacksPlan call verb line m r n
        → (r ≡ rule) × (n ≡ number)
    one_lack rule number r n (unread bytes file breach) (unread other k b) =
        one_breach bytes other rule number r n file k breach b
    one_lack rule number r n (unread bytes file breach) (planless d k is e f) =
        absurd (no_breach d bytes rule number k file breach)
    one_lack rule number r n (planless c h is e f) (unread other k b) = absurd (no_breach c other r n h k b)
    one_lack rule number r n (planless c h is e f) (planless d k also g i) = (g ∙ sym e, i ∙ sym f)
