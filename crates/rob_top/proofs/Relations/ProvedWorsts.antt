-- The text that `prove` printed, as `worst` takes it for the same model at the same width.
use Rattle.std.proofs.Common.{◌≡◌, ℕ, List, sym, ◌∙◌, ap, subst}
use Rattle.rob_meaning.specs.Certificates.{Certificate, Status}
use Rattle.rob_meaning.specs.RobustModel.{RobustModel}
use Rattle.rob_top.proofs.Coming.CompletenessLemmas.{SaysInfeasible, printed_fits, printed_text}
use Rattle.rob_top.proofs.Origins.KnownInputs.{known_again, sought_known}
use Rattle.rob_top.proofs.Origins.KnownLemmas.{means_known}
use Rattle.rob_top.proofs.Origins.ReadOnceLemmas.{no_breach, one_certificate}
use Rattle.rob_top.proofs.Meaning.SoughtLemmas.{forms_unplanned, lacking_model, lacking_verb}
use Rattle.rob_top.proofs.Origins.ProgressLemmas.{one_model_read}
use Rattle.rob_top.proofs.Coming.WorstAnswerLemmas.{proved_keeps}
use Rattle.rob_top.specs.Calls.{Call, Known, known_call}
use Rattle.rob_top.specs.Commands as works
use Rattle.rob_top.specs.Commands.{Work, work_of}
use Rattle.rob_top.specs.Headline.{Means}
use Rattle.rob_top.specs.Inputs.{HasModel, HasSought, HasCertificate, HasCertificateFile, LacksPlan, planless, unread}
use Rattle.rob_top.specs.Searched.{IsSearched, ShowsKept, certificate_vector}
use Rattle.rob_top.specs.Solved.{IsSolved}
use Rattle.rob_top.specs.Ways.{not_checked, not_replayed, not_searched}
use Rattle.rob_commands.specs.declared.ended.Ended.TheVariants.{Cert}
use Rattle.rob_words.proofs.Spellings.{one_line}
use Rattle.rob_words.specs.Commands.{Line, IsSpelled}
use Rattle.rob_words.specs.declared.verb.Verb.TheVariants.{Prove}
use Rattle.rob_words.specs.declared.verb.Verb.TheVariants as verbs

module _ (proving searching : Call) (status : Status) (text : List ℕ) (solved : IsSolved proving status text)
    (is_prove : solved.line.verb ≡ Prove) (known : Known searching.source) (line : Line)
    (width : line.width ≡ solved.line.width)
    (file : HasCertificateFile (known_call searching known) verbs.Worst line solved.m text) where
  abbrev told : Call
  told = known_call searching known

  told_source : Known told.source
  told_source = known_again known

  printed : HasCertificate told verbs.Worst line solved.m solved.c
  printed = record {
    bytes = text;
    file = file;
    text = printed_text proving status text solved is_prove;
    fits = printed_fits proving status text solved line width;
  }

  -- the line and the model of the call are these
  line_here : (l : Line) → IsSpelled told.words l → l ≡ line
  line_here l spelled = one_line told.words l line spelled file.read.model.spelled

  model_here : (l : Line) (m : RobustModel) → HasModel told l m → m ≡ solved.m
  model_here l m has = one_model_read told l line m solved.m told_source has file.read.model

  -- so is the certificate that it read
  certificate_here : (l : Line) (m : RobustModel) (c : Certificate) → HasCertificate told verbs.Worst l m c
      → c ≡ solved.c
  certificate_here l m c h =
      let has = h.file.read.model in
      let on_line = subst (λ (x : Line). HasCertificate told verbs.Worst x m c) (line_here l has.spelled) h in
      let on_model =
      subst (λ (x : RobustModel). HasCertificate told verbs.Worst line x c) (model_here l m has) on_line in
      one_certificate told told_source line solved.m verbs.Worst c solved.c on_model printed

  -- the work of its command is to search, and no other
  work_here : (w : Work) (l : Line) → IsSpelled told.words l → work_of l.verb ≡ w → works.searching ≡ w
  work_here w l spelled is =
      sym (ap work_of file.is_verb) ∙ ap (λ (k : Line). work_of k.verb) (sym (line_here l spelled)) ∙ is

  pub shows_kept : (shown : List ℕ) (r : IsSearched searching shown)
      → ShowsKept solved.m r.form (certificate_vector solved.c) shown
  shows_kept shown r =
      let has : HasSought told r.line r.m r.c r.form = sought_known searching known r.line r.m r.c r.form r.has in
      let same : r.m ≡ solved.m = model_here r.line r.m has.plan.certificate.file.read.model in
      let alike : r.c ≡ solved.c = certificate_here r.line r.m r.c has.plan.certificate in
      subst (λ (c : Certificate). ShowsKept solved.m r.form (certificate_vector c) shown) alike
      (subst (λ (m : RobustModel). ShowsKept m r.form (certificate_vector r.c) shown) same
      (proved_keeps searching shown r solved.m solved.c same alike solved.proves))

  gives_here : (rule number : ℕ) (l : Line) (m : RobustModel) → LacksPlan told verbs.Worst l m rule number
      → LacksPlan told verbs.Worst line solved.m rule number
  gives_here rule number l m h =
      let has : HasModel told l m = (forms_unplanned told l m rule number h).model in
      subst (λ (x : RobustModel). LacksPlan told verbs.Worst line x rule number) (model_here l m has)
      (subst (λ (x : Line). LacksPlan told verbs.Worst x m rule number) (line_here l has.spelled) h)

  none_says : (rule number : ℕ) → LacksPlan told verbs.Worst line solved.m rule number
      → SaysInfeasible status rule number
  none_says rule number (unread bytes other breach) =
      absurd (no_breach told told_source line solved.m verbs.Worst solved.c bytes rule number printed other breach)
  none_says rule number (planless c h is r n) = (
    r,
    (
      n,
      sym solved.status_is
          ∙ ap (λ (x : Certificate). x.status) (sym (certificate_here line solved.m c h)) ∙ is,
    ),
  )

  pub unplanned_says : (rule number : ℕ) (shown : List ℕ) → Means searching (Cert rule number) shown
      → SaysInfeasible status rule number
  unplanned_says rule number shown means = by (means_known searching known (Cert rule number) shown means)
    where
      by : Means told (Cert rule number) shown → SaysInfeasible status rule number
      by (not_checked h) =
          absurd (let no : works.searching ≡ works.checking =
          work_here works.checking h.line h.file.read.model.spelled (ap work_of h.file.is_verb) in cc)
      by (not_replayed h) =
          absurd (let no : works.searching ≡ works.replaying =
          work_here works.replaying h.line (lacking_model told h.line h.m verbs.Replay rule number h.lacks).spelled
          (ap work_of (lacking_verb told h.line h.m verbs.Replay rule number h.lacks)) in cc)
      by (not_searched h) = none_says rule number (gives_here rule number h.line h.m h.lacks)
