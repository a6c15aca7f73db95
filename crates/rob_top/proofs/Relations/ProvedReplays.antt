-- The text that `prove` printed, as `replay` takes it for the same model at the same width.
use Rattle.std.proofs.Common.{◌≡◌, ℕ, List, sym, ◌∙◌, ap, subst}
use Rattle.rob_meaning.specs.Certificates.{Certificate, Status}
use Rattle.rob_meaning.specs.Places.{Each}
use Rattle.rob_meaning.specs.RobustModel.{RobustModel}
use Rattle.rob_replay.specs.Replayed.{ShowsBound}
use Rattle.rob_top.proofs.Coming.CompletenessLemmas.{SaysInfeasible, printed_fits, printed_text}
use Rattle.rob_top.proofs.Origins.KnownInputs.{known_again, scenarios_known}
use Rattle.rob_top.proofs.Origins.KnownLemmas.{means_known}
use Rattle.rob_top.proofs.Origins.ReadOnceLemmas.{no_breach, one_certificate}
use Rattle.rob_top.proofs.Coming.ReplayAnswerLemmas.{proved_shows}
use Rattle.rob_top.proofs.Meaning.SoughtLemmas.{lacking_model, lacking_verb}
use Rattle.rob_top.proofs.Origins.ProgressLemmas.{one_model_read}
use Rattle.rob_top.specs.Calls.{Call, Known, known_call}
use Rattle.rob_top.specs.Commands as works
use Rattle.rob_top.specs.Commands.{Work, work_of}
use Rattle.rob_top.specs.Headline.{Means}
use Rattle.rob_top.specs.Inputs.{HasModel, HasScenarioFile, HasCertificate, HasCertificateFile, LacksPlan, planless, unread}
use Rattle.rob_top.specs.Replayed.{IsReplayed}
use Rattle.rob_top.specs.Solved.{IsSolved}
use Rattle.rob_top.specs.Ways.{not_checked, not_replayed, not_searched}
use Rattle.rob_commands.specs.declared.ended.Ended.TheVariants.{Cert}
use Rattle.rob_words.proofs.Spellings.{one_line}
use Rattle.rob_words.specs.Commands.{Line, IsSpelled}
use Rattle.rob_words.specs.declared.verb.Verb.TheVariants.{Prove}
use Rattle.rob_words.specs.declared.verb.Verb.TheVariants as verbs

module _ (proving replaying : Call) (status : Status) (text : List ℕ) (solved : IsSolved proving status text)
    (is_prove : solved.line.verb ≡ Prove) (known : Known replaying.source) (line : Line)
    (width : line.width ≡ solved.line.width)
    (file : HasCertificateFile (known_call replaying known) verbs.Replay line solved.m text) where
  abbrev told : Call
  told = known_call replaying known

  told_source : Known told.source
  told_source = known_again known

  printed : HasCertificate told verbs.Replay line solved.m solved.c
  printed = record {
    bytes = text;
    file = file;
    text = printed_text proving status text solved is_prove;
    fits = printed_fits proving status text solved line width;
  }

  -- the line and the model of the call are these
  line_here : (l : Line) → IsSpelled told.words l → l ≡ line
  line_here l spelled = one_line told.words l line spelled file.read.spelled

  model_here : (l : Line) (m : RobustModel) → HasModel told l m → m ≡ solved.m
  model_here l m has = one_model_read told l line m solved.m told_source has file.read

  -- so is the certificate that it read
  certificate_here : (l : Line) (m : RobustModel) (c : Certificate) → HasCertificate told verbs.Replay l m c
      → c ≡ solved.c
  certificate_here l m c h =
      let on_line = subst (λ (x : Line). HasCertificate told verbs.Replay x m c) (line_here l h.file.read.spelled) h in
      let on_model =
      subst (λ (x : RobustModel). HasCertificate told verbs.Replay line x c) (model_here l m h.file.read) on_line in
      one_certificate told told_source line solved.m verbs.Replay c solved.c on_model printed

  -- the work of its command is to replay, and no other
  work_here : (w : Work) (l : Line) → IsSpelled told.words l → work_of l.verb ≡ w → works.replaying ≡ w
  work_here w l spelled is =
      sym (ap work_of file.is_verb) ∙ ap (λ (k : Line). work_of k.verb) (sym (line_here l spelled)) ∙ is

  pub shows_value : (shown : List ℕ) (r : IsReplayed replaying shown)
      → Each (ShowsBound solved.m solved.c.value) r.lines
  shows_value shown r =
      let has : HasScenarioFile told r.line r.m r.c r.bytes =
      scenarios_known replaying known r.line r.m r.c r.bytes r.has in
      let same : r.m ≡ solved.m = model_here r.line r.m has.plan.certificate.file.read in
      let alike : r.c ≡ solved.c = certificate_here r.line r.m r.c has.plan.certificate in
      subst (λ (c : Certificate). Each (ShowsBound solved.m c.value) r.lines) alike
      (subst (λ (m : RobustModel). Each (ShowsBound m r.c.value) r.lines) same
      (proved_shows replaying shown r solved.m solved.c same alike solved.proves))

  lacks_here : (rule number : ℕ) (l : Line) (m : RobustModel) → LacksPlan told verbs.Replay l m rule number
      → LacksPlan told verbs.Replay line solved.m rule number
  lacks_here rule number l m h =
      let has : HasModel told l m = lacking_model told l m verbs.Replay rule number h in
      subst (λ (x : RobustModel). LacksPlan told verbs.Replay line x rule number) (model_here l m has)
      (subst (λ (x : Line). LacksPlan told verbs.Replay x m rule number) (line_here l has.spelled) h)

  lack_says : (rule number : ℕ) → LacksPlan told verbs.Replay line solved.m rule number
      → SaysInfeasible status rule number
  lack_says rule number (unread bytes other breach) =
      absurd (no_breach told told_source line solved.m verbs.Replay solved.c bytes rule number printed other breach)
  lack_says rule number (planless c h is r n) = (
    r,
    (
      n,
      sym solved.status_is
          ∙ ap (λ (x : Certificate). x.status) (sym (certificate_here line solved.m c h)) ∙ is,
    ),
  )

  pub refused_says : (rule number : ℕ) (shown : List ℕ) → Means replaying (Cert rule number) shown
      → SaysInfeasible status rule number
  refused_says rule number shown means = by (means_known replaying known (Cert rule number) shown means)
    where
      by : Means told (Cert rule number) shown → SaysInfeasible status rule number
      by (not_checked h) =
          absurd (let no : works.replaying ≡ works.checking =
          work_here works.checking h.line h.file.read.model.spelled (ap work_of h.file.is_verb) in cc)
      by (not_replayed h) = lack_says rule number (lacks_here rule number h.line h.m h.lacks)
      by (not_searched h) =
          let has = lacking_model told h.line h.m verbs.Worst rule number h.lacks in
          absurd (let no : works.replaying ≡ works.searching =
          work_here works.searching h.line has.spelled
          (ap work_of (lacking_verb told h.line h.m verbs.Worst rule number h.lacks)) in cc)
