-- The answers of `solve` and `prove`, from what their route answers.
use Rattle.std.proofs.Common.{◌≡◌, ℕ, ◌≤◌, nat_abs, List, Result, Ok, Err, IfOk, refl, subst, sym, arith}
use Rattle.std.specs.Prelude.{MatchResult}
use Rattle.rob_algebra.specs.Fraction.{Fraction}
use Rattle.rob_algebra.specs.Width.{Fits}
use Rattle.rob_cert.proofs.Writing.FitLemmas.{answer_fits}
use Rattle.rob_cert.specs.Apart.{FitsLines}
use Rattle.rob_cert.specs.Spelling.{cert_text}
use Rattle.rob_cert.specs.View.{certificate_of}
use Rattle.rob_cert.specs.declared.certificate.Cert.{Cert}
use Rattle.rob_cert.specs.declared.ending.Stop.{Stop}
use Rattle.rob_cert.specs.declared.ending.Stop.TheVariants as stop
use Rattle.rob_cert.specs.declared.trace.Round.{Round}
use Rattle.rob_cert.specs.declared.trace.Trace.{Trace}
use Rattle.rob_cuts.specs.Rounds.{RoundFits}
use Rattle.rob_cuts.specs.Solving.{StopFits}
use Rattle.rob_dualize.specs.Solving.{CountsStop}
use Rattle.rob_meaning.specs.Certificates.{Certificate, Status, optimal, infeasible, unbounded}
use Rattle.rob_meaning.specs.Forms.{forms}
use Rattle.rob_meaning.specs.Places.{Each}
use Rattle.rob_meaning.specs.Proves.{HasStatus, ProvesAs}
use Rattle.rob_meaning.specs.RobustModel.{RobustModel}
use Rattle.rob_meaning.specs.WellFormed.{IsModel}
use Rattle.rob_meaning.proofs.Proving.ProvesLemmas.{certificate_true}
use Rattle.rob_meaning.proofs.Proving.StatusLemmas.{optimum_is_worst_case}
use Rattle.rob_number.specs.Counts.{Rose}
use Rattle.rob_number.specs.declared.memory.Memory.{Memory as Want}
use Rattle.rob_report.specs.Report.{report_of}
use Rattle.rob_report.specs.Spots.{too_wide_line}
use Rattle.rob_commands.proofs.PlanLemmas.{covered_bound}
use Rattle.rob_top.specs.Calls.{Call, Count, count, limit_of}
use Rattle.rob_top.specs.Commands.{IsSolving}
use Rattle.rob_top.specs.Headline.{Means}
use Rattle.rob_top.specs.Inputs.{HasForms}
use Rattle.rob_commands.specs.Replies.{Replies, ended_of}
use Rattle.rob_top.specs.Routes.{HasStopCause, IsFound, IsFoundBy, IsWideBy, SolvesBy, with_rounds}
use Rattle.rob_top.specs.Solved.{HasPlanValue, IsPrinted, IsSolved}
use Rattle.rob_top.specs.Work.{AnswersRoute}
use Rattle.rob_top.specs.WorkStops.{RepliesStop}
use Rattle.rob_top.specs.Ways.{on_way, solved, while_solving}
use Rattle.rob_commands.specs.declared.ended.Ended.{Ended}
use Rattle.rob_commands.specs.declared.reply.Reply.{Reply}
use Rattle.rob_words.specs.Commands.{Line}
use Rattle.rob_words.specs.declared.route.Route.{Route}
use Rattle.rob_words.specs.declared.verb.Verb.{Verb}
use Rattle.rob_words.specs.declared.verb.Verb.TheVariants.{Solve, Prove}

-- ---- counts

pub solve_counted : {N : Type 0} (way : Route) (value : N → Fraction) (limit : ℕ) (m : RobustModel) (before now : ℕ)
    (r : Result (Cert N × Trace) Stop) → SolvesBy way value limit m before now r → before ≤ now
solve_counted {N = N} way value limit m before now r h = by r h.counted
  where
    by : (r : Result (Cert N × Trace) Stop) → MatchResult r (λ _. now ≡ before) (CountsStop before now) → before ≤ now
    by (Ok answer) e = omega (arith, e)
    by (Err (stop.EmptySet weights)) e = omega (arith, e)
    by (Err (stop.Wide place trace)) e = omega (arith, e)
    by (Err stop.Memory) e = e

-- ---- what a certificate that proves says of its plan
module _ (m : RobustModel) (model : IsModel m) where
  kept_as : (call : Call) (c : Certificate) (status : Status) → ProvesAs status m c → HasStatus m status c.value
      → HasPlanValue call m c status
  kept_as call c optimal h true_of =
      optimum_is_worst_case m c.plan c.value true_of (covered_bound m model c h.inside h.columns h.scale h.covered)
  kept_as call c infeasible h true_of = tt
  kept_as call c unbounded h true_of = covered_bound m model c h.inside h.columns h.scale h.covered

-- the command solves as the known one does
solves_as : (verb same : Verb) → verb ≡ same → IsSolving same → IsSolving verb
solves_as verb same e h = subst (λ (v : Verb). IsSolving v) (sym e) h

-- ---- the certificate that was found
pub solution_fits : {N : Type 0} (value : N → Fraction) (limit : ℕ) → ((x : N) → Fits limit (value x))
    → (m : RobustModel) (cert : Cert N)
    → FitsLines limit m (certificate_of value cert)
solution_fits {N = N} value limit fits m cert =
    let found : Result (Cert N) Stop = Ok cert in answer_fits value limit fits m found

module _ (limit : ℕ) (m : RobustModel) (model : IsModel m) (way : Route) (c : Certificate) (rounds : List Round)
    (found : IsFound way m c rounds) (fits : FitsLines limit m c) (rounds_fit : Each (RoundFits limit) rounds) where
  means_solved : (call : Call) (line : Line) (text : List ℕ) (status : Status) → limit_of line ≡ limit
      → line.way ≡ way → c.status ≡ status
      → HasForms call line m → IsSolving line.verb → IsPrinted call line.verb line.way m c rounds text
      → Means call (ended_of status) text
  means_solved call line text status at by_way e has solves printed =
      let proves : ProvesAs status m c = subst (λ (s : Status). ProvesAs s m c) e found.proves in
      let holds : HasStatus m status c.value =
      subst (λ (s : Status). HasStatus m s c.value) e (certificate_true m model c found.proves) in
      by status (record {
        line = line;
        m = m;
        forms = has;
        solves = solves;
        c = c;
        status_is = e;
        holds = holds;
        kept = kept_as m model call c status proves holds;
        proves = found.proves;
        rounds = rounds;
        found = subst (λ (w : Route). IsFoundBy w m c rounds) (sym by_way) found.found;
        shape = found.shape;
        fits = subst (λ (l : ℕ). FitsLines l m c) (sym at) fits;
        rounds_fit = subst (λ (l : ℕ). Each (RoundFits l) rounds) (sym at) rounds_fit;
        printed = printed;
      })
    where
      by : (s : Status) → IsSolved call s text → Means call (ended_of s) text
      by optimal h = solved h
      by infeasible h = solved h
      by unbounded h = solved h

  is_report : (call : Call) (verb : Verb) (w : Route) (text : List ℕ) → verb ≡ Solve → w ≡ way
      → text ≡ with_rounds way m rounds (report_of m c) → IsPrinted call verb w m c rounds text
  is_report call verb w text e by_way h =
      subst (λ (v : Verb). IsPrinted call v w m c rounds text) (sym e)
      (subst (λ (x : Route). text ≡ with_rounds x m rounds (report_of m c)) (sym by_way) h)

  is_certificate : (call : Call) (verb : Verb) (w : Route) (text : List ℕ) → verb ≡ Prove → text ≡ cert_text m c
      → IsPrinted call verb w m c rounds text
  is_certificate call verb w text e h = subst (λ (v : Verb). IsPrinted call v w m c rounds text) (sym e) h

  pub report_answers : (wides : Count) (r : Result Reply Want)
      → IfOk r (Replies (ended_of c.status) (with_rounds way m rounds (report_of m c)))
      → IfOk r (AnswersRoute limit wides m Solve way)
  report_answers wides (Err want) is = tt
  report_answers wides (Ok reply) is = λ call line at given.
      subst (λ (ended : Ended). Means call ended reply.text) (sym is.0)
      (means_solved call line reply.text c.status at.limit_is given.0 refl given.1
      (solves_as line.verb Solve at.verb_is refl)
      (is_report call line.verb line.way reply.text at.verb_is given.0 is.1))

  pub certificate_answers : (wides : Count) (r : Result Reply Want)
      → IfOk r (Replies (ended_of c.status) (cert_text m c))
      → IfOk r (AnswersRoute limit wides m Prove way)
  certificate_answers wides (Err want) is = tt
  certificate_answers wides (Ok reply) is = λ call line at given.
      subst (λ (ended : Ended). Means call ended reply.text) (sym is.0)
      (means_solved call line reply.text c.status at.limit_is given.0 refl given.1
      (solves_as line.verb Prove at.verb_is refl)
      (is_certificate call line.verb line.way reply.text at.verb_is is.1))

-- ---- the route stopped
module _ (limit : ℕ) (m : RobustModel) where
  stop_answers : (before now : ℕ) (verb : Verb) (way : Route) (s : Stop) (reply : Reply) → IsSolving verb
      → HasStopCause way limit m s → StopFits limit s → CountsStop before now s → RepliesStop m way s reply
      → AnswersRoute limit (count before now) m verb way reply
  stop_answers before now verb way (stop.EmptySet weights) reply solves cause fits counts is =
      λ call line at given.
      subst (λ (ended : Ended). Means call ended reply.text) (sym is.0)
      (while_solving (record {
        line = line;
        m = m;
        forms = given.1;
        solves = solves_as line.verb verb at.verb_is solves;
        shown = cause.shown;
        fits = subst (λ (l : ℕ). Each (λ weight. nat_abs weight ≤ l) weights) (sym at.limit_is) cause.fits;
        printed = is.1;
      }))
  stop_answers before now verb way (stop.Wide place trace) reply solves cause fits counts is =
      λ call line at given.
      let rose : Rose before now = omega (arith, counts) in
      let here : IsWideBy way (limit_of line) m place trace.rounds =
      subst (λ (l : ℕ). IsWideBy way l m place trace.rounds) (sym at.limit_is) cause
      in
      subst (λ (ended : Ended). Means call ended reply.text) (sym is.0)
      (on_way (record {
        line = line;
        m = m;
        rounds = trace.rounds;
        forms = given.1;
        solves = solves_as line.verb verb at.verb_is solves;
        wide = subst (λ (w : Route). IsWideBy w (limit_of line) m place trace.rounds) (sym given.0) here;
        raised = at.raised rose;
        rounds_fit = subst (λ (l : ℕ). Each (RoundFits l) trace.rounds) (sym at.limit_is) fits;
        printed = subst (λ (w : Route). reply.text ≡ with_rounds w m trace.rounds (too_wide_line m place)) (sym given.0)
            is.1;
      }))
  stop_answers before now verb way stop.Memory reply solves cause fits counts is = absurd is

  pub stopped_answers : (before now : ℕ) (verb : Verb) (way : Route) (s : Stop) (r : Result Reply Want) → IsSolving verb
      → HasStopCause way limit m s → StopFits limit s → CountsStop before now s → IfOk r (RepliesStop m way s)
      → IfOk r (AnswersRoute limit (count before now) m verb way)
  stopped_answers before now verb way s (Err want) solves cause fits counts is = tt
  stopped_answers before now verb way s (Ok reply) solves cause fits counts is =
      stop_answers before now verb way s reply solves cause fits counts is
