-- The answers for a model's text: of a refusal, of printed rows, and of what the work on a model answers.
use Rattle.std.proofs.Common.{◌≡◌, ℕ, ◌≤◌, ◌^◌, ◌-◌, List, [], Result, Ok, Err, IfOk, refl, subst, sym, ap, ◌∙◌, arith}
use Rattle.rob_cert.specs.declared.trace.Round.{Round}
use Rattle.rob_meaning.specs.RobustModel.{RobustModel}
use Rattle.rob_model.specs.declared.place.Spot.{Spot}
use Rattle.rob_number.specs.Counts.{Rose}
use Rattle.rob_number.proofs.CountLemmas.{rose_later}
use Rattle.rob_number.specs.Lowest as Lowest
use Rattle.rob_number.specs.declared.memory.Memory.{Memory as Want}
use Rattle.rob_parse.specs.Modelled.{ReadsModel}
use Rattle.rob_report.specs.Spots.{too_wide_line}
use Rattle.rob_rules.specs.Texts.{Breaks, HasTextCause}
use Rattle.rob_rules.specs.declared.error.ModelErr.{ModelErr}
use Rattle.rob_rules.specs.declared.error.ModelErr.TheVariants as unread
use Rattle.rob_report.specs.Rows.{rows_of}
use Rattle.rob_sets.specs.FirstWide.{HasCause, IsFirstWide, RoseIfWide}
use Rattle.rob_sets.specs.declared.error.ElabErr.{ElabErr}
use Rattle.rob_sets.specs.declared.error.ElabErr.TheVariants as refused
use Rattle.rob_commands.specs.Answers.{model_fault_text}
use Rattle.rob_top.specs.Calls.{Call, Count, count, WasRaised}
use Rattle.rob_top.specs.Commands.{IsElaborating, IsOnModel}
use Rattle.rob_top.specs.Headline.{Means}
use Rattle.rob_top.specs.Refused.{elaborating}
use Rattle.rob_top.specs.Replies.{HasTexts}
use Rattle.rob_commands.specs.Replies.{Replies}
use Rattle.rob_top.specs.Routes.{with_rounds}
use Rattle.rob_top.specs.Work.{AnswersModel, AnswersRoute, AnswersTexts, AnswersWhole, IsCallAt}
use Rattle.rob_top.specs.WorkStops.{IsRefusedOf, RepliesRefused, RepliesUnread}
use Rattle.rob_top.specs.Ways.{in_model, rows}
use Rattle.rob_commands.specs.declared.ended.Ended.{Ended}
use Rattle.rob_commands.specs.declared.ended.Ended.TheVariants.{Printed, Model, TooWide}
use Rattle.rob_top.specs.declared.files.Texts.{Texts}
use Rattle.rob_commands.specs.declared.reply.Reply.{Reply}
use Rattle.rob_top.proofs.Fetching.OwnLemmas.{file_came, has_model}
use Rattle.rob_words.specs.Commands.{Line}
use Rattle.rob_words.specs.Values.{bits_of}
use Rattle.rob_words.specs.declared.route.Route.{Route}
use Rattle.rob_words.specs.declared.verb.Own.TheVariants as own
use Rattle.rob_words.specs.declared.verb.Verb.{Verb}
use Rattle.rob_words.specs.declared.verb.Verb.TheVariants.{Rows}
use Rattle.rob_words.specs.declared.width.Width.{Width}
use Rattle.rob_words.specs.declared.width.Width.TheVariants.{Eight, Sixteen, ThirtyTwo, SixtyTwo}
use Rattle.rob_elab.specs.Written.{judged, IsWritten}
use Rattle.rob_commands.proofs.BoxPathLemmas.{judged_spot}

-- ---- counts and widths

-- the count rose up to a later time too
pub rose_still : (before middle now : ℕ) → middle ≤ now → Rose before middle → Rose before now
rose_still before middle now least rose = omega (arith, rose, least)

-- the limit of numbers of a width
pub limit_is : (width : Width) → Lowest.limit_of (bits_of width) ≡ 2 ^ bits_of width - 1
unfolding Lowest.limit_of
limit_is Eight = refl
limit_is Sixteen = refl
limit_is ThirtyTwo = refl
limit_is SixtyTwo = refl

-- the call is at the limit still where what is counted here is counted there
pub call_within : (limit : ℕ) (a b : Count) (verb : Verb) (call : Call) (line : Line) → (WasRaised a → WasRaised b)
    → IsCallAt limit b verb call line
    → IsCallAt limit a verb call line
call_within limit a b verb call line goes at = record {
  verb_is = at.verb_is;
  limit_is = at.limit_is;
  raised = λ rose. at.raised (goes rose);
}

-- and where the command is known
pub call_of_verb : (limit : ℕ) (wides : Count) (verb same : Verb) (call : Call) (line : Line) → verb ≡ same
    → IsCallAt limit wides verb call line
    → IsCallAt limit wides same call line
call_of_verb limit wides verb same call line e at = record {
  verb_is = at.verb_is ∙ e;
  limit_is = at.limit_is;
  raised = at.raised;
}

-- what the work answers at the width of the line
pub width_answers : (line : Line) (same : Width) (before now : ℕ) (texts : Texts) (r : Result Reply Want)
    → line.width ≡ same
    → IfOk r (AnswersTexts (Lowest.limit_of (bits_of same)) (count before now) line texts)
    → IfOk r (λ reply. (call : Call) → HasTexts call line texts → call.wides ≡ count before now
    → Means call reply.ended reply.text)
width_answers line same before now texts (Err want) e h = tt
width_answers line same before now texts (Ok reply) e h = λ call came counted.
    h call
    (record {
      verb_is = refl;
      limit_is = ap (λ (w : Width). 2 ^ bits_of w - 1) e ∙ sym (limit_is same);
      raised = λ rose. subst (λ (c : Count). WasRaised c) (sym counted) rose;
    })
    came

-- ---- a text that breaks a rule, and one that is read

rule_answers : (limit : ℕ) (wides : Count) (line : Line) (texts : Texts) (rule number : ℕ) (reply : Reply)
    → IsOnModel line.verb → Breaks limit texts.model.items rule number
    → Replies (Model rule number) (model_fault_text rule number) reply → AnswersTexts limit wides line texts reply
rule_answers limit wides line texts rule number reply reads broken is = λ call at came.
    subst (λ (ended : Ended). Means call ended reply.text) (sym is.0)
    (record {
      line = line;
      spelled = came.spelled;
      came = came.came;
      bytes = texts.model.items;
      file = file_came call line texts own.Model _ refl came (has_model line.verb reads);
      breaks = subst (λ (l : ℕ). Breaks l texts.model.items rule number) (sym at.limit_is) broken;
      printed = is.1;
    })

pub unread_answers : (limit : ℕ) (wides : Count) (line : Line) (texts : Texts) (text : List ℕ)
    (e : ModelErr) (r : Result Reply Want)
    → IsOnModel line.verb → text ≡ texts.model.items → HasTextCause limit text e → IfOk r (RepliesUnread e)
    → IfOk r (AnswersTexts limit wides line texts)
unread_answers limit wides line texts text e (Err want) reads same cause is = tt
unread_answers limit wides line texts text (unread.Rule rule number) (Ok reply) reads same cause is =
    rule_answers limit wides line texts rule number reply reads
    (subst (λ (bytes : List ℕ). Breaks limit bytes rule number) same cause) is
unread_answers limit wides line texts text unread.Memory (Ok reply) reads same cause is = absurd is

pub model_answers : (limit before middle now : ℕ) (line : Line) (texts : Texts) (text : List ℕ)
    (m : RobustModel) (r : Result Reply Want)
    → IsOnModel line.verb → text ≡ texts.model.items → ReadsModel limit text m → before ≡ middle
    → IfOk r (AnswersModel limit (count middle now) m line texts)
    → IfOk r (AnswersTexts limit (count before now) line texts)
model_answers limit before middle now line texts text m (Err want) reads same read e h = tt
model_answers limit before middle now line texts text m (Ok reply) reads same read e h = λ call at came.
    h call
    (call_within limit (count middle now) (count before now) line.verb call line
    (λ rose. subst (λ (n : ℕ). Rose n now) (sym e) rose) at) came
    (record {
      spelled = came.spelled;
      came = came.came;
      bytes = texts.model.items;
      file = file_came call line texts own.Model _ refl came (has_model line.verb reads);
      reads = subst (λ (l : ℕ). ReadsModel l texts.model.items m) (sym at.limit_is)
          (subst (λ (bytes : List ℕ). ReadsModel limit bytes m) same read);
    })

-- ---- set rows and forms
module _ (limit : ℕ) (m : RobustModel) where
  pub refused_of : (e : ElabErr) → HasCause limit m (judged m) e → IsRefusedOf m e
  refused_of (refused.Wide spot) h = judged_spot limit m spot h
  refused_of refused.Memory h = tt

  -- the reply to a wide number before which no rounds come
  pub refused_alone : (way : Route) (e : ElabErr) (spot : Spot) (told : List Round) (r : Result Reply Want)
      → e ≡ refused.Wide spot → told ≡ []
      → IfOk r (Replies (TooWide spot) (with_rounds way m told (too_wide_line m spot)))
      → IfOk r (RepliesRefused m way e)
  refused_alone way e spot told (Err want) is none h = tt
  refused_alone way e spot told (Ok reply) is none h =
      subst (λ (x : ElabErr). RepliesRefused m way x reply) (sym is)
      (subst (λ (rounds : List Round). Replies (TooWide spot) (with_rounds way m rounds (too_wide_line m spot)) reply)
      none h)

  -- a number is wide, first
  spot_answers : (wides : Count) (line : Line) (texts : Texts) (spot : Spot) (reply : Reply) → IsElaborating line.verb
      → IsFirstWide limit m (judged m) spot → WasRaised wides
      → RepliesRefused m line.way (refused.Wide spot) reply → AnswersModel limit wides m line texts reply
  spot_answers wides line texts spot reply makes first rose is = λ call at came has.
      subst (λ (ended : Ended). Means call ended reply.text) (sym is.0)
      (in_model (record {
        line = line;
        m = m;
        wide = elaborating has makes (subst (λ (l : ℕ). IsFirstWide l m (judged m) spot) (sym at.limit_is) first);
        raised = at.raised rose;
        printed = is.1;
      }))

  pub refused_answers : (before now : ℕ) (line : Line) (texts : Texts) (e : ElabErr) (r : Result Reply Want)
      → IsElaborating line.verb → HasCause limit m (judged m) e → RoseIfWide before now e
      → IfOk r (RepliesRefused m line.way e) → IfOk r (AnswersModel limit (count before now) m line texts)
  refused_answers before now line texts e (Err want) makes cause rose is = tt
  refused_answers before now line texts (refused.Wide spot) (Ok reply) makes cause rose is =
      spot_answers (count before now) line texts spot reply makes cause rose is
  refused_answers before now line texts refused.Memory (Ok reply) makes cause rose is = absurd is

  -- none is
  pub whole_answers : (before middle now : ℕ) (line : Line) (texts : Texts) (r : Result Reply Want) → before ≤ middle
      → IsWritten limit m → IfOk r (AnswersWhole limit (count middle now) m line texts)
      → IfOk r (AnswersModel limit (count before now) m line texts)
  whole_answers before middle now line texts (Err want) least written h = tt
  whole_answers before middle now line texts (Ok reply) least written h = λ call at came has.
      h call
      (call_within limit (count middle now) (count before now) line.verb call line
      (rose_later before middle now least) at) came
      (record { model = has; none_wide = subst (λ (l : ℕ). IsWritten l m) (sym at.limit_is) written })

  -- the rows are printed
  pub rows_answer : (wides : Count) (line : Line) (texts : Texts) (r : Result Reply Want) → line.verb ≡ Rows
      → IfOk r (Replies Printed (rows_of m))
      → IfOk r (AnswersWhole limit wides m line texts)
  rows_answer wides line texts (Err want) e is = tt
  rows_answer wides line texts (Ok reply) e is = λ call at came has.
      subst (λ (ended : Ended). Means call ended reply.text) (sym is.0)
      (rows (record { line = line; m = m; forms = has; is_rows = e; printed = is.1 }))

  -- no other text counts
  pub at_verb : (wides : Count) (line : Line) (verb : Verb) (texts : Texts) (r : Result Reply Want) → line.verb ≡ verb
      → IfOk r (AnswersRoute limit wides m verb line.way) → IfOk r (AnswersWhole limit wides m line texts)
  at_verb wides line verb texts (Err want) e h = tt
  at_verb wides line verb texts (Ok reply) e h = λ call at came has.
      h call line (call_of_verb limit wides line.verb verb call line e at) (refl, has)
