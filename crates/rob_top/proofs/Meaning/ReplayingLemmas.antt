-- The answers of `replay`, from what the reading of a certificate and the replaying of a scenario file answer.
use Rattle.std.proofs.Common.{◌≡◌, ◌≢◌, ℕ, ◌≤◌, true, List, Result, Ok, Err, IfOk, refl, subst, sym, ap, ◌∙◌}
use Rattle.rob_algebra.specs.Fraction.{Fraction}
use Rattle.rob_cert.specs.Apart.{FitsLines}
use Rattle.rob_cert.specs.Whole.{IsTextOf}
use Rattle.rob_cert.specs.declared.certificate.Status.TheVariants as status
use Rattle.rob_meaning.specs.Certificates.{Certificate, infeasible}
use Rattle.rob_meaning.specs.Guarantee.{HasBound}
use Rattle.rob_meaning.specs.Places.{Each}
use Rattle.rob_meaning.specs.RobustModel.{RobustModel}
use Rattle.rob_model.specs.declared.place.Spot.TheVariants as spot
use Rattle.rob_number.specs.Counts.{Rose}
use Rattle.rob_number.specs.declared.memory.Memory.{Memory as Want}
use Rattle.rob_replay.proofs.OneFileLemmas.{one_file}
use Rattle.rob_replay.specs.Files.{IsFile}
use Rattle.rob_replay.specs.Lines as replay
use Rattle.rob_replay.specs.Outcome.{breaks, is_wide, outcome}
use Rattle.rob_replay.specs.Replayed.{IsTable, ShowsBound}
use Rattle.rob_replay.specs.View.{Gives}
use Rattle.rob_report.specs.Spots.{too_wide_line}
use Rattle.rob_report.specs.Tables.{table_of}
use Rattle.rob_top.proofs.Meaning.DefaultRoutes.{told_alone}
use Rattle.rob_commands.specs.Answers.{certificate_fault_text, scenarios_fault_text}
use Rattle.rob_top.specs.Calls.{Count, count}
use Rattle.rob_top.specs.Files.{HasFile}
use Rattle.rob_top.specs.Headline.{Means}
use Rattle.rob_top.specs.Inputs.{BreaksCertificate, planless, unread}
use Rattle.rob_top.specs.Refused.{replaying}
use Rattle.rob_commands.specs.Replies.{Replies}
use Rattle.rob_top.specs.Work.{AnswersModel, AnswersPlan, AnswersReplay, AnswersScenarios}
use Rattle.rob_top.specs.Ways.{in_model, not_replayed, replayed}
use Rattle.rob_commands.specs.declared.ended.Ended.{Ended}
use Rattle.rob_commands.specs.declared.ended.Ended.TheVariants.{Printed, TooWide, Cert, Scenarios}
use Rattle.rob_top.specs.declared.files.Texts.{Texts}
use Rattle.rob_commands.specs.declared.reply.Reply.{Reply}
use Rattle.rob_top.proofs.Fetching.OwnLemmas.{file_came, has_kind}
use Rattle.rob_number.proofs.CountLemmas.{rose_later}
use Rattle.rob_top.proofs.Meaning.WorkLemmas.{call_of_verb, call_within}
use Rattle.rob_words.specs.Commands.{Line}
use Rattle.rob_words.specs.Verbs.{own_of}
use Rattle.rob_words.specs.Verbs.{takes_route}
use Rattle.rob_words.specs.declared.verb.Own.{Own}
use Rattle.rob_words.specs.declared.verb.Own.TheVariants as own
use Rattle.rob_words.specs.declared.verb.Verb.{Verb}
use Rattle.rob_words.specs.declared.verb.Verb.TheVariants.{Replay}

module _ (limit : ℕ) (m : RobustModel) where
  -- ---- a certificate with a plan, and a scenario file
  module _ (c : Certificate) (text : List ℕ) where
    pub table_answers : (wides : Count) (lines : List replay.Line) (r : Result Reply Want)
        → (rows : List (List (List ℕ))) × IsFile text rows × IsTable limit m c.plan rows lines
        → Gives (outcome limit m c.plan) text (Ok lines)
        → (HasBound m c.plan c.value → Each (ShowsBound m c.value) lines)
        → IfOk r (Replies Printed (table_of m lines)) → IfOk r (AnswersScenarios limit wides m c text)
    table_answers wides lines (Err want) table gives bounded is = tt
    table_answers wides lines (Ok reply) table gives bounded is = λ call line at has.
        subst (λ (ended : Ended). Means call ended reply.text) (sym is.0)
        (replayed (record {
          line = line;
          m = m;
          c = c;
          bytes = text;
          has = has;
          rows = table.0;
          file = table.1;
          lines = lines;
          table = subst (λ (l : ℕ). IsTable l m c.plan table.0 lines) (sym at.limit_is) table.2;
          narrow = subst (λ (l : ℕ). outcome l m c.plan table.0 ≡ Ok lines) (sym at.limit_is)
              (ap (λ (rows : List (List (List ℕ))). outcome limit m c.plan rows)
              (one_file text table.0 gives.0 table.1 gives.1) ∙ gives.2);
          bounded = bounded;
          printed = is.1;
        }))

    pub record_answers : (wides : Count) (rule number : ℕ) (r : Result Reply Want)
        → Gives (outcome limit m c.plan) text (Err (breaks rule number))
        → IfOk r (Replies (Scenarios rule number) (scenarios_fault_text rule number))
        → IfOk r (AnswersScenarios limit wides m c text)
    record_answers wides rule number (Err want) gives is = tt
    record_answers wides rule number (Ok reply) gives is = λ call line at has.
        subst (λ (ended : Ended). Means call ended reply.text) (sym is.0)
        (record {
          line = line;
          m = m;
          c = c;
          bytes = text;
          has = has;
          refused = subst (λ (l : ℕ). Gives (outcome l m c.plan) text (Err (breaks rule number)))
              (sym at.limit_is) gives;
          printed = is.1;
        })

    pub wide_answers : (before now number : ℕ) (r : Result Reply Want)
        → Gives (outcome limit m c.plan) text (Err (is_wide number)) → Rose before now
        → IfOk r (Replies (TooWide (spot.Replay number)) (too_wide_line m (spot.Replay number)))
        → IfOk r (AnswersScenarios limit (count before now) m c text)
    wide_answers before now number (Err want) gives rose is = tt
    wide_answers before now number (Ok reply) gives rose is = λ call line at has.
        subst (λ (ended : Ended). Means call ended reply.text) (sym is.0)
        (in_model (record {
          line = line;
          m = m;
          wide = replaying c text number has refl
              (subst (λ (l : ℕ). Gives (outcome l m c.plan) text (Err (is_wide number))) (sym at.limit_is) gives);
          raised = at.raised rose;
          printed = told_alone call line m has.plan.certificate.file.read (ap takes_route at.verb_is) reply.text
              (too_wide_line m (spot.Replay number)) is.1;
        }))

    -- ---- a certificate, with a plan or without one
    pub planless_answers : (wides : Count) (r : Result Reply Want) → c.status ≡ infeasible
        → IfOk r (Replies (Cert 34 1) (certificate_fault_text 34 1))
        → IfOk r (AnswersPlan limit wides m c text)
    planless_answers wides (Err want) none is = tt
    planless_answers wides (Ok reply) none is = λ call line at given.
        subst (λ (ended : Ended). Means call ended reply.text) (sym is.0)
        (not_replayed (record { line = line; m = m; lacks = planless c given.0 none refl refl; printed = is.1 }))

    pub plan_answers : (wides : Count) (r : Result Reply Want) → c.status ≢ infeasible
        → IfOk r (AnswersScenarios limit wides m c text)
        → IfOk r (AnswersPlan limit wides m c text)
    plan_answers wides (Err want) some h = tt
    plan_answers wides (Ok reply) some h =
        λ call line at given.
        h call line at (record { plan = record { certificate = given.0; has_plan = some }; file = given.1 })

  -- ---- a plan with its bound, and a scenario file: an answer for each certificate that has them
  module _ (plan : List Fraction) (bound : Fraction) (text : List ℕ) where
    abbrev AnswersAt : Count → Reply → Type 0
    AnswersAt wides reply =
        (c : Certificate) → c.plan ≡ plan → c.value ≡ bound → AnswersScenarios limit wides m c text reply

    pub table_at : (wides : Count) (lines : List replay.Line) (r : Result Reply Want)
        → (rows : List (List (List ℕ))) × IsFile text rows × IsTable limit m plan rows lines
        → Gives (outcome limit m plan) text (Ok lines)
        → (HasBound m plan bound → Each (ShowsBound m bound) lines)
        → IfOk r (Replies Printed (table_of m lines)) → IfOk r (AnswersAt wides)
    table_at wides lines (Err want) table gives bounded is = tt
    table_at wides lines (Ok reply) table gives bounded is = λ c same alike.
        table_answers c text wides lines (Ok reply)
        (subst (λ (p : List Fraction). (rows : List (List (List ℕ))) × IsFile text rows × IsTable limit m p rows lines)
        (sym same) table)
        (subst (λ (p : List Fraction). Gives (outcome limit m p) text (Ok lines)) (sym same) gives)
        (subst (λ (p : List Fraction). HasBound m p c.value → Each (ShowsBound m c.value) lines) (sym same)
        (subst (λ (b : Fraction). HasBound m plan b → Each (ShowsBound m b) lines) (sym alike) bounded))
        is

    pub record_at : (wides : Count) (rule number : ℕ) (r : Result Reply Want)
        → Gives (outcome limit m plan) text (Err (breaks rule number))
        → IfOk r (Replies (Scenarios rule number) (scenarios_fault_text rule number)) → IfOk r (AnswersAt wides)
    record_at wides rule number (Err want) gives is = tt
    record_at wides rule number (Ok reply) gives is = λ c same alike.
        record_answers c text wides rule number (Ok reply)
        (subst (λ (p : List Fraction). Gives (outcome limit m p) text (Err (breaks rule number))) (sym same) gives) is

    pub wide_at : (before now number : ℕ) (r : Result Reply Want)
        → Gives (outcome limit m plan) text (Err (is_wide number)) → Rose before now
        → IfOk r (Replies (TooWide (spot.Replay number)) (too_wide_line m (spot.Replay number)))
        → IfOk r (AnswersAt (count before now))
    wide_at before now number (Err want) gives rose is = tt
    wide_at before now number (Ok reply) gives rose is = λ c same alike.
        wide_answers c text before now number (Ok reply)
        (subst (λ (p : List Fraction). Gives (outcome limit m p) text (Err (is_wide number))) (sym same) gives) rose is

    -- for one of them
    pub at_certificate : (wides : Count) (c : Certificate) (r : Result Reply Want) → c.plan ≡ plan → c.value ≡ bound
        → IfOk r (AnswersAt wides) → IfOk r (AnswersScenarios limit wides m c text)
    at_certificate wides c (Err want) same alike h = tt
    at_certificate wides c (Ok reply) same alike h = h c same alike

  -- ---- a certificate's text
  pub unread_answers : (wides : Count) (certificate text : List ℕ) (rule number : ℕ) (r : Result Reply Want)
      → BreaksCertificate limit m certificate rule number
      → IfOk r (Replies (Cert rule number) (certificate_fault_text rule number))
      → IfOk r (AnswersReplay limit wides m certificate text)
  unread_answers wides certificate text rule number (Err want) broken is = tt
  unread_answers wides certificate text rule number (Ok reply) broken is = λ call line at given.
      subst (λ (ended : Ended). Means call ended reply.text) (sym is.0)
      (not_replayed (record {
        line = line;
        m = m;
        lacks = unread certificate given.0
            (subst (λ (l : ℕ). BreaksCertificate l m certificate rule number)
            (sym at.limit_is) broken);
        printed = is.1;
      }))

  pub read_answers : (before middle now : ℕ) (certificate text : List ℕ) (c : Certificate) (r : Result Reply Want)
      → before ≤ middle
      → IsTextOf m c certificate → FitsLines limit m c → IfOk r (AnswersPlan limit (count middle now) m c text)
      → IfOk r (AnswersReplay limit (count before now) m certificate text)
  read_answers before middle now certificate text c (Err want) least is fits h = tt
  read_answers before middle now certificate text c (Ok reply) least is fits h = λ call line at given.
      h call line
      (call_within limit (count middle now) (count before now) Replay call line
      (rose_later before middle now least) at) (
        record {
          bytes = certificate;
          file = given.0;
          text = is;
          fits = subst (λ (l : ℕ). FitsLines l m c) (sym at.limit_is) fits;
        },
        given.1,
      )

  -- ---- the command is `replay`, so the files of the certificate and of scenarios came
  pub replay_answers : (wides : Count) (line : Line) (texts : Texts) (certificate text : List ℕ) (r : Result Reply Want)
      → line.verb ≡ Replay
      → certificate ≡ texts.certificate.items → text ≡ texts.scenarios.items
      → IfOk r (AnswersReplay limit wides m certificate text)
      → IfOk r (AnswersModel limit wides m line texts)
  replay_answers wides line texts certificate text (Err want) here same alike h = tt
  replay_answers wides line texts certificate text (Ok reply) here same alike h = λ call at came has.
      let names : (kind : Own) → has_kind kind (own_of Replay) ≡ true → has_kind kind (own_of line.verb) ≡ true =
      λ kind is. subst (λ (v : Verb). has_kind kind (own_of v) ≡ true) (sym here) is
      in
      h call line (call_of_verb limit wides line.verb Replay call line here at) (
        record {
          read = has;
          is_verb = here;
          file = subst (λ (list : List ℕ). HasFile call line own.Certificate list) (sym same)
              (file_came call line texts own.Certificate _ refl came (names own.Certificate refl));
        },
        subst (λ (list : List ℕ). HasFile call line own.Scenarios list) (sym alike)
            (file_came call line texts own.Scenarios _ refl came (names own.Scenarios refl)),
      )
