-- What the work on a model answers, whichever call it is done for.
use Rattle.std.specs.Prelude.{◌≡◌, ℕ, ◌^◌, ◌≤◌, List, length}
use Rattle.rob_algebra.specs.Fraction.{Fraction}
use Rattle.rob_meaning.specs.Certificates.{Certificate}
use Rattle.rob_check.specs.declared.verdict.Verdict.{Verdict}
use Rattle.rob_check.specs.declared.verdict.Verdict.TheVariants as verdict
use Rattle.rob_meaning.specs.RobustModel.{RobustModel}
use Rattle.rob_model.specs.declared.place.Spot.TheVariants as spots
use Rattle.rob_gen.specs.Generated.{generated}
use Rattle.rob_top.specs.Swept.{HasSweep}
use Rattle.rob_top.specs.Calls.{Call, Count, WasRaised, limit_of}
use Rattle.rob_top.specs.Files.{HasFile}
use Rattle.rob_top.specs.Generated.{TellsNumber}
use Rattle.rob_top.specs.Headline.{Means}
use Rattle.rob_top.specs.Inputs.{HasModel, HasForms, HasCertificateFile, HasCertificate, HasScenarioFile, HasVariables, TellsNames}
use Rattle.rob_top.specs.Replies.{HasTexts}
use Rattle.rob_commands.specs.Replies.{Replies}
use Rattle.rob_commands.specs.declared.ended.Ended.{Ended}
use Rattle.rob_commands.specs.declared.ended.Ended.TheVariants.{Printed, Accepted, Rejected, TooWide}
use Rattle.rob_top.specs.declared.files.Files.{Files}
use Rattle.rob_top.specs.declared.files.Files.TheVariants as fetch
use Rattle.rob_top.specs.declared.files.Texts.{Texts}
use Rattle.rob_commands.specs.declared.reply.Reply.{Reply}
use Rattle.rob_words.specs.Commands.{Line}
use Rattle.rob_words.specs.Names.{parts_of}
use Rattle.rob_words.specs.Values.{Word}
use Rattle.rob_words.specs.declared.route.Route.{Route}
use Rattle.rob_words.specs.declared.verb.Own.TheVariants as own
use Rattle.rob_words.specs.declared.verb.Verb.{Verb}
use Rattle.rob_words.specs.declared.verb.Verb.TheVariants as verbs
use Rattle.rob_write.specs.Canonical.{model_text}

-- ---- texts that are short enough to read

-- each text has at most 2^30 bytes
pub record IsShort (texts : Texts) : Type 0 where
  pub model : length texts.model.items ≤ 2 ^ 30
  pub certificate : length texts.certificate.items ≤ 2 ^ 30
  pub scenarios : length texts.scenarios.items ≤ 2 ^ 30
  pub tree : length texts.tree.items ≤ 2 ^ 30

-- those that came
abbrev pub IsShortFetch : Files → Type 0
IsShortFetch (fetch.Texts texts) = IsShort texts
IsShortFetch (fetch.Answer reply) = Unit {0}

-- ---- answers

-- the line says this command, its width has this limit, and where a wide number is counted here, it is counted in the
-- call
pub record IsCallAt (limit : ℕ) (wides : Count) (verb : Verb) (call : Call) (line : Line) : Type 0 where
  pub verb_is : line.verb ≡ verb
  pub limit_is : limit_of line ≡ limit
  pub raised : WasRaised wides → WasRaised call.wides

module _ (limit : ℕ) (wides : Count) where
  -- the reply is the answer of each call of this command, at the limit, of which that holds
  abbrev pub Answers : Verb → (Call → Line → Type 0) → Reply → Type 0
  Answers verb Holds reply =
      (call : Call) (line : Line) → IsCallAt limit wides verb call line → Holds call line
      → Means call reply.ended reply.text

  -- that of each one of the command line, whose files came with these texts
  abbrev pub AnswersTexts : Line → Texts → Reply → Type 0
  AnswersTexts line texts reply =
      (call : Call) → IsCallAt limit wides line.verb call line → HasTexts call line texts
      → Means call reply.ended reply.text

  module _ (m : RobustModel) where
    -- that of each one whose model's text is read as the model
    abbrev pub AnswersModel : Line → Texts → Reply → Type 0
    AnswersModel line texts reply =
        (call : Call) → IsCallAt limit wides line.verb call line → HasTexts call line texts → HasModel call line m
        → Means call reply.ended reply.text

    -- and no number of whose set rows and forms is wide
    abbrev pub AnswersWhole : Line → Texts → Reply → Type 0
    AnswersWhole line texts reply =
        (call : Call) → IsCallAt limit wides line.verb call line → HasTexts call line texts → HasForms call line m
        → Means call reply.ended reply.text

    -- that of each one of this command, by this route, where no text counts but the model's
    abbrev pub AnswersRoute : Verb → Route → Reply → Type 0
    AnswersRoute verb way reply = Answers verb (λ call line. (line.way ≡ way) × HasForms call line m) reply

    -- that of each one for `check`, whose certificate's file came with these bytes
    abbrev pub AnswersFile : List ℕ → Reply → Type 0
    AnswersFile bytes reply =
        Answers verbs.Check (λ call line. HasCertificateFile call verbs.Check line m bytes) reply

    -- and which is the text of the certificate
    abbrev pub AnswersCertificate : Certificate → Reply → Type 0
    AnswersCertificate c reply = Answers verbs.Check (λ call line. HasCertificate call verbs.Check line m c) reply

    -- that of each one for `replay`, whose certificate's file and scenario file came with these bytes
    abbrev pub AnswersReplay : List ℕ → List ℕ → Reply → Type 0
    AnswersReplay certificate bytes reply =
        Answers verbs.Replay
        (λ call line. HasCertificateFile call verbs.Replay line m certificate × HasFile call line own.Scenarios bytes)
        reply

    -- the first of which is the text of the certificate
    abbrev pub AnswersPlan : Certificate → List ℕ → Reply → Type 0
    AnswersPlan c bytes reply =
        Answers verbs.Replay
        (λ call line. HasCertificate call verbs.Replay line m c × HasFile call line own.Scenarios bytes) reply

    -- and this has a plan
    abbrev pub AnswersScenarios : Certificate → List ℕ → Reply → Type 0
    AnswersScenarios c bytes reply = Answers verbs.Replay (λ call line. HasScenarioFile call line m c bytes) reply

    -- that of each one whose list of names has this text
    abbrev pub AnswersNames : Verb → List ℕ → Reply → Type 0
    AnswersNames verb names reply =
        Answers verb (λ call line. HasModel call line m × TellsNames line (parts_of names)) reply

    -- whose names are those of the variables with these numbers
    abbrev pub AnswersVariables : Verb → List ℕ → Reply → Type 0
    AnswersVariables verb numbers reply = Answers verb (λ call line. HasVariables call line m numbers) reply

    -- that of each one whose own words these are
    abbrev pub AnswersWords : Verb → List Word → Reply → Type 0
    AnswersWords verb words reply = Answers verb (λ call line. HasModel call line m × (line.own ≡ words)) reply

    -- that of each one for `sweep`, whose words tell this statement and these limits
    abbrev pub AnswersSweep : ℕ → List Fraction → Reply → Type 0
    AnswersSweep n limits reply = Answers verbs.Sweep (λ call line. HasSweep call line m n limits) reply

-- the answer for a verdict
abbrev pub verdict_ended : Verdict → Ended
verdict_ended verdict.Accepted = Accepted
verdict_ended (verdict.Rejected place) = Rejected place
verdict_ended (verdict.TooWide place) = TooWide (spots.Check place)

-- the reply to `text`: the model of the number that the line tells is printed
abbrev pub RepliesGenerated : Line → Reply → Type 0
RepliesGenerated line reply =
    (number : ℕ) × TellsNumber line number × Replies Printed (model_text (generated number)) reply
