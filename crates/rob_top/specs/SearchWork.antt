-- What the work of `worst` answers, whichever call it is done for.
use Rattle.std.specs.Prelude.{◌≢◌, ◌⊎◌, ℕ, pos, List, map}
use Rattle.rob_algebra.specs.Fraction.{Fraction, of_int, ◌+ℚ◌}
use Rattle.rob_algebra.specs.Width.{Fits, IsWide}
use Rattle.rob_cert.specs.declared.ending.Worst.{Worst}
use Rattle.rob_cert.specs.declared.ending.Worst.TheVariants.{At, Along}
use Rattle.rob_meaning.specs.Certificates.{Certificate}
use Rattle.rob_meaning.specs.RobustModel.{RobustModel}
use Rattle.rob_model.specs.View.{scenario_of}
use Rattle.rob_model.specs.declared.place.Spot.TheVariants as spots
use Rattle.rob_model.specs.declared.place.Where.TheVariants.{Cost}
use Rattle.rob_report.specs.Spots.{too_wide_line}
use Rattle.rob_report.specs.Worst.{along_text, greatest_text}
use Rattle.rob_runs.specs.Spots.{slack_of}
use Rattle.rob_top.specs.Calls.{Count, WasRaised}
use Rattle.rob_top.specs.Inputs.{HasCertificate, HasCertificateFile, HasPlan, HasSought, TellsForm}
use Rattle.rob_commands.specs.Replies.{Replies}
use Rattle.rob_top.specs.Work.{Answers}
use Rattle.rob_commands.specs.declared.ended.Ended.TheVariants.{Printed, TooWide}
use Rattle.rob_commands.specs.declared.reply.Reply.{Reply}
use Rattle.rob_words.specs.Values.{Word}
use Rattle.rob_words.specs.declared.verb.Verb.TheVariants as verbs

module _ (limit : ℕ) (wides : Count) (m : RobustModel) where
  -- the reply is the answer of each call for `worst`, at the limit, whose certificate's file came with these bytes, and
  -- whose words name the form so
  abbrev pub AnswersSearch : List ℕ → Word → Reply → Type 0
  AnswersSearch bytes name reply =
      Answers limit wides verbs.Worst
      (λ call line. HasCertificateFile call verbs.Worst line m bytes × TellsForm line name) reply

  -- the first of which is the text of the certificate
  abbrev pub AnswersSearched : Certificate → Word → Reply → Type 0
  AnswersSearched c name reply =
      Answers limit wides verbs.Worst (λ call line. HasCertificate call verbs.Worst line m c × TellsForm line name)
      reply

  -- and this has a plan
  abbrev pub AnswersPlanned : Certificate → Word → Reply → Type 0
  AnswersPlanned c name reply =
      Answers limit wides verbs.Worst (λ call line. HasPlan call verbs.Worst line m c × TellsForm line name) reply

  -- and the name is this form's
  abbrev pub AnswersSought : Certificate → ℕ → Reply → Type 0
  AnswersSought c form reply = Answers limit wides verbs.Worst (λ call line. HasSought call line m c form) reply

-- ---- worst cases

-- what a search tells has a scale that isn't 0
abbrev pub HasScale : {N : Type 0} → (N → Fraction) → Worst N → Type 0
HasScale value (At scale peak constant scenario basis amounts) = value scale ≢ of_int (pos 0)
HasScale value (Along ray basis column) = Unit {0}

module _ (limit : ℕ) (m : RobustModel) (form : ℕ) (wides : Count) where
  -- the reply to a worst scenario: it is printed with its slack, and both numbers of that fit; or one of them is wide
  abbrev pub RepliesSlack : Fraction → Fraction → Fraction → List Fraction → Reply → Type 0
  RepliesSlack scale peak constant scenario reply =
      (Replies Printed (greatest_text m form (slack_of scale peak constant) scenario) reply
      × (Fits limit (peak +ℚ constant) × Fits limit (slack_of scale peak constant)))
      ⊎ (Replies (TooWide (spots.Sum (Cost form) 0)) (too_wide_line m (spots.Sum (Cost form) 0)) reply × WasRaised wides
      × (IsWide limit (peak +ℚ constant) ⊎ IsWide limit (slack_of scale peak constant)))

  -- the reply to what a search tells
  abbrev pub RepliesWorst : {N : Type 0} → (N → Fraction) → Worst N → Reply → Type 0
  RepliesWorst value (At scale peak constant scenario basis amounts) reply =
      RepliesSlack (value scale) (value peak) (of_int constant) (scenario_of value scenario) reply
  RepliesWorst value (Along ray basis column) reply = Replies Printed (along_text m form (map value ray)) reply
