-- Refusals: words that are no command line, a file that doesn't come, a number that is wide, and a text that breaks a
-- rule.
use Rattle.std.specs.Prelude.{◌≡◌, ℕ, List, [], Err}
use Rattle.rob_cert.specs.declared.trace.Round.{Round}
use Rattle.rob_check.specs.Conditions.{verdict_of}
use Rattle.rob_check.specs.declared.verdict.Verdict.TheVariants as verdict
use Rattle.rob_cuts.specs.Rounds.{RoundFits}
use Rattle.rob_meaning.specs.Certificates.{Certificate}
use Rattle.rob_meaning.specs.Places.{Each}
use Rattle.rob_meaning.specs.RobustModel.{RobustModel}
use Rattle.rob_model.specs.declared.place.Place.{Place}
use Rattle.rob_model.specs.declared.place.Spot.{Spot}
use Rattle.rob_model.specs.declared.place.Spot.TheVariants.{Check, Replay}
use Rattle.rob_outside.specs.Files.{missing, too_long}
use Rattle.rob_rules.specs.Texts.{Breaks}
use Rattle.rob_replay.specs.Outcome.{is_wide, outcome}
use Rattle.rob_replay.specs.View.{Gives}
use Rattle.rob_report.specs.Spots.{too_wide_line}
use Rattle.rob_sets.specs.FirstWide.{IsFirstWide}
use Rattle.rob_commands.specs.Answers.{certificate_fault_text, missing_text, model_fault_text, read_text, too_long_text, words_text}
use Rattle.rob_top.specs.Calls.{Call, WasRaised, limit_of}
use Rattle.rob_top.specs.Commands.{IsElaborating, IsSolving}
use Rattle.rob_top.specs.Files.{Came, HasFile, IsFirstAbsent, NamesFile, requests}
use Rattle.rob_top.specs.Inputs.{BreaksCertificate, HasCertificate, HasCertificateFile, HasForms, HasModel, HasScenarioFile, HasSought, LacksPlan}
use Rattle.rob_top.specs.Routes.{IsWideBy, with_rounds}
use Rattle.rob_top.specs.Searched.{IsWideSought, certificate_vector}
use Rattle.rob_words.specs.Commands.{IsCommandLine, Line, IsSpelled}
use Rattle.rob_words.specs.Values.{Word}
use Rattle.rob_words.specs.declared.verb.Own.TheVariants as own
use Rattle.rob_elab.specs.Written.{judged}
use Rattle.rob_words.specs.declared.verb.Verb.TheVariants as verbs
use Rattle.rob_words.specs.declared.verb.Verb.{Verb}

module _ (call : Call) where
  -- the words are no command line
  abbrev pub IsNoCommandLine : List ℕ → Type 0
  IsNoCommandLine text = (IsCommandLine call.words → ⊥) × (text ≡ words_text)

  -- there is no file of that name, and the files in front of it came
  abbrev pub IsMissing : List ℕ → Type 0
  IsMissing text = (name : Word) × IsFirstAbsent call missing name × (text ≡ missing_text name)

  -- the file of that name is too long, and the files in front of it came
  abbrev pub IsTooLong : List ℕ → Type 0
  IsTooLong text = (name : Word) × IsFirstAbsent call too_long name × (text ≡ too_long_text name)

  -- the words name a file, and a fetch failed in this call
  abbrev pub IsUnread : List ℕ → Type 0
  IsUnread text = NamesFile call.words × WasRaised call.read_faults × (text ≡ read_text)

  -- the spot's number is wide: of the numbers of the set rows and forms it is the first; or it is a number of a check,
  -- before which no condition fails and no number is wide; or it is one of that record's values, and no record before
  -- it breaks a rule or has a wide number; or it is one on the way to the worst case of a form
  pub data IsWideSpot (line : Line) (m : RobustModel) (spot : Spot) : Type 0 where
    elaborating : HasModel call line m → IsElaborating line.verb
        → IsFirstWide (limit_of line) m (judged m) spot → IsWideSpot line m spot
    checking : (c : Certificate) (place : Place) → HasCertificate call verbs.Check line m c → spot ≡ Check place
        → verdict_of (limit_of line) m c ≡ verdict.TooWide place → IsWideSpot line m spot
    replaying : (c : Certificate) (bytes : List ℕ) (number : ℕ) → HasScenarioFile call line m c bytes
        → spot ≡ Replay number → Gives (outcome (limit_of line) m c.plan) bytes (Err (is_wide number))
        → IsWideSpot line m spot
    searching : (c : Certificate) (form : ℕ) → HasSought call line m c form
        → IsWideSought (limit_of line) m form (certificate_vector c) spot → IsWideSpot line m spot

  -- a number is wider than the command line's width, and the ledger has counted it in this call; by cutting planes no
  -- round comes before it
  pub record IsTooWide (spot : Spot) (text : List ℕ) : Type 0 where
    pub line : Line
    pub m : RobustModel
    pub wide : IsWideSpot line m spot
    pub raised : WasRaised call.wides
    pub printed : text ≡ with_rounds line.way m [] (too_wide_line m spot)

  -- the same on the way of `solve` and `prove` by the line's route; by cutting planes the rounds before it are told
  -- behind its spot, and the numbers of their cuts fit
  pub record IsTooWideOnWay (spot : Spot) (text : List ℕ) : Type 0 where
    pub line : Line
    pub m : RobustModel
    pub rounds : List Round
    pub forms : HasForms call line m
    pub solves : IsSolving line.verb
    pub wide : IsWideBy line.way (limit_of line) m spot rounds
    pub raised : WasRaised call.wides
    pub rounds_fit : Each (RoundFits (limit_of line)) rounds
    pub printed : text ≡ with_rounds line.way m rounds (too_wide_line m spot)

  -- the files came, and the model's text breaks the rule at the line, first
  pub record IsNoModel (rule number : ℕ) (text : List ℕ) : Type 0 where
    pub line : Line
    pub spelled : IsSpelled call.words line
    pub came : Each (Came call) (requests line)
    pub bytes : List ℕ
    pub file : HasFile call line own.Model bytes
    pub breaks : Breaks (limit_of line) bytes rule number
    pub printed : text ≡ model_fault_text rule number

  -- the certificate's text breaks the rule at the line, first
  pub record IsNoCertificate (rule number : ℕ) (text : List ℕ) : Type 0 where
    pub line : Line
    pub m : RobustModel
    pub bytes : List ℕ
    pub file : HasCertificateFile call verbs.Check line m bytes
    pub breaks : BreaksCertificate (limit_of line) m bytes rule number
    pub printed : text ≡ certificate_fault_text rule number

  -- the certificate gives this command no plan, so the rule and the line are named
  pub record IsNoPlan (verb : Verb) (rule number : ℕ) (text : List ℕ) : Type 0 where
    pub line : Line
    pub m : RobustModel
    pub lacks : LacksPlan call verb line m rule number
    pub printed : text ≡ certificate_fault_text rule number
