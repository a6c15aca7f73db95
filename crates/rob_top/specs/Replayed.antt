-- The answers of `replay`: the certificate's plan in each joint scenario of a file.
use Rattle.std.specs.Prelude.{◌≡◌, ℕ, List, Result, Ok, Err}
use Rattle.rob_meaning.specs.Certificates.{Certificate}
use Rattle.rob_meaning.specs.Guarantee.{HasBound}
use Rattle.rob_meaning.specs.Places.{Each}
use Rattle.rob_meaning.specs.RobustModel.{RobustModel}
use Rattle.rob_model.specs.declared.place.Spot.TheVariants as spot
use Rattle.rob_replay.specs.Files.{IsFile}
use Rattle.rob_replay.specs.Lines as replay
use Rattle.rob_replay.specs.Outcome.{Refusal, breaks, is_wide, outcome}
use Rattle.rob_replay.specs.Replayed.{IsTable, ShowsBound}
use Rattle.rob_replay.specs.View.{Gives}
use Rattle.rob_report.specs.Tables.{table_of}
use Rattle.rob_commands.specs.Answers.{scenarios_fault_text}
use Rattle.rob_top.specs.Calls.{Call, limit_of}
use Rattle.rob_top.specs.Inputs.{HasScenarioFile}
use Rattle.rob_commands.specs.declared.ended.Ended.{Ended}
use Rattle.rob_commands.specs.declared.ended.Ended.TheVariants.{Printed, Scenarios, TooWide}
use Rattle.rob_words.specs.Commands.{Line}

-- the answer for the outcome of a file's records: its table, the rule that is broken first, or the first record with a
-- wide number
abbrev pub replay_ended : Result (List replay.Line) Refusal → Ended
replay_ended (Ok lines) = Printed
replay_ended (Err (breaks rule number)) = Scenarios rule number
replay_ended (Err (is_wide number)) = TooWide (spot.Replay number)

module _ (call : Call) where
  -- the file is these records, and its table is printed: each line is outside, or inside with the values of the
  -- certificate's plan in the joint scenario of its record. No number of a record is wide. Where the plan has its
  -- bound, each inside line shows no slack below 0, no slack of an equality but 0, and an objective no worse than it
  pub record IsReplayed (text : List ℕ) : Type 0 where
    pub line : Line
    pub m : RobustModel
    pub c : Certificate
    pub bytes : List ℕ
    pub has : HasScenarioFile call line m c bytes
    pub rows : List (List (List ℕ))
    pub file : IsFile bytes rows
    pub lines : List replay.Line
    pub table : IsTable (limit_of line) m c.plan rows lines
    pub narrow : outcome (limit_of line) m c.plan rows ≡ Ok lines
    pub bounded : HasBound m c.plan c.value → Each (ShowsBound m c.value) lines
    pub printed : text ≡ table_of m lines

  -- the scenario file breaks the rule at the record, first, and no number of a record before it is wide
  pub record IsNoScenarios (rule number : ℕ) (text : List ℕ) : Type 0 where
    pub line : Line
    pub m : RobustModel
    pub c : Certificate
    pub bytes : List ℕ
    pub has : HasScenarioFile call line m c bytes
    pub refused : Gives (outcome (limit_of line) m c.plan) bytes (Err (breaks rule number))
    pub printed : text ≡ scenarios_fault_text rule number
