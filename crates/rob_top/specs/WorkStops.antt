-- What the work on a model answers where it stops.
use Rattle.std.specs.Prelude.{◌≡◌, [], length, All}
use Rattle.rob_cert.specs.declared.ending.Stop.{Stop}
use Rattle.rob_cert.specs.declared.ending.Stop.TheVariants as stop
use Rattle.rob_meaning.specs.RobustModel.{RobustModel}
use Rattle.rob_meaning.specs.SetRows.{set_rows}
use Rattle.rob_rules.specs.declared.error.ModelErr.{ModelErr}
use Rattle.rob_rules.specs.declared.error.ModelErr.TheVariants as unread
use Rattle.rob_report.specs.Places.{IsSpotOf}
use Rattle.rob_report.specs.Rounds.{IsRoundOf}
use Rattle.rob_report.specs.Spots.{too_wide_line, empty_set_lines}
use Rattle.rob_sets.specs.declared.error.ElabErr.{ElabErr}
use Rattle.rob_sets.specs.declared.error.ElabErr.TheVariants as refused
use Rattle.rob_commands.specs.Answers.{model_fault_text}
use Rattle.rob_commands.specs.Replies.{Replies}
use Rattle.rob_top.specs.Routes.{with_rounds}
use Rattle.rob_commands.specs.declared.ended.Ended.TheVariants.{Model, EmptySet, TooWide}
use Rattle.rob_commands.specs.declared.reply.Reply.{Reply}
use Rattle.rob_words.specs.declared.route.Route.{Route}

-- the reply where the model's text breaks a rule; memory has none
abbrev pub RepliesUnread : ModelErr → Reply → Type 0
RepliesUnread (unread.Rule rule number) reply = Replies (Model rule number) (model_fault_text rule number) reply
RepliesUnread unread.Memory reply = ⊥

module _ (m : RobustModel) where
  -- the reply where set rows or forms were refused: the spot of the wide number, before which no round comes; memory
  -- has none
  abbrev pub RepliesRefused : Route → ElabErr → Reply → Type 0
  RepliesRefused way (refused.Wide spot) reply =
      Replies (TooWide spot) (with_rounds way m [] (too_wide_line m spot)) reply
  RepliesRefused way refused.Memory reply = ⊥

  -- the spot is one of the model's
  abbrev pub IsRefusedOf : ElabErr → Type 0
  IsRefusedOf (refused.Wide spot) = IsSpotOf m spot
  IsRefusedOf refused.Memory = Unit {0}

  -- the reply where the route stopped: the weights of an empty set, or the spot of the wide number, by cutting planes
  -- with the rounds behind it; memory has none
  abbrev pub RepliesStop : Route → Stop → Reply → Type 0
  RepliesStop way (stop.EmptySet weights) reply = Replies (EmptySet weights) (empty_set_lines m weights) reply
  RepliesStop way (stop.Wide spot trace) reply =
      Replies (TooWide spot) (with_rounds way m trace.rounds (too_wide_line m spot)) reply
  RepliesStop way stop.Memory reply = ⊥

  -- there is a weight for each set row; the spot and the rounds are the model's
  abbrev pub IsStopOf : Stop → Type 0
  IsStopOf (stop.EmptySet weights) = length weights ≡ length (set_rows m)
  IsStopOf (stop.Wide spot trace) = IsSpotOf m spot × All (IsRoundOf m) trace.rounds
  IsStopOf stop.Memory = Unit {0}
