-- What the work of `gen` on a number replies, whichever call it is done for.
use Rattle.std.specs.Prelude.{◌≡◌, ℕ, ◌++◌, List, Option, Some, None, IfSome}
use Rattle.rob_gen.specs.Generated.{generated}
use Rattle.rob_meaning.specs.Certificates.{Status}
use Rattle.rob_meaning.specs.RobustModel.{RobustModel}
use Rattle.rob_model.specs.declared.place.Spot.{Spot}
use Rattle.rob_top.specs.Calls.{Call, Count, WasRaised}
use Rattle.rob_top.specs.Compared.{TellsStatus, TellsWide, heading}
use Rattle.rob_top.specs.Headline.{Means}
use Rattle.rob_commands.specs.Replies.{Replies}
use Rattle.rob_commands.specs.declared.ended.Ended.{Ended}
use Rattle.rob_commands.specs.declared.ended.Ended.TheVariants.{Printed, TooWide}
use Rattle.rob_commands.specs.declared.reply.Reply.{Reply}
use Rattle.rob_words.specs.Commands.{Line, IsSpelled}
use Rattle.rob_words.specs.declared.route.Route.{Route}
use Rattle.rob_words.specs.declared.route.Route.TheVariants.{Dual, Cuts}

-- the answer is that of each call with the line, where as many wide numbers are counted
abbrev pub AnswersNumber : Line → Count → Reply → Type 0
AnswersNumber line wides reply =
    (call : Call) → IsSpelled call.words line → call.wides ≡ wides → Means call reply.ended reply.text

-- the answer by the spots that the routes told, the counterpart first
abbrev pub first_ended : (dual cuts : Option Spot) → Ended
first_ended (Some spot) cuts = TooWide spot
first_ended None (Some spot) = TooWide spot
first_ended None None = Printed

module _ (limit : ℕ) (m : RobustModel) where
  -- what a route told: a status, or a spot
  abbrev pub IsLineOf : Route → Option Spot → List ℕ → Type 0
  IsLineOf way None text = (status : Status) × TellsStatus limit m way status text
  IsLineOf way (Some spot) text = TellsWide limit m way spot text

-- where a spot is told, a wide number is counted
abbrev pub RoseAtSpot : Count → Option Spot → Type 0
RoseAtSpot wides told = IfSome told (λ spot. WasRaised wides)

-- the reply to `gen` for a number: the summary of what the routes told
pub record RepliesCompared (limit : ℕ) (wides : Count) (number : ℕ) (reply : Reply) : Type 0 where
  pub dual : Option Spot
  pub cuts : Option Spot
  pub by_dual : List ℕ
  pub by_cuts : List ℕ
  pub dual_told : IsLineOf limit (generated number) Dual dual by_dual
  pub cuts_told : IsLineOf limit (generated number) Cuts cuts by_cuts
  pub dual_counted : RoseAtSpot wides dual
  pub cuts_counted : RoseAtSpot wides cuts
  pub replies : Replies (first_ended dual cuts) (heading number ++ (by_dual ++ by_cuts)) reply
