-- How a call of `gen` must end.
use Rattle.std.specs.Prelude.{◌≡◌, ◌⊎◌, ℕ}
use Rattle.rob_algebra.specs.Fraction.{Fraction}
use Rattle.rob_gen.specs.Generated.{generated}
use Rattle.rob_meaning.specs.Certificates.{Status}
use Rattle.rob_meaning.specs.Proves.{HasStatus}
use Rattle.rob_meaning.specs.RobustModel.{RobustModel}
use Rattle.rob_model.specs.declared.place.Spot.{Spot}
use Rattle.rob_top.specs.Calls.{Call, limit_of}
use Rattle.rob_top.specs.Compared.{AsksFor}
use Rattle.rob_top.specs.Endings.{IsUnput}
use Rattle.rob_top.specs.Routes.{IsWideOnWay}
use Rattle.rob_commands.specs.declared.ended.Ended.{Ended}
use Rattle.rob_commands.specs.declared.ended.Ended.TheVariants.{Printed, TooWide}
use Rattle.rob_words.specs.Commands.{Line}
use Rattle.rob_words.specs.declared.route.Route.{Route}

-- an answer of `gen`: the summary with a status that the model has; or a number on the way of a route is wide; or a put
-- or memory was refused. No other is: no set is empty, and no file is asked for
abbrev pub IsComparedAnswer : ℕ → RobustModel → Ended → Type 0
IsComparedAnswer limit m Printed = (status : Status) × (v : Fraction) × HasStatus m status v
IsComparedAnswer limit m (TooWide spot) = (way : Route) × IsWideOnWay way limit m spot
IsComparedAnswer limit m ended = IsUnput ended

module _ (call : Call) (result : Ended) where
  -- the call of `gen` ended as its words say
  pub record MustEndCompared : Type 0 where
    -- it is one of these
    pub answer : (line : Line) (number : ℕ) → AsksFor call line number
        → IsComparedAnswer (limit_of line) (generated number) result
    -- no number on the way of either route is wide, so both statuses are printed
    pub narrow : (line : Line) (number : ℕ) → AsksFor call line number
        → ((way : Route) (spot : Spot) → IsWideOnWay way (limit_of line) (generated number) spot → ⊥)
        → (result ≡ Printed) ⊎ IsUnput result
