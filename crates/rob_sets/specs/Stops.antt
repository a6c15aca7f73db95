-- Why a computation stops.
use Rattle.std.specs.Prelude.{◌≡◌}
use Rattle.rob_model.specs.declared.place.Spot.{Spot}
use Rattle.rob_sets.specs.declared.error.ElabErr.{ElabErr}
use Rattle.rob_sets.specs.declared.error.ElabErr.TheVariants as Refused
use Rattle.rob_sets.specs.declared.error.Stop.{Stop}
use Rattle.rob_sets.specs.declared.error.Stop.TheVariants.{Wide, Memory}

-- where it stops for width, the cause is there; want of memory has none
abbrev pub StopsFor : Type 0 → Stop → Type 0
StopsFor cause Wide = cause
StopsFor cause Memory = Unit {0}

-- what a call answers that stops at a spot
abbrev pub error_of : Stop → Spot → ElabErr
error_of Wide spot = Refused.Wide spot
error_of Memory spot = Refused.Memory

-- where a call answers that a number is wide, it names the spot, and the cause is there; want of memory has none
abbrev pub StopsWith : Spot → Type 0 → ElabErr → Type 0
StopsWith spot cause (Refused.Wide other) = (other ≡ spot) × cause
StopsWith spot cause Refused.Memory = Unit {0}
