-- Why a step of the route stops: memory was refused, or a number at a place is wide.
use Rattle.std.specs.Prelude.{◌≡◌, ℕ, suc, ◌<◌, ◌^◌, List, ◌∷◌, ⊤}
use Rattle.rob_model.specs.declared.place.Spot.{Spot}
use Rattle.rob_model.specs.declared.place.Spot.TheVariants.{Clearing, Sum}
use Rattle.rob_model.specs.declared.place.Where.TheVariants as of
use Rattle.rob_elab.specs.declared.forms.Forms.{Forms}
use Rattle.rob_cert.specs.declared.trace.Round.{Round as Traced}
use Rattle.rob_simplex.specs.Solvers.{positions}
use Rattle.rob_solver.specs.declared.solving.Stopped.{Stopped}
use Rattle.rob_solver.specs.declared.solving.Stopped.TheVariants as unsolved
use Rattle.rob_cert.specs.declared.ending.Stop.{Stop}
use Rattle.rob_cert.specs.declared.ending.Stop.TheVariants.{EmptySet, Wide, Memory}
use Rattle.rob_dualize.specs.Ending.{IsWideStop}
use Rattle.rob_runs.specs.Cuts.{Cut}
use Rattle.rob_runs.specs.Spots.{HasWidePrefix, SomeWide}
use Rattle.rob_sets.specs.declared.error.Stop.{Stop as Refusal}
use Rattle.rob_sets.specs.declared.error.Stop.TheVariants as refusal
use Rattle.rob_cuts.specs.Master.{cut_product}

-- the stop is at a place of that kind, or memory was refused
abbrev pub StopsWith : (Spot → Type 0) → Stop → Type 0
StopsWith P (EmptySet weights) = ⊥
StopsWith P (Wide place trace) = P place
StopsWith P Memory = ⊤

-- a prefix of the sum of the cut's number in some column is wide
abbrev pub IsInSum : ℕ → Forms → Cut → Spot → Type 0
IsInSum limit forms c place =
    (j : ℕ) × (place ≡ Sum (of.Cut c.form) j) × (j < suc (suc forms.columns))
    × HasWidePrefix limit (suc forms.params) (cut_product forms c j)

-- a cleared number of the cut is wide
abbrev pub IsInClearing : ℕ → Cut → Spot → Type 0
IsInClearing limit c place = (place ≡ Clearing (of.Cut c.form)) × SomeWide limit (c.base ∷ c.vector)

-- the stop is at the place where a number was wide, and for memory where that was refused
abbrev pub IsRefused : Spot → Refusal → Stop → Type 0
IsRefused place refusal.Wide stop = IsWideStop place stop
IsRefused place refusal.Memory stop = stop ≡ Memory

-- the stop with the rounds before it
abbrev pub stop_after : Stop → List Traced → Stop
stop_after (EmptySet weights) rounds = EmptySet weights
stop_after (Wide place trace) rounds = Wide place (record { rounds = rounds })
stop_after Memory rounds = Memory

-- a solver that stopped has fewer than 2^31 positions
abbrev pub HasFewRows : {N : Type 0} → Stopped N → Type 0
HasFewRows (unsolved.Wide solver stop) = positions solver < 2 ^ 31
HasFewRows unsolved.Memory = ⊤
