-- A number that is wide for a model that admits no joint scenario is wide before that is known.
use Rattle.std.proofs.Common.{◌≡◌, ℕ, List, inl, inr, refl}
use Rattle.rob_dualize.specs.Models.{IsWideIn}
use Rattle.rob_dualize.specs.Solving.{IsWideOnPath}
use Rattle.rob_meaning.specs.RobustModel.{RobustModel}
use Rattle.rob_meaning.specs.UncertaintySet.{IsEmptySet}
use Rattle.rob_model.specs.declared.place.Program.TheVariants as programs
use Rattle.rob_model.specs.declared.place.Spot.{Spot}
use Rattle.rob_model.specs.declared.place.Spot.TheVariants as spots
use Rattle.rob_top.specs.Endings.{IsWideBefore, admitting, writing as before_writing}
use Rattle.rob_elab.specs.Written.{IsWritten}

module _ (limit : ℕ) (m : RobustModel) where
  -- it is one of a row of the set's program, since all else comes behind an admitted scenario
  pub path_in_set : IsEmptySet m → (spot : Spot) → IsWideOnPath limit m spot
      → (basis : List ℕ) × (i : ℕ) × (spot ≡ spots.Dictionary programs.Set basis i)
  path_in_set none (spots.Dictionary programs.Set basis i) h = (basis, i, refl)
  path_in_set none (spots.Dictionary programs.Reform basis i) h = absurd (none h.0.0 h.0.1)
  path_in_set none (spots.Dictionary programs.Master basis i) h = absurd h
  path_in_set none (spots.Dictionary (programs.SearchPlan form) basis i) h = absurd h
  path_in_set none (spots.Dictionary (programs.SearchMove form) basis i) h = absurd h
  path_in_set none (spots.Coefficient where_it_is) h = absurd h
  path_in_set none (spots.Clearing where_it_is) h = absurd h
  path_in_set none (spots.Sum where_it_is j) h = absurd h
  path_in_set none (spots.Check place) h = absurd h
  path_in_set none (spots.Replay number) h = absurd h

  before_admitting : IsEmptySet m → (spot : Spot) → IsWritten limit m → IsWideOnPath limit m spot
      → IsWideBefore limit m spot
  before_admitting none spot written h =
      let is = path_in_set none spot h in admitting is.0 is.1 is.2 written h

  pub before_it : IsEmptySet m → (spot : Spot) → IsWideIn limit m spot → IsWideBefore limit m spot
  before_it none spot (inl first) = before_writing first
  before_it none spot (inr wide) = before_admitting none spot wide.0 wide.1
