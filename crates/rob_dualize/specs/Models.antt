-- What is answered of one model: it is written in whole numbers, and its robust counterpart is solved.
use Rattle.std.specs.Prelude.{◌≡◌, ◌⊎◌, ℕ, [], Result, IfErr, ⊤}
use Rattle.rob_meaning.specs.RobustModel.{RobustModel}
use Rattle.rob_model.specs.declared.place.Spot.{Spot}
use Rattle.rob_number.specs.Counts.{NeverFell, Rose}
use Rattle.rob_sets.specs.FirstWide.{IsFirstWide}
use Rattle.rob_sets.specs.declared.error.ElabErr.{ElabErr}
use Rattle.rob_sets.specs.declared.error.ElabErr.TheVariants as refused
use Rattle.rob_elab.specs.Written.{IsWritten, judged}
use Rattle.rob_cert.specs.declared.ending.Stop.{Stop}
use Rattle.rob_cert.specs.declared.ending.Stop.TheVariants.{EmptySet, Wide, Memory}
use Rattle.rob_dualize.specs.Ending.{IsWideStop}
use Rattle.rob_dualize.specs.Solving.{IsWideOnPath, TellsEmpty}

-- the spot is wide for the model by the reformulation route: where its set rows and forms are written in whole numbers
-- it is the first; or nothing is wide there, and it is a row of a basis on the path of the set's program or of the
-- counterpart, for which that program is refused
abbrev pub IsWideIn : ℕ → RobustModel → Spot → Type 0
IsWideIn limit m spot = IsFirstWide limit m (judged m) spot ⊎ (IsWritten limit m × IsWideOnPath limit m spot)

-- why a model has no certificate: nothing is wide when it is written in whole numbers, and no joint scenario is
-- admitted, as the weights show; or the spot is wide, and there are no rounds; memory is free
abbrev pub HasModelCause : ℕ → RobustModel → Stop → Type 0
HasModelCause limit m (EmptySet weights) = IsWritten limit m × TellsEmpty limit m weights
HasModelCause limit m (Wide spot trace) = IsWideIn limit m spot × (trace.rounds ≡ [])
HasModelCause limit m Memory = ⊤

-- the stop that a refusal is
abbrev pub IsRefusal : ElabErr → Stop → Type 0
IsRefusal (refused.Wide spot) stop = IsWideStop spot stop
IsRefusal refused.Memory stop = stop ≡ Memory

-- a stop for width has raised the count of wide numbers
abbrev pub RoseIfStopped : ℕ → ℕ → Stop → Type 0
RoseIfStopped before now (EmptySet weights) = ⊤
RoseIfStopped before now (Wide spot trace) = Rose before now
RoseIfStopped before now Memory = ⊤

-- neither count fell, and that of wide numbers rose where the model was refused for width
pub record CountsModel {S T : Type 0} (ops_of wides_of : S → ℕ) (before now : S) (result : Result T Stop) : Type 0 where
  pub never_fell : NeverFell ops_of wides_of before now
  pub refused : IfErr result (RoseIfStopped (wides_of before) (wides_of now))
