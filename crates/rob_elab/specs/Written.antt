-- What is judged when a model is written in whole numbers.
use Rattle.std.specs.Prelude.{◌++◌, ℕ, List}
use Rattle.rob_meaning.specs.RobustModel.{RobustModel}
use Rattle.rob_sets.specs.FirstWide.{Judged, NothingWide}
use Rattle.rob_sets.specs.SetForm.{judged_set}
use Rattle.rob_elab.specs.Forms.{judged_forms}

-- what is judged when the model is written in whole numbers, in order: its sets before its forms
abbrev pub judged : RobustModel → List Judged
judged m = judged_set m ++ judged_forms m

-- nothing is wide when the model is written in whole numbers
abbrev pub IsWritten : ℕ → RobustModel → Type 0
IsWritten limit m = NothingWide limit m (judged m)
