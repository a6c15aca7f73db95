-- A model is written, or a number of it is wide: its sets decide before its forms.
use Rattle.std.proofs.Common.{ℕ}
use Rattle.rob_meaning.specs.RobustModel.{RobustModel}
use Rattle.rob_meaning.proofs.Lists.EachLemmas.{each_append}
use Rattle.rob_sets.proofs.Judging.JudgedLemmas.{first_left, first_right}
use Rattle.rob_sets.specs.FirstWide.{HasCause, IsWideThere, NothingWide}
use Rattle.rob_sets.specs.SetForm.{judged_set}
use Rattle.rob_sets.specs.declared.error.ElabErr.{ElabErr}
use Rattle.rob_sets.specs.declared.error.ElabErr.TheVariants as refused
use Rattle.rob_elab.specs.Forms.{judged_forms}
use Rattle.rob_elab.specs.Written.{IsWritten, judged}

module _ (limit : ℕ) (m : RobustModel) where
  -- its sets have a wide number
  pub set_cause : (e : ElabErr) → HasCause limit m (judged_set m) e → HasCause limit m (judged m) e
  set_cause (refused.Wide spot) h = first_left limit m (judged_set m) (judged_forms m) spot h
  set_cause refused.Memory h = tt

  -- its sets have none, but its forms have one
  pub forms_cause : (e : ElabErr) → NothingWide limit m (judged_set m) → HasCause limit m (judged_forms m) e
      → HasCause limit m (judged m) e
  forms_cause (refused.Wide spot) none h = first_right limit m (judged_set m) (judged_forms m) spot none h
  forms_cause refused.Memory none h = tt

  -- neither has one
  pub is_written : NothingWide limit m (judged_set m) → NothingWide limit m (judged_forms m) → IsWritten limit m
  is_written h k = each_append (λ j. IsWideThere limit m j → ⊥) (judged_set m) (judged_forms m) h k
