-- A model in whole numbers: its forms and its set rows together, within a limit.
use Rattle.std.specs.Prelude.{ℕ}
use Rattle.rob_meaning.specs.RobustModel.{RobustModel}
use Rattle.rob_sets.specs.SetForm.{IsSetForm, SetFits}
use Rattle.rob_sets.specs.declared.set_form.SetForm.{SetForm}
use Rattle.rob_elab.specs.Forms.{FormsFit, IsForms}
use Rattle.rob_elab.specs.declared.forms.Forms.{Forms}

-- the forms are those of the model, the set rows are those of its sets, and no number of theirs is over the limit in
-- size
pub record IsElaborated (limit : ℕ) (m : RobustModel) (forms : Forms) (set : SetForm) : Type 0 where
  pub are_forms : IsForms m forms
  pub is_set : IsSetForm m set
  pub forms_fit : FormsFit limit forms
  pub set_fits : SetFits limit set

-- the forms and the set rows are those of one model, which is not told
pub record AreElaborated (limit : ℕ) (forms : Forms) (set : SetForm) : Type 0 where
  pub model : RobustModel
  pub elaborated : IsElaborated limit model forms set
  pub open elaborated use *
