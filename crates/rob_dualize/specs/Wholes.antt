-- The robust program that forms and set rows are, as the code holds them.
use Rattle.std.specs.Prelude.{◌≡◌, ℕ, suc, ◌+◌, ◌-◌, ◌^◌, ◌<◌, ◌≤◌, ℤ, nat_abs, [], length, slice_index_or}
use Rattle.rob_linear.specs.Vectors.{at}
use Rattle.rob_linear.specs.Programs.{Program}
use Rattle.rob_meaning.specs.Forms.{matrix_at}
use Rattle.rob_meaning.specs.RobustModel.{RobustModel}
use Rattle.rob_meaning.specs.WellFormed.{IsModel}
use Rattle.rob_model.specs.View.{sense_of}
use Rattle.rob_sets.specs.SetForm.{IsSetForm}
use Rattle.rob_sets.specs.declared.set_form.SetForm.{SetForm}
use Rattle.rob_elab.specs.Elaborated.{AreElaborated}
use Rattle.rob_elab.specs.Forms.{IsForms}
use Rattle.rob_elab.specs.declared.forms.Forms.{Forms}
use Rattle.rob_counterpart.specs.RobustProgram.{RobustProgram}
use Rattle.rob_counterpart.specs.Counterpart.{cell, sign_of}
use Rattle.rob_counterpart.specs.Reform.{reform, tau_cost}
use Rattle.rob_dualize.specs.SetProgram.{left_sides, right_sides}
use Rattle.rob_dualize.specs.declared.elaborated.Elaborated.{Elaborated}

-- the whole numbers of the forms and the set rows
abbrev pub wholes : Forms → SetForm → RobustProgram
wholes forms set = record {
  forms = length forms.matrices;
  parameters = forms.params;
  decisions = forms.columns;
  set_rows = length set.rows;
  set_columns = set.columns;
  form = λ i k j. cell (matrix_at forms.matrices i) k j;
  left = λ r c. cell (left_sides set.rows) r c;
  right = at (right_sides set.rows);
  sense = sign_of (sense_of forms.sense);
}

-- their counterpart
abbrev pub counterpart_of : Forms → SetForm → Program
counterpart_of forms set = reform (wholes forms set)

-- those of a model
abbrev pub wholes_in : Elaborated → RobustProgram
wholes_in model = wholes model.forms.now model.set.now

-- its counterpart
abbrev pub counterpart_in : Elaborated → Program
counterpart_in model = reform (wholes_in model)

-- what column k of it counts in what is maximised, whatever the set: so it does in each master
abbrev pub cost_of : Forms → ℕ → ℤ
cost_of forms = tau_cost (wholes forms (record { columns = 0; rows = [] }))

-- it is so of each well formed model whose forms and set rows these are
abbrev pub HoldsOfEach : Forms → SetForm → (RobustModel → Type 0) → Type 0
HoldsOfEach forms set P = (m : RobustModel) → IsModel m → IsForms m forms → IsSetForm m set → P m

-- the program's rows and columns together are as few as a solver takes
abbrev pub IsFew : Program → Type 0
IsFew P = P.n + P.m < 2 ^ 31

-- the forms and the set rows are those of one model, no number of theirs is over the limit, and their counterpart is as
-- small as a solver takes
pub record FitsSolver (limit : ℕ) (model : Elaborated) : Type 0 where
  pub elaborated : AreElaborated limit model.forms.now model.set.now
  pub few : IsFew (counterpart_in model)

-- what the numbers are read by: each matrix has a row for the constant and each parameter, each row a number for the
-- constant, each decision column and tau; and no number is over 2^62 - 1 in size
pub record AreSound (forms : Forms) : Type 0 where
  pub rows : (i : ℕ) → i < length forms.matrices → length (matrix_at forms.matrices i) ≡ suc forms.params
  pub columns : (i k : ℕ) → i < length forms.matrices → k ≤ forms.params
      → length (slice_index_or (matrix_at forms.matrices i) k []) ≡ suc (suc forms.columns)
  pub small : (i k j : ℕ) → nat_abs (cell (matrix_at forms.matrices i) k j) ≤ 2 ^ 62 - 1

-- each set row has a number for each set column; and no number is over 2^62 - 1 in size
pub record IsSound (set : SetForm) : Type 0 where
  pub columns : (r : ℕ) → r < length set.rows → length (slice_index_or (left_sides set.rows) r []) ≡ set.columns
  pub small_left : (r c : ℕ) → nat_abs (cell (left_sides set.rows) r c) ≤ 2 ^ 62 - 1
  pub small_right : (r : ℕ) → nat_abs (at (right_sides set.rows) r) ≤ 2 ^ 62 - 1
