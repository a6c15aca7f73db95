-- The forms part by part: the objective's, those of the rows, the bounds of the variables, those of the adaptive
-- variables; and how far they are appended behind each.
use Rattle.std.specs.Prelude.{ℕ, zero, List, [], ◌∷◌, ◌++◌}
use Rattle.rob_meaning.specs.Expressions.{Expression}
use Rattle.rob_meaning.specs.Forms.{adaptive_forms, forms, objective_form, row_forms, tau_column, variable_forms}
use Rattle.rob_meaning.specs.RobustModel.{RobustModel}
use Rattle.rob_sets.proofs.Cells.PartedLemmas.{parted}
use Rattle.rob_sets.proofs.Judging.ProgressLemmas.{begins}
use Rattle.rob_elab.proofs.AppendLemmas.{AppendsForms, FormProgress, Matrices, forms_go_on}

module _ (m : RobustModel) where
  -- the objective's form alone
  abbrev pub objective : List Expression
  objective = objective_form m.sense m.objective (tau_column m) ∷ []

  -- the forms of declared bounds
  abbrev pub bounds : List Expression
  bounds = variable_forms zero m.variables ++ adaptive_forms zero m.adaptives

-- ---- how far the forms are appended
pub at_start : {limit : ℕ} {m : RobustModel} (old : Matrices)
    → FormProgress limit m (forms m) (objective m ++ (row_forms m.rows ++ bounds m)) old old
at_start old = begins old

pub behind_objective : {limit : ℕ} {m : RobustModel} {a b : Matrices} → AppendsForms limit m (objective m) a b
    → FormProgress limit m (forms m) (row_forms m.rows ++ bounds m) a b
behind_objective {m} {a} f = forms_go_on (at_start a) (parted (objective m) (row_forms m.rows ++ bounds m)) f

pub behind_rows : {limit : ℕ} {m : RobustModel} {a b c : Matrices} → AppendsForms limit m (objective m) a b
    → AppendsForms limit m (row_forms m.rows) b c
    → FormProgress limit m (forms m) (bounds m) a c
behind_rows {m} f h = forms_go_on (behind_objective f) (parted (row_forms m.rows) (bounds m)) h

pub behind_variables : {limit : ℕ} {m : RobustModel} {a b c d : Matrices} → AppendsForms limit m (objective m) a b
    → AppendsForms limit m (row_forms m.rows) b c
    → AppendsForms limit m (variable_forms zero m.variables) c d
    → FormProgress limit m (forms m) (adaptive_forms zero m.adaptives) a d
behind_variables {m} f h k =
    forms_go_on (behind_rows f h) (parted (variable_forms zero m.variables) (adaptive_forms zero m.adaptives)) k
