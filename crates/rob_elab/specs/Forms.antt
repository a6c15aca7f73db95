-- The forms of a model in whole numbers, as the program holds them; and what is judged on the way to them, in order.
use Rattle.std.specs.Prelude.{◌≡◌, ℕ, zero, suc, ◌≤◌, ℤ, nat_abs, List, [], ◌∷◌, length}
use Rattle.rob_algebra.specs.Fraction.{Fraction}
use Rattle.rob_meaning.specs.Clearing.{entries}
use Rattle.rob_meaning.specs.Coefficients.{Table, table}
use Rattle.rob_meaning.specs.Expressions.{Expression}
use Rattle.rob_meaning.specs.Forms as meaning
use Rattle.rob_meaning.specs.Forms.{entries_of, matrices, matrix_at, sum_at}
use Rattle.rob_meaning.specs.Places.{Each, tabulate}
use Rattle.rob_meaning.specs.RobustModel.{RobustModel, column_count}
use Rattle.rob_model.specs.View.{sense_of}
use Rattle.rob_model.specs.declared.place.Where.TheVariants.{Form}
use Rattle.rob_sets.specs.FirstWide as judge
use Rattle.rob_sets.specs.FirstWide.{Judged}
use Rattle.rob_elab.specs.declared.forms.Forms.{Forms}

-- the first rows and columns of a table
abbrev pub rows_of : ℕ → ℕ → Table → List (List Fraction)
rows_of rows columns f = tabulate rows (λ k. tabulate columns (f k))

-- the forms are those of the model, each with its whole matrix, in order
pub record IsForms (m : RobustModel) (forms : Forms) : Type 0 where
  pub columns : forms.columns ≡ column_count m
  pub params : forms.params ≡ length m.parameters
  pub sense : sense_of forms.sense ≡ m.sense
  pub matrices : forms.matrices ≡ matrices m

-- the whole sum of form i: matrix entry times p_k times z_j, where p_0 = s
abbrev pub whole_sum : Forms → ℕ → Fraction → List Fraction → List Fraction → Fraction
whole_sum forms i s p z = sum_at (matrix_at forms.matrices i) s p z

-- each number of a matrix is at most the limit in size
abbrev pub MatrixFits : ℕ → List (List ℤ) → Type 0
MatrixFits limit matrix = Each (Each (λ a. nat_abs a ≤ limit)) matrix

-- each number of the forms is at most the limit in size
abbrev pub FormsFit : ℕ → Forms → Type 0
FormsFit limit forms = Each (MatrixFits limit) forms.matrices

module _ (m : RobustModel) where
  -- of each form the coefficients, and then the clearing of its table, the first form having number `i`
  abbrev pub judged_from : ℕ → List Expression → List Judged
  judged_from i [] = []
  judged_from i (e ∷ es) =
      judge.coefficients (Form i) e ∷ (judge.clearing (Form i) (entries (entries_of m (table m e)))
      ∷ judged_from (suc i) es)

  -- the forms in order
  abbrev pub judged_forms : List Judged
  judged_forms = judged_from zero (meaning.forms m)
