-- The objective's form: a difference of the objective and tau.
use Rattle.std.specs.Prelude.{◌≡◌, ℕ, suc, ◌+◌, ◌≤◌, refl}
use Rattle.std.proofs.Common.{◌∙◌, ap, add-one}
use Rattle.rob_algebra.specs.Fraction.{Fraction}
use Rattle.rob_algebra.specs.Width.{Fits}
use Rattle.rob_meaning.specs.Coefficients.{single}
use Rattle.rob_meaning.specs.Expressions.{Expression}
use Rattle.rob_meaning.specs.Forms.{objective_form, tau_column}
use Rattle.rob_meaning.specs.RobustModel.{RobustModel, Sense, column_count, minimise, maximise}
use Rattle.rob_sets.specs.FirstWide.{Some_of}
use Rattle.rob_sets.specs.Subexpressions.{subexpressions}
use Rattle.rob_sets.specs.Tables.{numbers_of}
use Rattle.rob_sets.specs.Tabulating.{IsTableOf}
use Rattle.rob_sets.specs.declared.table.Table.{Table}
use Rattle.rob_sets.proofs.Expressions.DifferenceLemmas.{some_of_left, some_of_right}
use Rattle.rob_sets.proofs.Expressions.TabulatingLemmas.{leaf_is}

-- what is wide in the objective is wide in its form
pub in_objective : (P : Expression → Type 0) (sense : Sense) (e tau : Expression) → Some_of P (subexpressions e)
    → Some_of P (subexpressions (objective_form sense e tau))
in_objective P minimise e tau h = some_of_left P e tau h
in_objective P maximise e tau h = some_of_right P tau e h

-- a 1 in the column behind the last is the table of tau
pub tau_is : {N : Type 0} (value : N → Fraction) (limit : ℕ) (fits : (x : N) → Fits limit (value x)) (one : 1 ≤ limit)
    (m : RobustModel) (t : Table N) (column : ℕ) → column ≡ column_count m
    → ((k j : ℕ) → numbers_of value t k j ≡ single 0 (column + 1) k j) → IsTableOf value limit m (tau_column m) t
tau_is value limit fits one m t column e h =
    leaf_is value limit fits one m (tau_column m) t refl
    (λ k j. h k j ∙ ap (λ n. single 0 n k j) (add-one column ∙ ap suc e))
