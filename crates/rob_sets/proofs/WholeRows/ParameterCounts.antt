-- The parameters of a valid model, the rows of their bounds and the columns of the lifted set are few.
use Rattle.std.proofs.Common.{◌≡◌, ℕ, zero, ◌+◌, ◌<◌, ◌≤◌, List, length, arith, ap, ap₂, sym, ◌∙◌, Fits, w32}
use Rattle.std.proofs.lemmas.List.{length-map}
use Rattle.rob_algebra.specs.Fraction.{Fraction}
use Rattle.rob_meaning.specs.RobustModel.{RobustModel}
use Rattle.rob_meaning.specs.SetRows.{bound_rows, lift_count, set_column_count}
use Rattle.rob_model.specs.Limits.{IsWithinLimits, most_parameters}
use Rattle.rob_model.specs.Valid.{IsValid}
use Rattle.rob_model.specs.View.{robust, parameter_of}
use Rattle.rob_model.specs.declared.model.Model.{Model}
use Rattle.rob_model.specs.declared.model.Param.{Param}
use Rattle.rob_sets.proofs.WholeRows.BoundRowLemmas.{bounds_many}

module _ {N : Type 0} {value : N → Fraction} {model : Model N} (valid : IsValid value model) {items : List (Param N)}
    (same : items ≡ model.params) where
  count_is : length items ≡ length (robust value model).parameters
  count_is = ap length same ∙ sym (length-map model.params (parameter_of value))

  few : length items ≤ most_parameters
  few = omega (arith, valid.limits.parameters, count_is)

  pub count_fits : Fits w32 (length items)
  count_fits = omega (arith, few)

  -- with the columns t
  module _ {lifts : ℕ} (lifts_are : lifts ≡ lift_count (robust value model).set_lines) where
    pub columns_fit : Fits w32 (length items + lifts)
    columns_fit = omega (arith, few, lifts_are, valid.limits.members)

    pub columns_are : length items + lifts ≡ set_column_count (robust value model)
    columns_are = ap₂ ◌+◌ count_is lifts_are

  -- the number of the parameter that a loop has come to
  module _ {i n : ℕ} (inside : i < length items) (number : n ≡ i) where
    pub number_below : n < 1000
    number_below = omega (arith, few, inside, number)

    pub number_fits : Fits w32 (n + 1)
    number_fits = omega (arith, few, inside, number)

-- ---- the rows of the bounds, so far
module _ {m : RobustModel} (limits : IsWithinLimits m) (n left : ℕ)
    (so_far : n + left ≡ 0 + length (bound_rows zero m.parameters)) where
  pub rows_below : n < 1000
  rows_below = omega (arith, so_far, bounds_many zero m.parameters, limits.parameters)

  pub next_below : {next lines : ℕ} → next ≡ n + lines → lines ≤ 1 → next < 1000
  next_below more one = omega (arith, so_far, bounds_many zero m.parameters, limits.parameters, more, one)
