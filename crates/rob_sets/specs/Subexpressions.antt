-- The subexpressions of an expression: what is computed on the way to its coefficients. In a sum and in a product each
-- prefix from the left is one too, so the whole is the last of them.
use Rattle.std.specs.Prelude.{ℕ, List, [], ◌∷◌, ◌++◌, Bool}
use Rattle.rob_algebra.specs.Width.{IsWide}
use Rattle.rob_meaning.specs.Coefficients.{table}
use Rattle.rob_meaning.specs.Expressions.{Expression, number, parameter, variable, adaptive, adaptive_in, sum, product, Terms, no_terms, term, Factors, no_factors, factor}
use Rattle.rob_meaning.specs.RobustModel.{RobustModel}

-- the terms with one more behind them
abbrev pub with_term : Terms → Bool → Expression → Terms
with_term no_terms minus e = term minus e no_terms
with_term (term first d ts) minus e = term first d (with_term ts minus e)

-- the factors with one more behind them
abbrev pub with_factor : Factors → Expression → Factors
with_factor no_factors e = factor e no_factors
with_factor (factor d fs) e = factor d (with_factor fs e)

abbrev mutual
  -- the subexpressions, from the left, each behind those that it is made of
  pub subexpressions : Expression → List Expression
  subexpressions (number q) = number q ∷ []
  subexpressions (parameter k) = parameter k ∷ []
  subexpressions (variable k) = variable k ∷ []
  subexpressions (adaptive y) = adaptive y ∷ []
  subexpressions (adaptive_in y S) = adaptive_in y S ∷ []
  subexpressions (sum ts) = sums_from no_terms ts
  subexpressions (product fs) = products_from no_factors fs

  -- for each term that follows `before` its subexpressions, and the sum up to it
  pub sums_from : Terms → Terms → List Expression
  sums_from before no_terms = []
  sums_from before (term minus e ts) =
      subexpressions e ++ (sum (with_term before minus e) ∷ sums_from (with_term before minus e) ts)

  -- for each factor that follows `before` its subexpressions, and the product up to it
  pub products_from : Factors → Factors → List Expression
  products_from before no_factors = []
  products_from before (factor e fs) =
      subexpressions e ++ (product (with_factor before e) ∷ products_from (with_factor before e) fs)

-- some coefficient of the expression is wide
abbrev pub HasWideCoefficient : ℕ → RobustModel → Expression → Type 0
HasWideCoefficient limit m e = (k : ℕ) × (j : ℕ) × IsWide limit (table m e k j)
