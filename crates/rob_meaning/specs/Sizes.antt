-- How many bounds of decisions a model has, by what it declares.
use Rattle.std.specs.Prelude.{ℕ, ◌+◌, List, [], ◌∷◌, length, Option, option_to_list}
use Rattle.rob_algebra.specs.Fraction.{Fraction}
use Rattle.rob_meaning.specs.RobustModel.{AdaptiveVariable, Variable}

-- how many of two bounds are declared
abbrev pub declared_count : Option Fraction → Option Fraction → ℕ
declared_count lower upper = length (option_to_list lower) + length (option_to_list upper)

-- the declared bounds of variables
abbrev pub variable_bounds : List Variable → ℕ
variable_bounds [] = 0
variable_bounds (x ∷ xs) = declared_count x.lower x.upper + variable_bounds xs

-- the declared bounds of adaptive variables
abbrev pub adaptive_bounds : List AdaptiveVariable → ℕ
adaptive_bounds [] = 0
adaptive_bounds (y ∷ ys) = declared_count y.lower y.upper + adaptive_bounds ys
