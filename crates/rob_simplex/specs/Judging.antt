-- What the rows of the last basis tell, and which of it fits a width. Rows may be wider than what they tell: a number
-- is a quotient of two entries, and these have a common divisor.
use Rattle.std.specs.Prelude.{◌≡◌, ◌⊎◌, ℕ, suc, ◌<◌, ◌+◌, ◌^◌, ℤ, pos, nat_abs, ◌<ℤ◌, Option, Some, None, IfSome}
use Rattle.rob_algebra.specs.Fraction.{Fraction, of_pair}
use Rattle.rob_algebra.specs.Width.{Fits, IsWide}
use Rattle.rob_simplex.specs.Dictionaries.{Table, positions, columns_of, rows_of, right_column}

-- an entry of the row of position i over another one
abbrev pub ratio_of : Table → ℕ → ℕ → ℕ → Fraction
ratio_of t i column own = of_pair (rows_of t i column) (nat_abs (rows_of t i own))

-- the column that holds the value of a solution
abbrev pub objective_column : Table → ℕ
objective_column t = suc (t.columns + positions t)

-- each position's row is positive in the position's own column, which is a structural or a slack one
pub record HasOwn (t : Table) : Type 0 where
  pub rows :
      (i : ℕ) → i < positions t
      → (columns_of t.basis i < t.columns + positions t) × (pos 0 <ℤ rows_of t i (columns_of t.basis i))
  pub objective : pos 0 <ℤ rows_of t (positions t) (objective_column t)

-- the row of a position tells a number of its column, where that is structural: in the point, its right side over its
-- own entry; and along the ray, where a column grows, its entry there over its own. They fit
pub record TellsAt (limit : ℕ) (growing : Option ℕ) (t : Table) (i : ℕ) : Type 0 where
  pub point :
      columns_of t.basis i < t.columns
      → Fits limit (ratio_of t i (right_column t.columns (positions t)) (columns_of t.basis i))
  pub ray :
      columns_of t.basis i < t.columns
      → IfSome growing (λ column. Fits limit (ratio_of t i column (columns_of t.basis i)))

-- the objective's row tells the dual values, its slack entries over its own, and the value, its right side over its
-- own. They fit
pub record TellsObjective (limit : ℕ) (t : Table) : Type 0 where
  pub dual : (k : ℕ) → k < positions t → Fits limit (ratio_of t (positions t) (t.columns + k) (objective_column t))
  pub value : Fits limit (ratio_of t (positions t) (right_column t.columns (positions t)) (objective_column t))

-- all that the last rows tell fits: of a ray, where a column grows, else of an optimum
pub record Tells (limit : ℕ) (growing : Option ℕ) (t : Table) : Type 0 where
  pub rows : (i : ℕ) → i < positions t → TellsAt limit growing t i
  pub objective : growing ≡ None → TellsObjective limit t

-- two numbers of 62 bits with the quotient of two others
pub record AreShortParts (numerator denominator p q : ℤ) : Type 0 where
  pub p_small : nat_abs p < 2 ^ 62
  pub q_small : nat_abs q < 2 ^ 62
  pub positive : pos 0 <ℤ q
  pub same : of_pair p (nat_abs q) ≡ of_pair numerator (nat_abs denominator)

-- the row of a position tells a number that is wide, of the point or along the ray
pub record TellsWideAt (limit : ℕ) (growing : Option ℕ) (t : Table) (i : ℕ) : Type 0 where
  pub structural : columns_of t.basis i < t.columns
  pub wide :
      IsWide limit (ratio_of t i (right_column t.columns (positions t)) (columns_of t.basis i))
      ⊎ ((column : ℕ) × (growing ≡ Some column) × IsWide limit (ratio_of t i column (columns_of t.basis i)))

-- the objective's row tells a dual value that is wide, or the value is
abbrev pub TellsWideObjective : ℕ → Table → Type 0
TellsWideObjective limit t =
    ((k : ℕ) × (k < positions t) × IsWide limit (ratio_of t (positions t) (t.columns + k) (objective_column t)))
    ⊎ IsWide limit (ratio_of t (positions t) (right_column t.columns (positions t)) (objective_column t))

-- the row of position i tells a number that is wide, and none before it does; position m is the objective's, whose row
-- tells of an optimum
pub record TellsWideFirst (limit : ℕ) (growing : Option ℕ) (t : Table) (i : ℕ) : Type 0 where
  pub wide :
      ((i < positions t) × TellsWideAt limit growing t i)
      ⊎ ((i ≡ positions t) × (growing ≡ None) × TellsWideObjective limit t)
  pub before : (j : ℕ) → j < i → TellsAt limit growing t j
