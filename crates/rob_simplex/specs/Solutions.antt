-- The numbers that a solver's rows show. A basic column has the right side of its position's row over the row's own
-- entry.
-- Chvatal, Linear Programming (1983), chapters 2 and 5.
use Rattle.std.specs.Prelude.{ℕ, suc, ◌+◌, nat_eq, cond, pos, neg_ℤ, nat_abs, List, [], ◌∷◌, Option, Some, None}
use Rattle.rob_algebra.specs.Fraction.{Fraction, of_int, of_pair}
use Rattle.rob_linear.specs.Vectors.{Vector, at}
use Rattle.rob_simplex.specs.Dictionaries.{columns_of}
use Rattle.rob_simplex.specs.Solvers.{Solver, positions, entries, column_of}

-- one position further
abbrev pub one_further : Option ℕ → Option ℕ
one_further None = None
one_further (Some i) = Some (suc i)

-- the first position where a column is basic
abbrev pub position_of : List ℕ → ℕ → Option ℕ
position_of [] column = None
position_of (own ∷ basis) column = cond (nat_eq own column) (Some 0) (one_further (position_of basis column))

-- a number of a position, or 0 where there is none
abbrev pub at_position : Option ℕ → (ℕ → Fraction) → Fraction
at_position None f = of_int (pos 0)
at_position (Some i) f = f i

-- a number of position i over the row's own entry
abbrev pub over_own : Solver → Vector → ℕ → Fraction
over_own s v i = of_pair (v i) (nat_abs (entries s i (columns_of s.basis i)))

-- the basic solution
abbrev pub point_of : Solver → ℕ → Fraction
point_of s column =
    at_position (position_of s.basis column) (over_own s (λ i. entries s i (s.columns + positions s + 1)))

-- the basic direction: that column grows by 1, and each basic column by minus its row's entry there over the row's own
abbrev pub ray_of : Solver → ℕ → Fraction
ray_of s column =
    cond (nat_eq column (column_of s.state)) (of_int (pos 1))
    (at_position (position_of s.basis column) (over_own s (λ i. neg_ℤ (entries s i (column_of s.state)))))

-- an entry of the objective's row over its entry in the objective's column
abbrev pub over_objective : Solver → ℕ → Fraction
over_objective s k = of_pair (entries s (positions s) k) (nat_abs (entries s (positions s) (s.columns + positions s)))

-- the dual values: the slack entries
abbrev pub dual_of : Solver → ℕ → Fraction
dual_of s i = over_objective s (s.columns + i)

-- the value: the right side
abbrev pub value_of : Solver → Fraction
value_of s = over_objective s (s.columns + positions s + 1)

-- the weights that show that no point is feasible
abbrev pub weights_of : Solver → Vector
weights_of s = at s.weights
