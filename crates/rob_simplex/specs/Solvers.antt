-- What contracts see of a solver: its state, its dictionary and its weights.
use Rattle.std.specs.Prelude.{◌≡◌, ℕ, suc, ◌<◌, ◌+◌, ◌^◌, ℤ, pos, ◌<ℤ◌, List, length, ⊤, Option, Some, None}
use Rattle.rob_linear.specs.Vectors.{Matrix}
use Rattle.rob_linear.specs.Programs.{Program}
use Rattle.rob_linear.specs.Beside.{without_column}
use Rattle.rob_rows.specs.PrimitiveParts.{IsWithin}
use Rattle.rob_simplex.specs.declared.state.State.{State}
use Rattle.rob_simplex.specs.declared.state.State.TheVariants.{New, Optimal, Infeasible, Unbounded, Stopped}
use Rattle.rob_simplex.specs.Dictionaries.{Table, rows_of, columns_of, sized, with_limit}
use Rattle.rob_simplex.specs.LowestTerms.{lowest_terms}
use Rattle.rob_simplex.specs.Judging.{Tells}
use Rattle.rob_simplex.specs.Starts.{IsStartingTable}

-- the state; the dictionary, with the number of structural columns and the basic column of each position; the weights
pub record Solver : Type 0 where
  pub state : State
  pub dictionary : Table
  pub open dictionary use *
  pub weights : List ℤ

-- the number of positions but the objective's
abbrev pub positions : Solver → ℕ
positions s = length s.basis

-- a program of the solver's size, for the places of its columns
abbrev pub sized_as : Solver → Program
sized_as s = sized s.columns (positions s) (λ i j. pos 0) (λ i. pos 0) (λ j. pos 0)

-- entry k of the row of position i: the dictionary's, without the auxiliary column and in lowest terms
abbrev pub entries : Solver → Matrix
entries s i = lowest_terms (suc (suc (s.columns + positions s))) (without_column (sized_as s) (rows_of s.dictionary) i)

-- a point has been found
abbrev pub has_point : State → Type 0
has_point Optimal = ⊤
has_point (Unbounded column) = ⊤
has_point New = ⊥
has_point Infeasible = ⊥
has_point (Stopped cause) = ⊥

-- the solver's state says so
abbrev pub HasPoint : Solver → Type 0
HasPoint s = has_point s.state

-- the path has stopped
abbrev pub has_stopped : State → Type 0
has_stopped (Stopped cause) = ⊤
has_stopped New = ⊥
has_stopped Optimal = ⊥
has_stopped Infeasible = ⊥
has_stopped (Unbounded column) = ⊥

-- the column that grows without limit
abbrev pub column_of : State → ℕ
column_of (Unbounded column) = column
column_of New = 0
column_of Optimal = 0
column_of Infeasible = 0
column_of (Stopped cause) = 0

-- a best point has been found
abbrev pub HasOptimum : Solver → Type 0
HasOptimum s = s.state ≡ Optimal

-- a column that grows without limit has been found
abbrev pub HasRay : Solver → Type 0
HasRay s = s.state ≡ Unbounded (column_of s.state)

-- weights have been found
abbrev pub HasWeights : Solver → Type 0
HasWeights s = s.state ≡ Infeasible

-- and there is one
abbrev pub growing_of : State → Option ℕ
growing_of (Unbounded column) = Some column
growing_of New = None
growing_of Optimal = None
growing_of Infeasible = None
growing_of (Stopped cause) = None

-- what always holds, of rows within `top` and of what they tell within `limit`: of the program's size and the weights;
-- where there is a point, entries that are divided by are positive, and what is told of it fits
pub record IsSound (top limit : ℕ) (s : Solver) : Type 0 where
  pub limit_is : s.limit ≡ top
  pub few : s.columns + positions s < 2 ^ 31
  pub weights_size : length s.weights ≡ positions s
  pub weights_within : HasWeights s → IsWithin limit s.weights
  pub own :
      HasPoint s → (i : ℕ) → i < positions s
      → (columns_of s.basis i < s.columns + positions s) × (pos 0 <ℤ rows_of s.dictionary i (columns_of s.basis i))
  pub column : column_of s.state < 2 ^ 31
  pub growing : HasRay s → column_of s.state < s.columns + positions s
  pub objective : HasPoint s → pos 0 <ℤ rows_of s.dictionary (positions s) (suc (s.columns + positions s))
  pub told : HasPoint s → Tells limit (growing_of s.state) s.dictionary

-- the solver was made for the program, and has not solved yet
pub record IsMadeFor (P : Program) (s : Solver) : Type 0 where
  pub state : s.state ≡ New
  pub rows : P.m ≡ positions s
  pub columns : P.n ≡ s.columns
  pub starting : IsStartingTable P s.dictionary

-- the solver s' stands as s does: in the same state, at the same basis, with the same rows, of another limit; its
-- weights are open
pub record StandsAs (limit : ℕ) (s s' : Solver) : Type 0 where
  pub state : s'.state ≡ s.state
  pub dictionary : s'.dictionary ≡ with_limit limit s.dictionary
