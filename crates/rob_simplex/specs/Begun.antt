-- A turn that was begun: of the rows some are those of the basis before, and some, cleared of the column that comes
-- in, those of the basis behind the exchange. The others can be cleared over again, by rows of a greater limit.
use Rattle.std.specs.Prelude.{◌≡◌, ℕ, ◌+◌}
use Rattle.rob_linear.specs.Vectors.{Columns}
use Rattle.rob_linear.specs.Programs.{Program}
use Rattle.rob_linear.specs.Turns.{Leaves}
use Rattle.rob_linear.specs.Paths.{ReachedFrom}
use Rattle.rob_simplex.specs.declared.state.Cause.{Cause}
use Rattle.rob_simplex.specs.declared.state.Cause.TheVariants.{Told, Turn, First, Elsewhere}
use Rattle.rob_simplex.specs.Dictionaries.{Table, positions, columns_of, rows_of, spare_column, shape, FirstNegative, IsBegunPivot, IsExchanged}
use Rattle.rob_simplex.specs.Explicit.{StopsFirst}
use Rattle.rob_simplex.specs.Phases.{StandsFor}
use Rattle.rob_simplex.specs.PathEnds.{EndsWide}

-- a pivot of the first dictionary was begun, and the column has come to the row's position; of the kept row nothing is
-- said
pub record IsBroken (t t' : Table) (row column : ℕ) : Type 0 where
  pub half : Table
  pub begun : IsBegunPivot t half row column
  pub columns_are : half.columns ≡ t.columns
  pub told : IsExchanged half t' row (spare_column t.columns (positions t)) column

-- a turn was begun, from a dictionary of which something is known: its first column that improves the objective comes
-- in where the row that leaves first stood
pub record HasBegunTurn (Stood : Table → Type 0) (t : Table) (row : ℕ) : Type 0 where
  pub before : Table
  pub stood : Stood before
  pub column : ℕ
  pub enters : FirstNegative (before.columns + positions before) (rows_of before (positions before)) column
  pub leaves : Leaves (shape before.columns (positions before)) (rows_of before) column row
  pub broken : IsBroken before t row column

-- the path stopped at such a turn
abbrev pub HasBegunAt : (Table → Type 0) → Cause → Table → Type 0
HasBegunAt Stood (Turn row) t = HasBegunTurn Stood t row
HasBegunAt Stood Told t = ⊥
HasBegunAt Stood First t = ⊥
HasBegunAt Stood Elsewhere t = ⊥

-- a feasible basis of the program, on the path that goes on from a given one
abbrev pub StandsFrom : Program → Columns → Table → Type 0
StandsFrom P start t = StandsFor P t × ReachedFrom P start (columns_of t.basis)

-- what is known of the dictionary of a path that stopped at position i, by what it stopped at: the last basis tells a
-- wide number there; a turn was begun; or the first phase stops there, by the limit of the rows
abbrev pub HaltsAt : (Columns → Type 0) → (Table → Type 0) → ℕ → Program → ℕ → Cause → Table → Type 0
HaltsAt IsEnd Stood limit P i Told t = EndsWide IsEnd limit P t i
HaltsAt IsEnd Stood limit P i (Turn row) t = HasBegunTurn Stood t row
HaltsAt IsEnd Stood limit P i First t = StopsFirst t.limit P (columns_of t.basis) i
HaltsAt IsEnd Stood limit P i Elsewhere t = ⊥
