-- What a dictionary stands for on the path of a program.
use Rattle.std.specs.Prelude.{◌≡◌, ℕ, ◌<◌, ◌≤◌, ◌+◌, ◌-◌, pos, ◌≤ℤ◌, Option, Some, None, Bool, true, false, set}
use Rattle.rob_linear.specs.Programs.{Program, system_of, auxiliary_of}
use Rattle.rob_linear.specs.Vectors.{Columns}
use Rattle.rob_linear.specs.Turns.{TurnsTo}
use Rattle.rob_linear.specs.Paths.{HasAuxiliary, Reached, ReachedFrom}
use Rattle.rob_linear.specs.WideRows.{IsWideIn}
use Rattle.rob_linear.specs.Rank.{rank, rank_limit}
use Rattle.rob_linear.specs.Multiples.{StandsMultiple}
use Rattle.rob_linear.specs.Beside.{without_column, path_basis, HoldsBeside, IsBegun, beside_objective}
use Rattle.rob_simplex.specs.declared.first_phase.Beside.{Beside}
use Rattle.rob_simplex.specs.declared.first_phase.Beside.TheVariants.{Infeasible, Feasible, Open}
use Rattle.rob_simplex.specs.declared.second_phase.Turn.{Turn}
use Rattle.rob_simplex.specs.declared.second_phase.Turn.TheVariants.{Optimal, Unbounded, Replaced}
use Rattle.rob_simplex.specs.Dictionaries.{Table, positions, columns_of, rows_of, spare_column, sized, IsOpen, IsClosed, FirstNegative}

-- the rows are, up to positive factors, those of a feasible basis of the program, without the auxiliary column
pub record StandsFor (P : Program) (t : Table) : Type 0 where
  pub rows_are : positions t ≡ P.m
  pub columns_are : t.columns ≡ P.n
  pub stands : StandsMultiple (system_of P) (columns_of t.basis) (without_column P (rows_of t))
  pub empty : (i : ℕ) → i ≤ P.m → rows_of t i (P.n + P.m) ≡ pos 0
  pub closed : IsClosed t

-- and the basis is on the program's path
pub record InSecond (P : Program) (t : Table) : Type 0 where
  pub own : StandsFor P t
  pub open own use *
  pub reached : Reached P (columns_of t.basis)
  pub without : ¬ (HasAuxiliary P (columns_of t.basis))

-- the last basis: no column improves the objective, or this one does without limit
abbrev pub EndsIn : Program → Option ℕ → Table → Type 0
EndsIn P None t = (k : ℕ) → k < P.n + P.m → pos 0 ≤ℤ rows_of t P.m k
EndsIn P (Some column) t =
    FirstNegative (P.n + P.m) (rows_of t P.m) column × ((i : ℕ) → i < P.m → rows_of t i column ≤ℤ pos 0)

-- how far the rank of the objective's row is from its bound, for n columns and m rows within the limit
abbrev pub rank_left : ℕ → ℕ → Table → ℕ
rank_left n m t =
    let P = sized n m (λ i j. pos 0) (λ i. pos 0) (λ j. pos 0) in
    rank_limit (system_of P) t.limit - rank (system_of P) t.limit (without_column P (rows_of t) m)

-- no more turns than this can come
abbrev pub turns_left : Table → ℕ
turns_left t = rank_left t.columns (positions t) t

-- one turn leads from the basis of the first dictionary to that of the second
abbrev pub TurnsOn : Program → Table → Table → Type 0
TurnsOn P t t' = TurnsTo (system_of P) (columns_of t.basis) (columns_of t'.basis)

-- such a turn was made, and less are left; or the path ends here
abbrev pub HasTurned : Program → Turn → Table → Table → Type 0
HasTurned P Optimal t t' = (t' ≡ t) × EndsIn P None t'
HasTurned P (Unbounded column) t t' = (t' ≡ t) × EndsIn P (Some column) t'
HasTurned P Replaced t t' = StandsFor P t' × TurnsOn P t t' × (turns_left t' < turns_left t)

-- such a turn was begun, and at its basis the row of that position is wide
abbrev pub HasRefused : ℕ → Program → ℕ → Table → Table → Type 0
HasRefused limit P i t t' = TurnsOn P t t' × IsWideIn limit (system_of P) (columns_of t'.basis) i

-- turns have led from the basis of the first dictionary to that of the second, on which the path from there ends
pub record EndsFrom (P : Program) (start : Columns) (ending : Option ℕ) (t : Table) : Type 0 where
  pub own : StandsFor P t
  pub reached : ReachedFrom P start (columns_of t.basis)
  pub ends : EndsIn P ending t

-- ---- the first phase beside the auxiliary column
-- the path's basis is the dictionary's, with the auxiliary column at position q
pub record InBeside (P : Program) (q : ℕ) (t : Table) : Type 0 where
  pub rows_are : positions t ≡ P.m
  pub columns_are : t.columns ≡ P.n
  pub reached : Reached P (path_basis P (columns_of t.basis) q)
  pub holds : HoldsBeside P (columns_of t.basis) q (rows_of t)
  pub closed : IsClosed t

-- the auxiliary column has left: the second phase begins once its entries are 0
pub record HasLeft (P : Program) (t : Table) : Type 0 where
  pub rows_are : positions t ≡ P.m
  pub columns_are : t.columns ≡ P.n
  pub reached : Reached P (columns_of t.basis)
  pub without : ¬ (HasAuxiliary P (columns_of t.basis))
  pub stands : StandsMultiple (system_of P) (columns_of t.basis) (without_column P (rows_of t))
  pub closed : IsClosed t

-- how far the rank of the auxiliary objective's row, read off row q, is from its bound
abbrev pub rank_left_beside : ℕ → ℕ → ℕ → Table → ℕ
rank_left_beside n m q t =
    let P = sized n m (λ i j. pos 0) (λ i. pos 0) (λ j. pos 0) in
    rank_limit (auxiliary_of P) t.limit - rank (auxiliary_of P) t.limit (beside_objective P (rows_of t q))

-- no more turns than this can come
abbrev pub turns_left_beside : ℕ → Table → ℕ
turns_left_beside q t = rank_left_beside t.columns (positions t) q t

-- one turn: the auxiliary column is still in, and less turns are left; or it has left
abbrev pub HasTurnedBeside : Program → ℕ → Bool → Table → Table → Type 0
HasTurnedBeside P q true t t' = InBeside P q t' × (turns_left_beside q t' < turns_left_beside q t)
HasTurnedBeside P q false t t' = HasLeft P t'

-- a pivot was begun where the path's basis has the auxiliary column at position q, which is open
pub record IsOpenBeside (P : Program) (q : ℕ) (t : Table) : Type 0 where
  pub before : Table
  pub stood : InBeside P q before
  pub column : ℕ
  pub begun : IsBegun P q column (rows_of before) (rows_of t)
  pub basis : t.basis ≡ set before.basis q (spare_column P.n P.m)
  pub columns_are : t.columns ≡ P.n
  pub opened : IsOpen t q
  pub zero : (i : ℕ) → i ≤ P.m → rows_of t i (spare_column P.n P.m) ≡ pos 0

-- how the turns beside end: no column comes in, the auxiliary column has left, or a pivot was begun
abbrev pub EndsBeside : Program → ℕ → Beside → Table → Type 0
EndsBeside P q Infeasible t = InBeside P q t × ((k : ℕ) → k < P.n + P.m → pos 0 ≤ℤ rows_of t q k)
EndsBeside P q Feasible t = HasLeft P t
EndsBeside P q Open t = IsOpenBeside P q t
