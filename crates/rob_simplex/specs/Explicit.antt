-- The first phase in the explicit form, in which the auxiliary column is basic, and how the first phase ends.
use Rattle.std.specs.Prelude.{◌≡◌, ◌≢◌, ℕ, suc, ◌<◌, ◌+◌, ◌-◌, ◌⊎◌, Bool, true, false, pos, ◌≤ℤ◌}
use Rattle.rob_linear.specs.Vectors.{Columns}
use Rattle.rob_linear.specs.Programs.{Program, auxiliary_of, kept_of}
use Rattle.rob_linear.specs.Turns.{own_of, TurnsTo}
use Rattle.rob_linear.specs.Paths.{HasAuxiliary, Reached}
use Rattle.rob_linear.specs.WideRows.{HasWideRow}
use Rattle.rob_linear.specs.Rank.{rank, rank_limit}
use Rattle.rob_linear.specs.Multiples.{IsMultipleRow, StandsMultiple}
use Rattle.rob_simplex.specs.declared.first_phase.FirstEnding.{FirstEnding}
use Rattle.rob_simplex.specs.declared.first_phase.FirstEnding.TheVariants.{Infeasible, Feasible}
use Rattle.rob_simplex.specs.declared.explicit_phase.ExplicitTurn.{ExplicitTurn}
use Rattle.rob_simplex.specs.declared.explicit_phase.ExplicitTurn.TheVariants.{Ended, Left, Stays}
use Rattle.rob_simplex.specs.Dictionaries.{Table, positions, columns_of, rows_of, kept_row_of, spare_column, sized, IsClosed}
use Rattle.rob_simplex.specs.Phases.{InSecond, InBeside, HasLeft}

-- the basis is on the path; the rows are those of the auxiliary form up to positive factors, and the kept row is that
-- of the cost
pub record HoldsExplicit (P : Program) (t : Table) : Type 0 where
  pub rows_are : positions t ≡ P.m
  pub columns_are : t.columns ≡ P.n
  pub reached : Reached P (columns_of t.basis)
  pub stands : StandsMultiple (auxiliary_of P) (columns_of t.basis) (rows_of t)
  pub kept : IsMultipleRow (kept_of P) (own_of (kept_of P) (columns_of t.basis)) P.m (kept_row_of t)
  pub closed : IsClosed t
  pub kept_zero : kept_row_of t (spare_column P.n P.m) ≡ pos 0

-- and the auxiliary column is basic
pub record InExplicit (P : Program) (t : Table) : Type 0 where
  pub holds : HoldsExplicit P t
  pub open holds use *
  pub auxiliary : HasAuxiliary P (columns_of t.basis)

-- and no column improves the auxiliary objective
pub record EndsExplicit (P : Program) (t : Table) : Type 0 where
  pub stands : InExplicit P t
  pub none : (k : ℕ) → k < P.n + P.m → pos 0 ≤ℤ rows_of t P.m k

-- how far the rank of the auxiliary objective's row is from its bound
abbrev pub rank_left_explicit : ℕ → ℕ → Table → ℕ
rank_left_explicit n m t =
    let P = sized n m (λ i j. pos 0) (λ i. pos 0) (λ j. pos 0) in
    rank_limit (auxiliary_of P) t.limit - rank (auxiliary_of P) t.limit (rows_of t m)

-- no more turns than this can come
abbrev pub turns_left_explicit : Table → ℕ
turns_left_explicit t = rank_left_explicit t.columns (positions t) t

-- one turn: the path ends here, the auxiliary column has left, or it is still in and less turns are left
abbrev pub HasTurnedExplicit : Program → ExplicitTurn → Table → Table → Type 0
HasTurnedExplicit P Ended t t' = EndsExplicit P t'
HasTurnedExplicit P Left t t' = HoldsExplicit P t' × ¬ (HasAuxiliary P (columns_of t'.basis))
HasTurnedExplicit P Stays t t' = InExplicit P t' × (turns_left_explicit t' < turns_left_explicit t)

-- what a turn has done where the auxiliary column was the one that left, and where it was not
abbrev pub turn_after : Bool → ExplicitTurn
turn_after true = Left
turn_after false = Stays

-- the rows beside end the path: no column comes in at this position
pub record EndsAtRow (P : Program) (row : ℕ) (t : Table) : Type 0 where
  pub inside : row < P.m
  pub stands : InBeside P row t
  pub none : (k : ℕ) → k < P.n + P.m → pos 0 ≤ℤ rows_of t row k

-- how the turns of the first phase end: the auxiliary column is out, or no point is feasible, as a row beside shows,
-- or the auxiliary objective's row of the explicit form
abbrev pub FirstTurns : Program → FirstEnding → Table → Type 0
FirstTurns P Feasible t = HasLeft P t
FirstTurns P (Infeasible row) t = EndsAtRow P row t ⊎ ((row ≡ P.m) × EndsExplicit P t)

-- how the first phase ends: the same, and the second phase begins where the auxiliary column is out
abbrev pub FirstEnds : Program → FirstEnding → Table → Type 0
FirstEnds P Feasible t = InSecond P t
FirstEnds P (Infeasible row) t = EndsAtRow P row t ⊎ ((row ≡ P.m) × EndsExplicit P t)

-- a turn of the auxiliary form leads to the basis, from one on the path in which the auxiliary column is basic
abbrev pub FollowsFirst : Program → Columns → Type 0
FollowsFirst P basis =
    (before : Columns) × Reached P before × HasAuxiliary P before × TurnsTo (auxiliary_of P) before basis

-- the first phase stops at the basis: a row of position i is wide there, and the auxiliary column is basic, or was
-- before the turn that leads there
pub record StopsFirst (limit : ℕ) (P : Program) (basis : Columns) (i : ℕ) : Type 0 where
  pub row : HasWideRow limit P basis i
  pub phase : HasAuxiliary P basis ⊎ FollowsFirst P basis

-- the objective's row is kept, and the auxiliary one stands in its place
pub record IsPrepared (n m : ℕ) (t t2 : Table) : Type 0 where
  pub basis : t2.basis ≡ t.basis
  pub columns : t2.columns ≡ t.columns
  pub rows : (i c : ℕ) → i < m → rows_of t2 i c ≡ rows_of t i c
  pub kept : (c : ℕ) → kept_row_of t2 c ≡ rows_of t m c
  pub auxiliary : rows_of t2 m (n + m) ≡ pos 1
  pub own : rows_of t2 m (suc (n + m)) ≡ pos 1
  pub zero_else : (c : ℕ) → c < n + m + 4 → c ≢ n + m → c ≢ suc (n + m) → rows_of t2 m c ≡ pos 0
