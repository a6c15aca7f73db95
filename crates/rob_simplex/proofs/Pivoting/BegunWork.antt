-- A solver whose path stopped at a turn that was begun.
use Rattle.std.proofs.Common.{◌≡◌, ℕ, ◌<◌, ◌∙◌, sym, subst, arith, List}
use lib.IntN.{ℤ}
use Rattle.rob_linear.specs.Programs.{Program}
use Rattle.rob_simplex.specs.declared.state.State.{State}
use Rattle.rob_simplex.specs.declared.state.State.TheVariants.{New, Optimal, Infeasible, Unbounded, Stopped}
use Rattle.rob_simplex.specs.declared.state.Cause.{Cause}
use Rattle.rob_simplex.specs.declared.state.Cause.TheVariants.{Told, Turn, First, Elsewhere}
use Rattle.rob_simplex.specs.Begun.{IsBroken, HasBegunTurn, HasBegunAt}
use Rattle.rob_simplex.specs.Dictionaries.{Table, positions as rows_count, spare_column, with_limit, IsExchanged}
use Rattle.rob_simplex.specs.Endings.{HasBegun, begun_in}
use Rattle.rob_simplex.specs.Phases.{InSecond}
use Rattle.rob_simplex.specs.Solvers.{Solver, positions, StandsAs, has_stopped}
use Rattle.rob_simplex.proofs.Pivoting.BrokenPivots.{begun_size}
use Rattle.rob_simplex.proofs.Pivoting.BegunTurns.{pivotable_turn}
use Rattle.rob_simplex.proofs.Rows.CopiedTables.{solver_of}
use Rattle.rob_simplex.proofs.Rows.Deepened.{deep_is}

-- what was begun, in the dictionary
pub begun_here : (P : Program) (v s : Solver) → v ≡ s → HasBegun P s → (cause : Cause) → s.state ≡ Stopped cause
    → HasBegunAt (InSecond P) cause v.dictionary
begun_here P v s e h cause st =
    subst (λ (u : Solver). HasBegunAt (InSecond P) cause u.dictionary) (sym e)
    (subst (λ (x : State). begun_in P s x) st h)

stopped_in : (P : Program) (s : Solver) (x : State) → begun_in P s x → has_stopped x
stopped_in P s (Stopped cause) h = tt
stopped_in P s New h = h
stopped_in P s Optimal h = h
stopped_in P s Infeasible h = h
stopped_in P s (Unbounded column) h = h

pub begun_stopped : (P : Program) (s : Solver) → HasBegun P s → has_stopped s.state
begun_stopped P s h = stopped_in P s s.state h

-- the row of the pivot is one of the dictionary's
pub turn_row : (P : Program) (t : Table) (row : ℕ) → HasBegunTurn (InSecond P) t row → row < rows_count t
turn_row P t row h =
    let l : row < rows_count h.before = h.leaves.inside in
    let e = begun_size (pivotable_turn P h) h.broken in
    omega arith

pub begun_rows : (P : Program) (v : Solver) (cause : Cause) → HasBegunAt (InSecond P) cause v.dictionary
    → P.m ≡ positions v
begun_rows P v (Turn row) h =
    let e = begun_size (pivotable_turn P h) h.broken in
    sym h.stood.own.rows_are ∙ sym e
begun_rows P v First h = absurd h
begun_rows P v Told h = absurd h
begun_rows P v Elsewhere h = absurd h

-- ---- rows of another limit take it over
exchanged_with : (top : ℕ) (t t' : Table) (row left column : ℕ) → IsExchanged t t' row left column
    → IsExchanged t (with_limit top t') row left column
exchanged_with top t t' row left column x = record {
  basis = x.basis;
  columns = x.columns;
  row_stays = x.row_stays;
  moved = x.moved;
  emptied = x.emptied;
  others = x.others;
  kept_moved = x.kept_moved;
  kept_emptied = x.kept_emptied;
  kept_others = x.kept_others;
}

broken_with : (top : ℕ) (t t' : Table) (row column : ℕ) → IsBroken t t' row column
    → IsBroken t (with_limit top t') row column
broken_with top t t' row column h = record {
  half = h.half;
  begun = h.begun;
  columns_are = h.columns_are;
  told = exchanged_with top h.half t' row (spare_column t.columns (rows_count t)) column h.told;
}

turn_with : (top : ℕ) (Stood : Table → Type 0) (t : Table) (row : ℕ) → HasBegunTurn Stood t row
    → HasBegunTurn Stood (with_limit top t) row
turn_with top Stood t row h = record {
  before = h.before;
  stood = h.stood;
  column = h.column;
  enters = h.enters;
  leaves = h.leaves;
  broken = broken_with top h.before t row h.column h.broken;
}

cause_with : (top : ℕ) (Stood : Table → Type 0) (cause : Cause) (t : Table) → HasBegunAt Stood cause t
    → HasBegunAt Stood cause (with_limit top t)
cause_with top Stood (Turn row) t h = turn_with top Stood t row h
cause_with top Stood First t h = h
cause_with top Stood Told t h = h
cause_with top Stood Elsewhere t h = h

begun_with : (top : ℕ) (P : Program) (s : Solver) (w : List ℤ) (x : State) → begun_in P s x
    → begun_in P (solver_of s.state (with_limit top s.dictionary) w) x
begun_with top P s w (Stopped cause) h = cause_with top (InSecond P) cause s.dictionary h
begun_with top P s w New h = h
begun_with top P s w Optimal h = h
begun_with top P s w Infeasible h = h
begun_with top P s w (Unbounded column) h = h

pub begun_as : (top : ℕ) (s s' : Solver) → StandsAs top s s' → (P : Program) → HasBegun P s → HasBegun P s'
begun_as top s s' a P h = subst (HasBegun P) (deep_is top s s' a) (begun_with top P s s'.weights s.state h)
