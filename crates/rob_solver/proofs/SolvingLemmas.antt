-- What a solver of a program answers.
use Rattle.std.proofs.Common.{◌≡◌, ℕ, ◌≤◌, sym, ap, ◌∙◌, subst, arith, inl, inr, length, Result, Ok, Err, IfOk}
use Rattle.rob_linear.specs.Programs.{Program}
use Rattle.rob_linear.specs.WideRows.{HasWideRow}
use Rattle.rob_number.specs.declared.lp_kind.LpKind.{LpKind}
use Rattle.rob_simplex.specs.declared.state.Cause.{Cause}
use Rattle.rob_simplex.specs.declared.state.Cause.TheVariants.{Told, Turn, First, Elsewhere}
use Rattle.rob_simplex.specs.declared.state.LpStop.{LpStop}
use Rattle.rob_simplex.specs.declared.state.LpStop.TheVariants.{Wide}
use Rattle.rob_simplex.specs.declared.state.State.{State}
use Rattle.rob_simplex.specs.declared.state.State.TheVariants.{New, Optimal, Infeasible, Unbounded, Stopped}
use Rattle.rob_simplex.specs.Dictionaries.{Table, columns_of}
use Rattle.rob_simplex.specs.Endings.{HasBegun, HasHalted, HasSolved, HasAnswered, HasStopped, IsCaused, begun_in, halted_by}
use Rattle.rob_simplex.specs.Explicit.{StopsFirst}
use Rattle.rob_simplex.specs.Resuming.{CanResume}
use Rattle.rob_simplex.specs.Solvers.{Solver, positions, HasPoint, HasWeights, IsMadeFor, StandsAs, has_stopped}
use Rattle.rob_number.specs.Counts.{CountsOnly, raised}
use Rattle.rob_solver.specs.declared.solving.Stopped.{Stopped as Unsolved}
use Rattle.rob_solver.specs.declared.solving.Stopped.TheVariants as unsolved
use Rattle.rob_solver.specs.Depths.{narrow_limit, deep_limit}
use Rattle.rob_solver.specs.Solving.{CountsSolving, CountsStopped, IsBegun, IsCausedBy, IsSolved, StopsNarrow, TellsWide}

-- what it told when it was made for the program, and then solved it
pub solution : (N : Type 0) (P : Program) (made now : Solver) (kind : LpKind) → IsMadeFor P made
    → now.columns ≡ made.columns → positions now ≡ positions made
    → HasSolved P kind now → HasAnswered kind now → (HasPoint now → CanResume P now)
    → IsSolved {N = N} P (record { solver = now; kind = kind })
solution N P made now kind m columns rows h a r = record {
  rows = m.rows ∙ sym rows;
  columns = m.columns ∙ sym columns;
  answer = h;
  answered = a;
  resumable = r;
}

-- ---- what it stopped at
abbrev cause_of : State → Cause
cause_of (Stopped cause) = cause
cause_of New = Told
cause_of Optimal = Told
cause_of Infeasible = Told
cause_of (Unbounded column) = Told

pub stops : (limit : ℕ) (P : Program) (stop : LpStop) (s : Solver) → HasStopped limit P stop s → has_stopped s.state
stops limit P (Wide i) s h = h.0

halted_here : (limit : ℕ) (P : Program) (i : ℕ) (s : Solver) (cause : Cause) → HasHalted limit P (Wide i) s
    → s.state ≡ Stopped cause → halted_by limit P i s cause
halted_here limit P i s cause h e = subst (halted_by limit P i s) (ap cause_of (sym h.1 ∙ e)) h.2

pub tells_wide : (limit : ℕ) (P : Program) (stop : LpStop) (s : Solver) → HasHalted limit P stop s
    → s.state ≡ Stopped Told → TellsWide limit P stop s
tells_wide limit P (Wide i) s h e = halted_here limit P i s Told h e

pub begun_turn : (limit : ℕ) (P : Program) (stop : LpStop) (s : Solver) (row : ℕ) → HasHalted limit P stop s
    → s.state ≡ Stopped (Turn row) → HasBegun P s
begun_turn limit P (Wide i) s row h e = subst (begun_in P s) (sym e) (halted_here limit P i s (Turn row) h e)

pub begun_nowhere : (limit : ℕ) (P : Program) (stop : LpStop) (s : Solver) → HasHalted limit P stop s
    → s.state ≡ Stopped Elsewhere → ⊥
begun_nowhere limit P (Wide i) s h e = halted_here limit P i s Elsewhere h e

pub stops_narrow : (limit : ℕ) (P : Program) (stop : LpStop) (s : Solver) → HasHalted limit P stop s
    → s.state ≡ Stopped First → s.limit ≡ narrow_limit → StopsNarrow P
stops_narrow limit P (Wide i) s h e n = (
  columns_of s.basis,
  i,
  subst (λ l. StopsFirst l P (columns_of s.basis) i) n (halted_here limit P i s First h e),
)

-- ---- why deep rows stop
pub caused_by : (limit : ℕ) (P : Program) (stop : LpStop) (s : Solver) → s.limit ≡ deep_limit → IsCaused limit P stop s
    → IsCausedBy limit P stop s
caused_by limit P (Wide i) s e (inl (inl w)) = inl (e, subst (λ l. HasWideRow l P (columns_of s.basis) i) e w)
caused_by limit P (Wide i) s e (inl (inr w)) = inr (inl w)
caused_by limit P (Wide i) s e (inr w) = inr (inr w)

-- ---- what was taken over
module _ (narrow deep : Solver) (a : StandsAs deep_limit narrow deep) where
  pub columns_as : deep.columns ≡ narrow.columns
  columns_as = ap (λ (t : Table). t.columns) a.dictionary

  pub positions_as : positions deep ≡ positions narrow
  positions_as = ap (λ (t : Table). length t.basis) a.dictionary

  pub begun_solution : (N : Type 0) (P : Program) → IsBegun P narrow → (now : Solver) (kind : LpKind)
      → now.columns ≡ deep.columns → positions now ≡ positions deep
      → HasSolved P kind now → HasAnswered kind now → (HasPoint now → CanResume P now)
      → IsSolved {N = N} P (record { solver = now; kind = kind })
  begun_solution N P b now kind columns rows h w r = record {
    rows = b.rows ∙ sym positions_as ∙ sym rows;
    columns = b.columns ∙ sym columns_as ∙ sym columns;
    answer = h;
    answered = w;
    resumable = r;
  }

-- where a turn was begun there are no weights
no_weights : (P : Program) (s : Solver) (x : State) → begun_in P s x → x ≡ Infeasible → ⊥
no_weights P s x h e = subst (begun_in P s) e h

pub begun_weightless : (P : Program) (s : Solver) → HasBegun P s → HasWeights s → ⊥
begun_weightless P s h w = no_weights P s s.state h w

pub deep_limits : {E : Type 0} (narrow : Solver) (r : Result Solver E) → IfOk r (StandsAs deep_limit narrow)
    → IfOk r (λ s. s.limit ≡ deep_limit)
deep_limits narrow (Ok s) a = ap (λ (t : Table). t.limit) a.dictionary
deep_limits narrow (Err e) a = a

pub caused_told : (limit : ℕ) (P : Program) (stop : LpStop) (s : Solver) → TellsWide limit P stop s
    → IsCausedBy limit P stop s
caused_told limit P (Wide i) s w = inr w

-- a refusal is counted once
pub counts_refused : {S N : Type 0} (ops_of wides_of : S → ℕ) (a b c : S) → CountsOnly ops_of wides_of a b
    → (r : Unsolved N) (solver : Solver) (stop : LpStop) → r ≡ unsolved.Wide solver stop
    → ops_of b ≤ ops_of c → wides_of c ≡ raised (wides_of b) → CountsSolving {N = N} ops_of wides_of a c (Err r)
counts_refused ops_of wides_of a b c h r solver stop e up one = record {
  ops = omega (arith, h.ops, up);
  wides = subst (CountsStopped (wides_of a) (wides_of c)) (sym e) (one ∙ ap raised h.wides);
}
