-- A turn of the second phase that was begun by some rows, and is ended by rows of a greater limit.
use Rattle.std.proofs.Common.{◌≡◌, ◌≢◌, ℕ, suc, ◌+◌, ◌<◌, ◌≤◌, sym, ap, ◌∙◌, subst, arith, inl, inr, set, pos}
use Rattle.std.proofs.lemmas.Bool.{cases_lt}
use Rattle.rob_linear.specs.Vectors.{Columns}
use Rattle.rob_linear.specs.Programs.{Program, system_of, auxiliary_place}
use Rattle.rob_linear.specs.Paths.{HasAuxiliary, Reached, Last, LastFrom}
use Rattle.rob_linear.specs.WideRows.{HasWideRow}
use Rattle.rob_linear.specs.Turns.{own_of}
use Rattle.rob_linear.proofs.CostChange.OtherCosts.{turned_on}
use Rattle.rob_linear.proofs.BasisPaths.Phases.{place_low, place_high}
use Rattle.rob_linear.proofs.Bases.Turns.{own_low, own_high}
use Rattle.rob_entries.specs.Updates.{IsWideCleared}
use Rattle.rob_simplex.specs.declared.state.Cause.{Cause}
use Rattle.rob_simplex.specs.declared.state.Cause.TheVariants.{Told, Turn, First, Elsewhere}
use Rattle.rob_simplex.specs.Dictionaries.{Table, positions, width_of, columns_of, basic_columns, spare_column, rows_of, IsAlone, IsClosed, IsPivoted, IsExchanged, ClearsTable, StopsTable}
use Rattle.rob_simplex.specs.Begun.{HasBegunTurn, HasBegunAt, StandsFrom, HaltsAt}
use Rattle.rob_simplex.specs.Endings.{halted_by}
use Rattle.rob_simplex.specs.Phases.{StandsFor, InSecond}
use Rattle.rob_simplex.specs.Solvers.{Solver}
use Rattle.rob_simplex.proofs.Pivoting.BrokenPivots.{IsPivotable, begun_size, basis4, columns4, pivoted4, closed4, wide_again}
use Rattle.rob_simplex.proofs.Telling.Causes.{ends_wide}
use Rattle.rob_simplex.proofs.Places.OwnEntries.{own_positive, some_of}
use Rattle.rob_simplex.proofs.Telling.JudgingLemmas.{stands_own}
use Rattle.rob_simplex.proofs.Places.FreeColumns.{basics_inside}
use Rattle.rob_simplex.proofs.Turns.PathsFrom.{from_here, one_turn, second_from, wide_from, refused_from}
use Rattle.rob_simplex.proofs.Rows.ReadRows.{basic_low, basic_high}
use Rattle.rob_simplex.proofs.Turns.SecondPhase.{entering_free, not_spare, turn_second, turns_on, wide_second}

-- ---- what is known where a path stopped
pub turn_where : (A B : Table → Type 0) → ((t : Table) → A t → B t) → (t : Table) (row : ℕ) → HasBegunTurn A t row
    → HasBegunTurn B t row
turn_where A B f t row h =
    record {
      before = h.before;
      stood = f h.before h.stood;
      column = h.column;
      enters = h.enters;
      leaves =
          h.leaves;
      broken = h.broken;
    }

pub begun_where : (A B : Table → Type 0) → ((t : Table) → A t → B t) → (cause : Cause) (t : Table)
    → HasBegunAt A cause t → HasBegunAt B cause t
begun_where A B f Told t h = h
begun_where A B f (Turn row) t h = turn_where A B f t row h
begun_where A B f First t h = h
begun_where A B f Elsewhere t h = h

pub halts_begun : (IsEnd : Columns → Type 0) (Stood : Table → Type 0) (limit : ℕ) (P : Program) (i : ℕ) (cause : Cause)
    (t : Table) → HasBegunAt Stood cause t → HaltsAt IsEnd Stood limit P i cause t
halts_begun IsEnd Stood limit P i Told t h = absurd h
halts_begun IsEnd Stood limit P i (Turn row) t h = h
halts_begun IsEnd Stood limit P i First t h = absurd h
halts_begun IsEnd Stood limit P i Elsewhere t h = h

-- on the path that goes on from a basis of the program's path
stands_on : (P : Program) (t : Table) → InSecond P t → (u : Table) → StandsFrom P (columns_of t.basis) u → InSecond P u
stands_on P t h u s =
    let w : Reached P (columns_of u.basis) × ¬ (HasAuxiliary P (columns_of u.basis)) =
    turned_on P s.1.turns (columns_of t.basis) (columns_of u.basis) h.reached h.without s.1.turned in
    record { own = s.0; reached = w.0; without = w.1 }

pub halts_on : (limit : ℕ) (P : Program) (t t' : Table) (i : ℕ) (cause : Cause) → InSecond P t
    → HaltsAt (LastFrom P (columns_of t.basis)) (StandsFrom P (columns_of t.basis)) limit P i cause t'
    → HaltsAt (Last P) (InSecond P) limit P i cause t'
halts_on limit P t t' i Told h w =
    let b = second_from P t t' w.growing h (record { own = w.own; reached = w.last.reached; ends = w.ends }) in
    ends_wide limit P t' w.growing i b.0 b.1 w.wide
halts_on limit P t t' i (Turn row) h w =
    turn_where (StandsFrom P (columns_of t.basis)) (InSecond P) (stands_on P t h) t' row w
halts_on limit P t t' i First h w = w
halts_on limit P t t' i Elsewhere h w = w

pub halted_path : (limit : ℕ) (P : Program) (s : Solver) (i : ℕ) (cause : Cause)
    → HaltsAt (Last P) (InSecond P) limit P i cause s.dictionary → halted_by limit P i s cause
halted_path limit P s i Told h = inl h
halted_path limit P s i (Turn row) h = h
halted_path limit P s i First h = h
halted_path limit P s i Elsewhere h = h

-- ---- a turn that was begun is ended
module _ (P : Program) {t : Table} {row : ℕ} (h : HasBegunTurn (InSecond P) t row) where
  st : StandsFor P h.before
  st = h.stood.own

  size_is : h.before.columns + positions h.before ≡ P.n + P.m
  size_is = omega (arith, st.rows_are, st.columns_are)

  -- the row of the pivot is 0 in the columns of the other positions
  top_zero : (i : ℕ) → i ≤ positions h.before → i ≢ row
      → rows_of h.before row (basic_columns h.before.columns h.before.basis i) ≡ pos 0
  top_zero i il d =
      let z =
      (st.stands.multiples.rows_of row
      (let l : row < positions h.before = h.leaves.inside in omega (arith, st.rows_are))).along.zeros i
      (omega (arith, st.rows_are)) d in
      elim (cases_lt i (positions h.before)) [
        | inl l ↦
            let im : i < P.m = omega (arith, st.rows_are) in
            let e : own_of (system_of P) (columns_of h.before.basis) i ≡ columns_of h.before.basis i =
            own_low (system_of P) (columns_of h.before.basis) i im in
            let c : columns_of h.before.basis i < P.n + P.m =
            subst (λ k. k < P.n + P.m) e (st.stands.multiples.inside i im) in
            ap (rows_of h.before row)
            (basic_low h.before.columns h.before.basis i l ∙ sym (place_low P (columns_of h.before.basis i) c)
            ∙ ap (auxiliary_place P) (sym e)) ∙ z
        | inr l ↦
            let e : own_of (system_of P) (columns_of h.before.basis) i ≡ P.n + P.m =
            own_high (system_of P) (columns_of h.before.basis) i (omega (arith, st.rows_are)) in
            let x : suc (h.before.columns + positions h.before) ≡ suc (P.n + P.m) = omega (arith, size_is) in
            ap (rows_of h.before row)
            (basic_high h.before.columns h.before.basis i l ∙ x ∙ sym (place_high P (P.n + P.m) (omega arith))
            ∙ ap (auxiliary_place P) (sym e)) ∙ z
      ]

  pub pivotable_turn : IsPivotable h.before row h.column
  pivotable_turn = record {
    row_in = h.leaves.inside;
    free = entering_free st h.enters;
    apart = not_spare st h.enters;
    others_apart = λ i il d. st.closed.free i il;
    positive = h.leaves.positive;
    inside = λ i il d. basics_inside st i il;
    own =
        λ i il d. some_of (rows_of h.before i (basic_columns h.before.columns h.before.basis i))
        (own_positive h.before (stands_own P h.before st) i il);
    top_zero = top_zero;
  }

  module _ (t' : Table) (eb : t'.basis ≡ set h.before.basis row h.column) where
    pub turn_ended : IsPivoted h.before t' row h.column → IsClosed t' → t'.columns ≡ h.before.columns → InSecond P t'
    turn_ended p c en =
        stands_on P h.before h.stood t' (
          turn_second st h.enters h.leaves t' p c eb en,
          one_turn P (columns_of h.before.basis) h.before t' (from_here P h.before st)
              (turns_on st h.enters h.leaves t' eb),
        )

    pub turn_wide : (limit i : ℕ) → i ≤ positions h.before → i ≢ row
        → IsWideCleared limit (width_of h.before) h.column (rows_of h.before i) (rows_of h.before row)
        → HasWideRow limit P (columns_of t'.basis) i
    turn_wide limit i il d w =
        wide_from limit P h.before (columns_of t'.basis) i h.stood
        (refused_from limit P (columns_of h.before.basis) h.before t' i (from_here P h.before st)
        (wide_second st h.enters h.leaves limit i il d w t' eb))

  -- the steps that end it: the position opened again, the others cleared, and the column brought in
  module _ {k z : ℕ} (ek : k ≡ columns_of t.basis row) (ez : z ≡ spare_column t.columns (positions t)) {r : Table}
      (x : IsExchanged t r row (columns_of t.basis row) z) (r2 : Table) (b2 : r2.basis ≡ r.basis)
      (n2 : r2.columns ≡ r.columns) (t4 : Table) (b4 : t4.basis ≡ set r2.basis row k)
      (n4 : t4.columns ≡ r2.columns) where
    turned4 : t4.basis ≡ set h.before.basis row h.column
    turned4 = basis4 pivotable_turn h.broken ek ez x r2 b2 n2 t4 b4 n4

    pub ended_again : (IsAlone r2 row k → (i c : ℕ) → i ≤ positions r2 → c < r2.columns + positions r2 + 4
        → rows_of t4 i c ≡ rows_of r2 i c)
        → (count : ℕ) → positions t < count → ClearsTable count r r2 row k → InSecond P t4
    ended_again r4 count all cl =
        turn_ended t4 turned4 (pivoted4 pivotable_turn h.broken ek ez x r2 b2 n2 t4 b4 n4 r4 count all cl)
        (closed4 pivotable_turn h.broken ek ez x r2 b2 n2 t4 b4 n4 r4 count all cl)
        (columns4 pivotable_turn h.broken ek ez x r2 b2 n2 t4 b4 n4)

    pub refused_again : (limit count i : ℕ) → StopsTable limit count r r2 row k i → i ≤ positions t
        → HasWideRow limit P (columns_of t4.basis) i
    refused_again limit count i sp il =
        turn_wide t4 turned4 limit i (omega (arith, begun_size pivotable_turn h.broken)) sp.other
        (wide_again pivotable_turn h.broken ek ez x r2 b2 n2 t4 b4 n4 limit count i sp il)
