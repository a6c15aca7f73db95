-- The first phase on a dictionary: its start, and what is left of it once the auxiliary column has left.
use Rattle.std.proofs.Common.{◌≡◌, ◌≢◌, ℕ, zero, suc, ◌+◌, ◌<◌, ◌≤◌, sym, ap, ◌∙◌, subst, arith, inl, inr, List, length}
use Rattle.std.proofs.lemmas.Bool.{cases_lt}
use Rattle.std.proofs.lemmas.Int.{ints}
use lib.IntN.{ℤ, pos, ◌*ℤ◌}
use Rattle.rob_linear.specs.Vectors.{Matrix, Columns}
use Rattle.rob_linear.specs.Systems.{System, IsTagged, right, with_objective}
use Rattle.rob_linear.specs.Programs.{Program, system_of, auxiliary_of, auxiliary_place, without_auxiliary}
use Rattle.rob_linear.specs.Turns.{own_of}
use Rattle.rob_linear.specs.Paths.{HasAuxiliary, Reached, StartsAtSlacks}
use Rattle.rob_linear.specs.Multiples.{AreParallel, StandsMultiple}
use Rattle.rob_linear.specs.Beside.{AreStarting, IsLeast, HasNoLeast, without_column}
use Rattle.rob_linear.proofs.Bases.Solutions.{tags_in}
use Rattle.rob_linear.proofs.BasisPaths.Starts.{system_tagged}
use Rattle.rob_linear.proofs.Bases.Turns.{own_low}
use Rattle.rob_linear.proofs.BasisPaths.Phases.{place_low, place_high}
use Rattle.rob_linear.proofs.RowForms.Multiples.{multiple_parallel, multiples_in, order_parallel}
use Rattle.rob_linear.proofs.KeptOut.BesideColumns.{holds_start}
use Rattle.rob_linear.proofs.KeptOut.BesideLoops.{beside_starts, slacks_start}
use Rattle.rob_linear.proofs.KeptOut.WithoutColumn.{slacks_without}
use Rattle.rob_linear.proofs.BasisPaths.Costs.{with_objective_low, with_objective_at}
use Rattle.rob_linear.proofs.RowForms.MultiplePhases.{change_multiple}
use Rattle.rob_simplex.specs.Dictionaries.{Table, positions, width_of, columns_of, spare_column, shape, rows_of, kept_row_of, IsFree}
use Rattle.rob_simplex.specs.Phases.{InSecond, InBeside, HasLeft}
use Rattle.rob_simplex.specs.Starts.{IsStartingTable}
use Rattle.rob_simplex.specs.Explicit.{HoldsExplicit}
use Rattle.rob_simplex.specs.LeastRows.{IsLeastIn, HasNoLeastIn}
use Rattle.rob_simplex.proofs.Rows.ReadRows.{basic_low, basic_high}

-- rows that are multiples of rows that stand
pub stands_parallel : (S : System) (basis : Columns) (rows rows' : Matrix) → IsTagged S → AreParallel S rows rows'
    → StandsMultiple S basis rows → StandsMultiple S basis rows'
stands_parallel S basis rows rows' g par s = record {
  multiples = record {
    inside = s.multiples.inside;
    last = s.multiples.last;
    rows_of =
        λ i il. multiple_parallel S (own_of S basis) i (rows i) (rows' i) (tags_in S g)
        (multiples_in S (own_of S basis) rows s.multiples) il (par i il) (s.multiples.rows_of i il);
  };
  feasible = order_parallel S rows rows' g par s.feasible;
}

-- the same rows
pub stands_equal_rows : (S : System) (basis : Columns) (rows rows' : Matrix) → IsTagged S
    → ((i k : ℕ) → i ≤ S.m → k ≤ right S → rows' i k ≡ rows i k) → StandsMultiple S basis rows
    → StandsMultiple S basis rows'
stands_equal_rows S basis rows rows' g e s =
    stands_parallel S basis rows rows' g
    (λ i il. record {
      p = pos 1;
      q = pos 1;
      p_positive = omega (arith, ints);
      q_positive = omega (arith, ints);
      same =
          λ k kl. ap (λ z. pos 1 *ℤ z) (sym (e i k il (omega arith)));
    }) s

-- ---- the start
module _ (P : Program) (t : Table) (h : IsStartingTable P t) where
  starting : AreStarting P (rows_of t)
  starting i il k kl = h.rows i k il kl

  -- no row is negative: the auxiliary column isn't needed
  pub starts_left : HasNoLeastIn t → HasLeft P t
  starts_left none' =
      let none : HasNoLeast (shape P.n P.m) (P.n + P.m) (rows_of t) =
      subst (λ n. HasNoLeast (shape n P.m) (n + P.m) (rows_of t)) h.columns_are
      (subst (λ m. HasNoLeast (shape t.columns m) (t.columns + m) (rows_of t)) h.rows_are none') in
      let s : StartsAtSlacks P (columns_of t.basis) =
      slacks_start P (columns_of t.basis) (rows_of t) h.slacks starting none in
      record {
        rows_are = h.rows_are;
        columns_are = h.columns_are;
        reached = (zero, inl s);
        without = λ a.
            let l : a.0 < P.m = a.1 in
            let e : P.n + P.m ≡ P.n + a.0 = a.2 ∙ h.slacks a.0 a.1 in
            absurd (omega arith);
        stands = slacks_without P (columns_of t.basis) (rows_of t) s (λ i k il kl d. h.rows i k il kl);
        closed = h.closed;
      }

  -- the least row: the auxiliary column comes in there
  pub starts_beside : (q : ℕ) → IsLeastIn t q → InBeside P q t
  starts_beside q least' =
      let l : IsLeast (shape P.n P.m) (P.n + P.m) (rows_of t) q =
      subst (λ n. IsLeast (shape n P.m) (n + P.m) (rows_of t) q) h.columns_are
      (subst (λ m. IsLeast (shape t.columns m) (t.columns + m) (rows_of t) q) h.rows_are least') in
      let least : IsLeast (auxiliary_of P) (P.n + P.m) (rows_of t) q =
      record { inside = l.inside; below = l.below; negative = l.negative; first = l.first } in
      record {
        rows_are = h.rows_are;
        columns_are = h.columns_are;
        reached = (zero, inr (beside_starts P (columns_of t.basis) (rows_of t) q h.slacks starting least));
        holds = holds_start P (columns_of t.basis) (rows_of t) q l.inside h.slacks starting;
        closed = h.closed;
      }

-- ---- the auxiliary column has left
module _ (P : Program) (t : Table) (h : HasLeft P t) where
  size_is : t.columns + positions t ≡ P.n + P.m
  size_is = omega (arith, h.rows_are, h.columns_are)

  column_in : (i : ℕ) → i < P.m → columns_of t.basis i < P.n + P.m
  column_in i l =
      subst (λ k. k < P.n + P.m) (own_low (system_of P) (columns_of t.basis) i l) (h.stands.multiples.inside i l)

  pub auxiliary_out : IsFree t.columns t.basis (t.columns + positions t)
  auxiliary_out = record {
    inside = omega arith;
    not_basic = λ i il e. elim (cases_lt i (positions t)) [
      | inl l ↦
          let b : columns_of t.basis i < P.n + P.m = column_in i (omega (arith, h.rows_are)) in
          let x : columns_of t.basis i ≡ t.columns + positions t = sym (basic_low t.columns t.basis i l) ∙ e in
          absurd (omega (arith, size_is))
      | inr l ↦
          let x : suc (t.columns + positions t) ≡ t.columns + positions t =
          sym (basic_high t.columns t.basis i l) ∙ e in
          absurd (omega arith)
    ];
    not_right = λ e. absurd (omega arith);
  }

  -- 0 is written in its column
  module _ (t' : Table) (column : ℕ) (is : column ≡ t.columns + positions t)
      (zeros : (i : ℕ) → i ≤ positions t → rows_of t' i column ≡ pos 0)
      (others : (i c : ℕ) → i ≤ positions t → c < width_of t → c ≢ column → rows_of t' i c ≡ rows_of t i c)
      (eb : t'.basis ≡ t.basis) (en : t'.columns ≡ t.columns) where
    em : positions t' ≡ positions t
    em = ap length eb

    column_is : column ≡ P.n + P.m
    column_is = is ∙ size_is

    same : (i k : ℕ) → i ≤ P.m → k ≤ suc (P.n + P.m)
        → without_column P (rows_of t') i k ≡ without_column P (rows_of t) i k
    same i k il kl = elim (cases_lt k (P.n + P.m)) [
      | inl l ↦
          let p : auxiliary_place P k ≡ k = place_low P k l in
          others i (auxiliary_place P k) (omega (arith, h.rows_are)) (omega (arith, size_is))
          (λ e. absurd (omega (arith, column_is)))
      | inr l ↦
          let p : auxiliary_place P k ≡ suc k = place_high P k l in
          others i (auxiliary_place P k) (omega (arith, h.rows_are)) (omega (arith, size_is))
          (λ e. absurd (omega (arith, column_is)))
    ]

    pub second_begins : InSecond P t'
    second_begins =
        let e : spare_column t'.columns (positions t') ≡ spare_column t.columns (positions t) = omega (arith, em, en) in
        record {
          reached = subst (λ (b : List ℕ). Reached P (columns_of b)) (sym eb) h.reached;
          without = subst (λ (b : List ℕ). ¬ (HasAuxiliary P (columns_of b))) (sym eb) h.without;
          own = record {
            rows_are = em ∙ h.rows_are;
            columns_are = en ∙ h.columns_are;
            stands =
                subst (λ (b : List ℕ). StandsMultiple (system_of P) (columns_of b) (without_column P (rows_of t')))
                (sym eb)
                (stands_equal_rows (system_of P) (columns_of t.basis) (without_column P (rows_of t))
                (without_column P (rows_of t')) (system_tagged P) same h.stands);
            empty = λ i il. subst (λ k. rows_of t' i k ≡ pos 0) column_is (zeros i (omega (arith, h.rows_are)));
            closed = record {
              free =
                  λ i il x. h.closed.free i (omega (arith, em)) (ap (λ (b : List ℕ). columns_of b i) (sym eb) ∙ x ∙ e);
              zero = λ i il.
                  ap (rows_of t' i) e ∙ others i (spare_column t.columns (positions t)) (omega (arith, em))
                  (omega arith) (λ x. absurd (omega (arith, is)))
                  ∙ h.closed.zero i (omega (arith, em));
            };
          };
        }

-- in the explicit form: the kept row is written back
module _ (P : Program) (t t' : Table) (h : HoldsExplicit P t) (out : ¬ (HasAuxiliary P (columns_of t.basis)))
    (objective : (c : ℕ) → rows_of t' (positions t) c ≡ kept_row_of t c)
    (rows : (i c : ℕ) → i < positions t → rows_of t' i c ≡ rows_of t i c) (eb : t'.basis ≡ t.basis)
    (en : t'.columns ≡ t.columns) where
  at_objective : (c : ℕ) → rows_of t' P.m c ≡ kept_row_of t c
  at_objective = subst (λ m. (c : ℕ) → rows_of t' m c ≡ kept_row_of t c) h.rows_are objective

  restored : (i k : ℕ) → i ≤ P.m → k ≤ suc (P.n + P.m)
      → without_column P (rows_of t') i k ≡ without_auxiliary P (rows_of t) (kept_row_of t) i k
  restored i k il kl = elim (cases_lt i P.m) [
    | inl l ↦ rows i (auxiliary_place P k) (omega (arith, h.rows_are))
        ∙ sym (ap (λ (r : ℕ → ℤ). r (auxiliary_place P k)) (with_objective_low P.m (rows_of t) (kept_row_of t) i l))
    | inr l ↦
        let e : i ≡ P.m = omega arith in
        ap (λ v. rows_of t' v (auxiliary_place P k)) e ∙ at_objective (auxiliary_place P k)
        ∙ sym (ap (λ v. with_objective P.m (rows_of t) (kept_row_of t) v (auxiliary_place P k)) e
        ∙ ap (λ (r : ℕ → ℤ). r (auxiliary_place P k)) (with_objective_at P.m (rows_of t) (kept_row_of t)))
  ]

  pub explicit_leaves : HasLeft P t'
  explicit_leaves =
      let em : positions t' ≡ positions t = ap length eb in
      let e : spare_column t'.columns (positions t') ≡ spare_column P.n P.m =
      omega (arith, em, en, h.rows_are, h.columns_are) in
      record {
        rows_are = em ∙ h.rows_are;
        columns_are = en ∙ h.columns_are;
        reached = subst (λ (b : List ℕ). Reached P (columns_of b)) (sym eb) h.reached;
        without = subst (λ (b : List ℕ). ¬ (HasAuxiliary P (columns_of b))) (sym eb) out;
        stands =
            subst (λ (b : List ℕ). StandsMultiple (system_of P) (columns_of b) (without_column P (rows_of t'))) (sym eb)
            (stands_equal_rows (system_of P) (columns_of t.basis) (without_auxiliary P (rows_of t) (kept_row_of t))
            (without_column P (rows_of t')) (system_tagged P) restored
            (change_multiple P (columns_of t.basis) (rows_of t) (kept_row_of t) h.stands h.kept out));
        closed = record {
          free =
              λ i il x. h.closed.free i (omega (arith, em))
              (ap (λ (b : List ℕ). columns_of b i) (sym eb) ∙ x
              ∙ (let y : spare_column t'.columns (positions t') ≡ spare_column t.columns (positions t) =
              omega (arith, em, en) in y));
          zero = λ i il. ap (rows_of t' i) e ∙ zero_at i (omega (arith, em, h.rows_are));
        };
      }
    where
      zero_at : (i : ℕ) → i ≤ P.m → rows_of t' i (spare_column P.n P.m) ≡ pos 0
      zero_at i il = elim (cases_lt i P.m) [
        | inl l ↦
            let e : spare_column t.columns (positions t) ≡ spare_column P.n P.m =
            omega (arith, h.rows_are, h.columns_are) in
            rows i (spare_column P.n P.m) (omega (arith, h.rows_are))
            ∙ subst (λ k. rows_of t i k ≡ pos 0) e (h.closed.zero i (omega (arith, h.rows_are)))
        | inr l ↦
            let e : i ≡ P.m = omega arith in
            ap (λ v. rows_of t' v (spare_column P.n P.m)) e ∙ at_objective (spare_column P.n P.m) ∙ h.kept_zero
      ]
