-- The auxiliary column comes in where a pivot beside it was begun: the rows are then those of the explicit form.
use Rattle.std.proofs.Common.{◌≡◌, ◌≢◌, ℕ, zero, suc, ◌+◌, ◌<◌, ◌≤◌, sym, refl, ap, ◌∙◌, subst, arith, inl, inr, List, length, set, min}
use Rattle.std.proofs.lemmas.Bool.{cases_eq, cases_lt}
use Rattle.std.proofs.lemmas.Int.{ints}
use Rattle.std.proofs.lemmas.List.{get_or-set_same, get_or-set_other, length-set}
use Rattle.std.specs.Int.RustNames.{unsigned_abs}
use lib.IntN.{pos, ◌*ℤ◌}
use lib.Signed.{◌<ℤ◌}
use Rattle.rob_linear.specs.Vectors.{Vector}
use Rattle.rob_linear.specs.Systems.{IsPrimitive}
use Rattle.rob_linear.specs.Programs.{Program, auxiliary_row, auxiliary_of, kept_of}
use Rattle.rob_linear.specs.Turns.{own_of}
use Rattle.rob_linear.specs.Paths.{HasAuxiliary, Reached}
use Rattle.rob_linear.specs.WideRows.{HasWideRow, NeedsAuxiliary}
use Rattle.rob_linear.specs.Multiples.{IsMultipleRow, IsClearedBy, StandsMultiple}
use Rattle.rob_linear.specs.Beside.{StandsBeside, IsBackPivot, path_basis}
use Rattle.rob_linear.proofs.LinearPrograms.Programs.{auxiliary_cost_zero, auxiliary_cost_entry, auxiliary_cost_objective}
use Rattle.rob_linear.proofs.CostChange.OtherCosts.{turned_same}
use Rattle.rob_linear.proofs.KeptOut.Beside.{put_same}
use Rattle.rob_linear.proofs.KeptOut.BesideColumns.{holds_stands, stands_multiple_same}
use Rattle.rob_linear.proofs.KeptOut.BesideLoops.{beside_needs}
use Rattle.rob_linear.proofs.KeptOut.BesideBack.{begun_stands, begun_wide, begun_cost_wide}
use Rattle.rob_entries.specs.Updates.{IsWideCleared}
use Rattle.rob_simplex.specs.Dictionaries.{Table, positions, width_of, columns_of, spare_column, rows_of, kept_row_of, IsFree, IsAlone, IsOpen, IsClosed, IsPivoted, ClearsTable}
use Rattle.rob_simplex.specs.Phases.{IsOpenBeside}
use Rattle.rob_simplex.specs.Explicit.{InExplicit, StopsFirst, IsPrepared}
use Rattle.rob_simplex.proofs.Turns.Prepared.{cleared_same, row_of_same, wide_same}
use Rattle.rob_simplex.proofs.Pivoting.PivotLemmas.{set_twice, zero_stays, free_opened}
use Rattle.rob_simplex.proofs.Places.Views.{free_as}
use Rattle.rob_simplex.proofs.Turns.NegatedRows.{set_is}
use Rattle.rob_simplex.proofs.Turns.BesideRows.{auxiliary_free, open_positive}
use Rattle.rob_simplex.proofs.Turns.SpareColumns.{wide_cleared, wide_primitive, wide_entry}

module _ {P : Program} {q : ℕ} {t : Table} (h : IsOpenBeside P q t) where
  q_low : q < P.m
  q_low = h.stood.holds.inside

  pub open_size : positions t ≡ P.m
  open_size = ap length h.basis ∙ length-set h.before.basis q (spare_column P.n P.m) ∙ h.stood.rows_are

  size_is : t.columns + positions t ≡ P.n + P.m
  size_is = omega (arith, open_size, h.columns_are)

  free : IsFree t.columns t.basis (P.n + P.m)
  free =
      let e : spare_column P.n P.m ≡ spare_column h.before.columns (positions h.before) =
      omega (arith, h.stood.rows_are, h.stood.columns_are) in
      let ql : q < positions h.before = omega (arith, h.stood.rows_are, q_low) in
      free_as (h.columns_are ∙ sym h.stood.columns_are) h.basis
      (free_opened h.before q (P.n + P.m) (spare_column P.n P.m) e ql (auxiliary_free h.stood)
      (λ x. absurd (omega (arith, e))))

  pub open_free : IsFree t.columns t.basis (t.columns + positions t)
  open_free = subst (λ x. IsFree t.columns t.basis x) (sym size_is) free

  -- the basis of the path
  path_auxiliary : HasAuxiliary P (path_basis P (columns_of h.before.basis) q)
  path_auxiliary = (q, q_low, sym (put_same (columns_of h.before.basis) q (P.n + P.m)))

  needs : NeedsAuxiliary P
  needs = beside_needs P (path_basis P (columns_of h.before.basis) q) h.stood.reached path_auxiliary

  stands_there : StandsBeside P (path_basis P (columns_of h.before.basis) q) q (columns_of h.before.basis q)
      (rows_of h.before)
  stands_there = holds_stands P (columns_of h.before.basis) q (rows_of h.before) h.stood.holds

  module _ {t2 : Table} (prep : IsPrepared t.columns (positions t) t t2) {x : ℕ} (is : x ≡ t.columns + positions t)
    where
      p : IsPrepared P.n P.m t t2
      p = subst (λ n. IsPrepared n P.m t t2) h.columns_are (subst (λ m. IsPrepared t.columns m t t2) open_size prep)

      x_is : x ≡ P.n + P.m
      x_is = is ∙ size_is

      m2 : positions t2 ≡ P.m
      m2 = ap length p.basis ∙ open_size

      n2 : t2.columns ≡ P.n
      n2 = p.columns ∙ h.columns_are

      w2 : width_of t2 ≡ suc (suc (suc (suc (P.n + P.m))))
      w2 = omega (arith, m2, n2)

      pub ready_free : IsFree t2.columns t2.basis x
      ready_free =
          subst (λ v. IsFree t2.columns t2.basis v) (sym x_is) (free_as p.columns p.basis free)

      pub ready_open : IsOpen t2 q
      ready_open =
          let e : spare_column t2.columns (positions t2) ≡ spare_column t.columns (positions t) =
          omega (arith, m2, n2, size_is) in
          record {
            spare = ap (λ (b : List ℕ). columns_of b q) p.basis ∙ h.opened.spare ∙ sym e;
            zero = ap (rows_of t2 q) e ∙ p.rows q (spare_column t.columns (positions t)) q_low ∙ h.opened.zero;
          }

      pub ready_positive : pos 0 <ℤ rows_of t2 q x
      ready_positive =
          subst (λ v. pos 0 <ℤ rows_of t2 q v) (sym x_is)
          (subst (λ z. pos 0 <ℤ z) (sym (p.rows q (P.n + P.m) q_low)) (open_positive h))

      -- the spare column stands at no other position
      pub ready_apart : (i : ℕ) → i < P.m → i ≢ q → columns_of t2.basis i ≢ spare_column P.n P.m
      ready_apart i il d y =
          let e : spare_column P.n P.m ≡ spare_column h.before.columns (positions h.before) =
          omega (arith, h.stood.rows_are, h.stood.columns_are) in
          h.stood.closed.free i (omega (arith, h.stood.rows_are))
          (sym (get_or-set_other h.before.basis q i (spare_column P.n P.m) 0 d)
          ∙ sym (ap (λ (b : List ℕ). columns_of b i) (p.basis ∙ h.basis)) ∙ y ∙ e)

      -- the objective's row is the auxiliary one
      cost_is : (k : ℕ) → k < suc (suc (suc (P.n + P.m))) → rows_of t2 P.m k ≡ auxiliary_row P P.m k
      cost_is k l = elim (cases_eq k (P.n + P.m)) [
        | inl e ↦ ap (rows_of t2 P.m) e ∙ p.auxiliary ∙ sym (ap (auxiliary_row P P.m) e ∙ auxiliary_cost_entry P)
        | inr d ↦ elim (cases_eq k (suc (P.n + P.m))) [
          | inl e ↦ ap (rows_of t2 P.m) e ∙ p.own ∙ sym (ap (auxiliary_row P P.m) e ∙ auxiliary_cost_objective P)
          | inr f ↦ p.zero_else k (omega arith) d f ∙ sym (auxiliary_cost_zero P k d f)
        ]
      ]

      zero2 : (i : ℕ) → i ≤ P.m → rows_of t2 i (spare_column P.n P.m) ≡ pos 0
      zero2 i il = elim (cases_lt i P.m) [
        | inl l ↦ p.rows i (spare_column P.n P.m) l ∙ h.zero i il
        | inr l ↦
            let e : i ≡ P.m = omega arith in
            ap (λ v. rows_of t2 v (spare_column P.n P.m)) e
            ∙ p.zero_else (spare_column P.n P.m) (omega arith) (λ y. absurd (omega arith)) (λ y. absurd (omega arith))
      ]

      kept2 : kept_row_of t2 (spare_column P.n P.m) ≡ pos 0
      kept2 = p.kept (spare_column P.n P.m) ∙ h.zero P.m (omega arith)

      -- ---- the auxiliary column has come in
      module _ (t4 : Table) (b4 : t4.basis ≡ set t2.basis q x) (n4 : t4.columns ≡ t2.columns) where
        m4 : positions t4 ≡ P.m
        m4 = ap length b4 ∙ length-set t2.basis q x ∙ m2

        basis_is : (i : ℕ) → path_basis P (columns_of h.before.basis) q i ≡ columns_of t4.basis i
        basis_is i =
            let e : t4.basis ≡ set h.before.basis q (P.n + P.m) =
            b4 ∙ ap (λ v. set t2.basis q v) x_is ∙ ap (λ (b : List ℕ). set b q (P.n + P.m)) (p.basis ∙ h.basis)
            ∙ set_twice h.before.basis q (spare_column P.n P.m) (P.n + P.m) in
            sym (ap (λ (b : List ℕ). columns_of b i) e
            ∙ set_is h.before.basis q (P.n + P.m) i (omega (arith, h.stood.rows_are, q_low)))

        pub path_reached : Reached P (columns_of t4.basis)
        path_reached = (
          h.stood.reached.0,
          turned_same P h.stood.reached.0 (path_basis P (columns_of h.before.basis) q)
              (columns_of t4.basis) (λ i l. basis_is i) h.stood.reached.1,
        )

        path_in : HasAuxiliary P (columns_of t4.basis)
        path_in = (q, q_low, sym (put_same (columns_of h.before.basis) q (P.n + P.m)) ∙ basis_is q)

        -- a cleared row, told by the rows before
        told : (low low' new : Vector) → ((k : ℕ) → k < suc (suc (suc (P.n + P.m))) → low k ≡ low' k)
            → IsClearedBy (width_of t2) x low (rows_of t2 q) new
            → IsClearedBy (suc (suc (suc (P.n + P.m)))) (P.n + P.m) low' (rows_of t q) new
        told low low' new el c =
            cleared_same (width_of t2) (suc (suc (suc (P.n + P.m)))) (P.n + P.m) low low' (rows_of t2 q) (rows_of t q)
            new new (omega (arith, w2)) (omega arith) el (λ k l. p.rows q k q_low) (λ k l. refl)
            (subst (λ v. IsClearedBy (width_of t2) v low (rows_of t2 q) new) x_is c)

        -- ---- all rows are cleared
        module _ (pv : IsPivoted t2 t4 q x)
            (kc : IsClearedBy (width_of t2) x (kept_row_of t2) (rows_of t2 q) (kept_row_of t4)) (cz : IsClosed t4) where
          cleared : (i : ℕ) → i ≤ P.m → i ≢ q → IsClearedBy (width_of t2) x (rows_of t2 i) (rows_of t2 q) (rows_of t4 i)
          cleared i il d = pv.row_other i (omega (arith, m2)) d

          back_pivot : IsBackPivot P q (rows_of t) (rows_of t4) (kept_row_of t4)
          back_pivot = record {
            row_at = record {
              p = pv.row_at.p;
              q = pv.row_at.q;
              p_positive = pv.row_at.p_positive;
              q_positive = pv.row_at.q_positive;
              same = λ k l. pv.row_at.same k (omega (arith, w2)) ∙ ap (λ z. pv.row_at.q *ℤ z) (p.rows q k q_low);
            };
            row_other =
                λ i il d. told (rows_of t2 i) (rows_of t i) (rows_of t4 i) (λ k l. p.rows i k il)
                (cleared i (omega arith) d);
            cost =
                told (rows_of t2 P.m) (auxiliary_row P P.m) (rows_of t4 P.m) cost_is
                (cleared P.m (omega arith) (λ e. absurd (omega (arith, q_low))));
            kept_row = told (kept_row_of t2) (rows_of t P.m) (kept_row_of t4) (λ k l. p.kept k) kc;
          }

          stands4 : StandsMultiple (auxiliary_of P) (path_basis P (columns_of h.before.basis) q) (rows_of t4)
              × IsMultipleRow (kept_of P) (own_of (kept_of P) (path_basis P (columns_of h.before.basis) q)) P.m
              (kept_row_of t4)
          stands4 =
              begun_stands P (path_basis P (columns_of h.before.basis) q) q (columns_of h.before.basis q) h.column
              (rows_of h.before) (rows_of t) stands_there h.begun (rows_of t4) (kept_row_of t4) h.stood.reached
              back_pivot

          kept_zero4 : kept_row_of t4 (spare_column P.n P.m) ≡ pos 0
          kept_zero4 =
              zero_stays kc.divisor kc.p kc.q (kept_row_of t4 (spare_column P.n P.m))
              (kept_row_of t2 (spare_column P.n P.m)) (rows_of t2 q (spare_column P.n P.m)) kc.divides
              (kc.entries (spare_column P.n P.m) (omega (arith, w2))) kept2 (zero2 q (omega (arith, q_low)))

          explicit_begins : InExplicit P t4
          explicit_begins = record {
            holds = record {
              rows_are = m4;
              columns_are = n4 ∙ n2;
              reached = path_reached;
              stands =
                  stands_multiple_same (auxiliary_of P) (path_basis P (columns_of h.before.basis) q)
                  (columns_of t4.basis) (rows_of t4) (λ i l. basis_is i) stands4.0;
              kept =
                  row_of_same (kept_of P) (path_basis P (columns_of h.before.basis) q) (columns_of t4.basis) P.m
                  (kept_row_of t4) (λ i l. basis_is i) stands4.1;
              closed = cz;
              kept_zero = kept_zero4;
            };
            auxiliary = path_in;
          }

        -- ---- a row would be wide
        module _ (limit i : ℕ) (inside : i < positions t + 2) (other : i ≢ q)
            (w : i ≤ positions t2 → IsWideCleared limit (width_of t2) x (rows_of t2 i) (rows_of t2 q))
            (wk : i ≡ suc (positions t2) → IsWideCleared limit (width_of t2) x (kept_row_of t2) (rows_of t2 q)) where
          short : (low low' : Vector) → ((k : ℕ) → k < suc (suc (suc (P.n + P.m))) → low k ≡ low' k)
              → low (spare_column P.n P.m) ≡ pos 0
              → IsWideCleared limit (width_of t2) x low (rows_of t2 q)
              → (new : Vector) × IsClearedBy (suc (suc (suc (P.n + P.m)))) (P.n + P.m) low' (rows_of t q) new
              × IsPrimitive (suc (suc (suc (P.n + P.m)))) new
              × ((k : ℕ) × (k ≤ suc (suc (P.n + P.m))) × (limit < unsigned_abs (new k)))
          short low low' el z w =
              let zq : rows_of t2 q (spare_column P.n P.m) ≡ pos 0 = zero2 q (omega (arith, q_low)) in (
                w.0,
                cleared_same (suc (suc (suc (P.n + P.m)))) (suc (suc (suc (P.n + P.m)))) (P.n + P.m) low low'
                    (rows_of t2 q) (rows_of t q) w.0 w.0 (omega arith) (omega arith) el (λ k l. p.rows q k q_low)
                    (λ k l. refl)
                    (subst (λ v. IsClearedBy (suc (suc (suc (P.n + P.m)))) v low (rows_of t2 q) w.0) x_is
                    (wide_cleared limit P.n P.m (width_of t2) x low (rows_of t2 q) w2 w z zq)),
                wide_primitive limit P.n P.m (width_of t2) x low (rows_of t2 q) w2 w z zq,
                wide_entry limit P.n P.m (width_of t2) x low (rows_of t2 q) w2 w z zq,
              )

          row_wide : (j : ℕ) (new : Vector) → j ≤ P.m → j ≢ q
              → IsClearedBy (suc (suc (suc (P.n + P.m)))) (P.n + P.m) (rows_of t j) (rows_of t q) new
              → IsPrimitive (suc (suc (suc (P.n + P.m)))) new
              → ((k : ℕ) × (k ≤ suc (suc (P.n + P.m))) × (limit < unsigned_abs (new k)))
              → HasWideRow limit P (columns_of t4.basis) j
          row_wide j new jl d c prim entry = record {
            reached = path_reached;
            wide = inr (inr (
              needs,
              inr (wide_same limit (kept_of P) (path_basis P (columns_of h.before.basis) q) (columns_of t4.basis) j
                  (λ k l. basis_is k)
                  (begun_wide P (path_basis P (columns_of h.before.basis) q) q (columns_of h.before.basis q) h.column
                  (rows_of h.before) (rows_of t) stands_there h.begun limit j new jl d c prim entry)),
            ));
          }

          low_wide : i < P.m → HasWideRow limit P (columns_of t4.basis) i
          low_wide l =
              let s =
              short (rows_of t2 i) (rows_of t i) (λ k kl. p.rows i k l) (zero2 i (omega arith))
              (w (omega (arith, m2))) in
              row_wide i s.0 (omega arith) other s.1 s.2 s.3

          cost_wide : i ≡ P.m → HasWideRow limit P (columns_of t4.basis) P.m
          cost_wide e =
              let s = short (rows_of t2 P.m) (auxiliary_row P P.m) cost_is (zero2 P.m (omega arith))
              (subst (λ v. IsWideCleared limit (width_of t2) x (rows_of t2 v) (rows_of t2 q)) e
              (w (omega (arith, m2, e)))) in
              record {
                reached = path_reached;
                wide = inr (inr (
                  needs,
                  inl (wide_same limit (auxiliary_of P) (path_basis P (columns_of h.before.basis) q)
                      (columns_of t4.basis) P.m (λ k l. basis_is k)
                      (begun_cost_wide P (path_basis P (columns_of h.before.basis) q) q (columns_of h.before.basis q)
                      h.column (rows_of h.before) (rows_of t) stands_there h.begun limit s.0 s.1 s.2 s.3)),
                ));
              }

          kept_wide : i ≡ suc P.m → HasWideRow limit P (columns_of t4.basis) P.m
          kept_wide e =
              let s = short (kept_row_of t2) (rows_of t P.m) (λ k kl. p.kept k) kept2 (wk (omega (arith, m2, e))) in
              row_wide P.m s.0 (omega arith) (λ y. absurd (omega (arith, q_low))) s.1 s.2 s.3

          refused_row : HasWideRow limit P (columns_of t4.basis) (min i (positions t))
          refused_row = elim (cases_lt i P.m) [
            | inl l ↦
                subst (λ v. HasWideRow limit P (columns_of t4.basis) v)
                (let y : i ≡ min i (positions t) = omega (arith, open_size) in y) (low_wide l)
            | inr l ↦
                let y : P.m ≡ min i (positions t) = omega (arith, open_size) in
                subst (λ v. HasWideRow limit P (columns_of t4.basis) v) y
                (elim (cases_eq i P.m) [
                  | inl e ↦ cost_wide e
                  | inr d ↦ kept_wide (omega (arith, inside, open_size))
                ])
          ]

          pub begins_refused : StopsFirst limit P (columns_of t4.basis) (min i (positions t))
          begins_refused = record { row = refused_row; phase = inl path_in }

      -- ---- what clearing has made of the rows, and the column's coming to the position
      module _ (t3 t4 : Table) (b3 : t3.basis ≡ t2.basis) (n3 : t3.columns ≡ t2.columns)
          (b4 : t4.basis ≡ set t3.basis q x) (n4 : t4.columns ≡ t3.columns) where
        m3 : positions t3 ≡ P.m
        m3 = ap length b3 ∙ m2

        pub back_basis : t4.basis ≡ set t2.basis q x
        back_basis = b4 ∙ ap (λ (b : List ℕ). set b q x) b3

        pub back_columns : t4.columns ≡ t2.columns
        back_columns = n4 ∙ n3

        module _ (r4 : IsAlone t3 q x → (i c : ℕ) → i ≤ positions t3 → c < t3.columns + positions t3 + 4
            → rows_of t4 i c ≡ rows_of t3 i c)
            (k4 : kept_row_of t3 x ≡ pos 0 → (c : ℕ) → kept_row_of t4 c ≡ kept_row_of t3 c) (count : ℕ)
            (count_is : count ≡ positions t + 2) (cl : ClearsTable count t2 t3 q x) where
          cleared3 : (i : ℕ) → i ≤ P.m → i ≢ q
              → IsClearedBy (width_of t2) x (rows_of t2 i) (rows_of t2 q) (rows_of t3 i)
          cleared3 i il d = cl.cleared i (omega (arith, open_size, count_is)) (omega (arith, m2)) d

          kept_cleared3 : IsClearedBy (width_of t2) x (kept_row_of t2) (rows_of t2 q) (kept_row_of t3)
          kept_cleared3 = cl.kept (omega (arith, open_size, count_is, m2))

          alone3 : IsAlone t3 q x
          alone3 i il d = (cleared3 i (omega (arith, m3)) d).cleared

          same4 : (i c : ℕ) → i ≤ P.m → c < width_of t2 → rows_of t4 i c ≡ rows_of t3 i c
          same4 i c il l = r4 alone3 i c (omega (arith, m3)) (omega (arith, m3, m2, n3))

          read4 : (low new new' : Vector) → ((k : ℕ) → k < width_of t2 → new' k ≡ new k)
              → IsClearedBy (width_of t2) x low (rows_of t2 q) new → IsClearedBy (width_of t2) x low (rows_of t2 q) new'
          read4 low new new' en c =
              cleared_same (width_of t2) (width_of t2) x low low (rows_of t2 q) (rows_of t2 q) new new' (omega arith)
              (omega (arith, x_is, w2)) (λ k l. refl) (λ k l. refl) en c

          back_pivoted : IsPivoted t2 t4 q x
          back_pivoted = record {
            row_at = record {
              p = pos 1;
              q = pos 1;
              p_positive = omega (arith, ints);
              q_positive = omega (arith, ints);
              same = λ k l. ap (λ z. pos 1 *ℤ z) (same4 q k (omega (arith, q_low)) l ∙ cl.row_stays k);
            };
            row_other =
                λ i il d. read4 (rows_of t2 i) (rows_of t3 i) (rows_of t4 i) (λ k l. same4 i k (omega (arith, m2)) l)
                (cleared3 i (omega (arith, m2)) d);
          }

          back_kept : IsClearedBy (width_of t2) x (kept_row_of t2) (rows_of t2 q) (kept_row_of t4)
          back_kept =
              read4 (kept_row_of t2) (kept_row_of t3) (kept_row_of t4) (λ k l. k4 kept_cleared3.cleared k) kept_cleared3

          zero4 : (i : ℕ) → i ≤ P.m → rows_of t4 i (spare_column P.n P.m) ≡ pos 0
          zero4 i il = elim (cases_eq i q) [
            | inl e ↦
                ap (λ v. rows_of t4 v (spare_column P.n P.m)) e
                ∙ same4 q (spare_column P.n P.m) (omega (arith, q_low)) (omega (arith, w2))
                ∙ cl.row_stays (spare_column P.n P.m)
                ∙ zero2 q (omega (arith, q_low))
            | inr d ↦
                let c = cleared3 i il d in
                same4 i (spare_column P.n P.m) il (omega (arith, w2))
                ∙ zero_stays c.divisor c.p c.q (rows_of t3 i (spare_column P.n P.m))
                (rows_of t2 i (spare_column P.n P.m)) (rows_of t2 q (spare_column P.n P.m)) c.divides
                (c.entries (spare_column P.n P.m) (omega (arith, w2))) (zero2 i il) (zero2 q (omega (arith, q_low)))
          ]

          size4 : positions t4 ≡ P.m
          size4 = ap length back_basis ∙ length-set t2.basis q x ∙ m2

          back_closed : IsClosed t4
          back_closed =
              let e : spare_column t4.columns (positions t4) ≡ spare_column P.n P.m =
              omega (arith, size4, n4, n3, n2) in
              record {
                free = λ i il y. elim (cases_eq i q) [
                  | inl c ↦
                      let z : columns_of (set t2.basis q x) q ≡ x =
                      get_or-set_same t2.basis q x 0 (omega (arith, m2, q_low)) in
                      let v : x ≡ spare_column P.n P.m =
                      sym z ∙ sym (ap (λ (b : List ℕ). columns_of b q) back_basis) ∙ sym (ap (columns_of t4.basis) c)
                      ∙ y ∙ e in
                      absurd (omega (arith, x_is))
                  | inr d ↦
                      ready_apart i (omega (arith, size4)) d
                      (sym (get_or-set_other t2.basis q i x 0 d) ∙ sym (ap (λ (b : List ℕ). columns_of b i) back_basis)
                      ∙ y ∙ e)
                ];
                zero = λ i il. ap (rows_of t4 i) e ∙ zero4 i (omega (arith, size4));
              }

          pub begins_back : InExplicit P t4
          begins_back = explicit_begins t4 back_basis back_columns back_pivoted back_kept back_closed
