-- A pivot: a row in lowest terms, its position opened by the spare column, the others cleared, the column brought in.
use Rattle.std.proofs.Common.{◌≡◌, ◌≢◌, ℕ, zero, suc, ◌+◌, ◌<◌, ◌≤◌, sym, refl, ap, ◌∙◌, subst, arith, inl, inr, List, [], ◌∷◌, length, set}
use Rattle.std.proofs.lemmas.Bool.{cases_eq, cases_lt}
use Rattle.std.proofs.lemmas.Int.{ints}
use Rattle.std.proofs.lemmas.List.{get_or-set_same, get_or-set_other, length-set}
use lib.IntN.{ℤ, pos, ◌-ℤ◌, ◌*ℤ◌}
use lib.Signed.{◌<ℤ◌}
use Rattle.rob_algebra.specs.Integer.{mul-zero, one-mul}
use Rattle.rob_algebra.specs.IntegerOrder.{mul_cancel_zero, mul_cancel_lt}
use Rattle.rob_linear.specs.Multiples.{IsClearedBy}
use Rattle.rob_entries.specs.Updates.{IsWideCleared}
use Rattle.rob_table.proofs.ClearingTops.{cleared_by_times}
use Rattle.rob_simplex.specs.Dictionaries.{Table, positions, width_of, columns_of, basic_columns, right_column, spare_column, rows_of, kept_row_of, IsFree, IsAlone, IsOpen, IsClosed, IsPivoted, IsBegunPivot, ClearsTable, StopsTable, IsSized}
use Rattle.rob_simplex.specs.Pivots.{CanPivot, RefusesPivot}
use Rattle.rob_simplex.proofs.Places.Views.{free_as}
use Rattle.rob_simplex.proofs.Rows.ReadRows.{basic_low, basic_high}

pub set_twice : (xs : List ℕ) (k x y : ℕ) → set (set xs k x) k y ≡ set xs k y
set_twice [] k x y = refl
set_twice (z ∷ xs) zero x y = refl
set_twice (z ∷ xs) (suc k) x y = ap (λ t. z ∷ t) (set_twice xs k x y)

-- where both rows are 0, so is what comes out
pub zero_stays : (D p q x a b : ℤ) → pos 0 <ℤ D → D *ℤ x ≡ (p *ℤ a) -ℤ (q *ℤ b) → a ≡ pos 0 → b ≡ pos 0 → x ≡ pos 0
zero_stays D p q x a b h e ea eb =
    let pa : p *ℤ a ≡ pos 0 = ap (λ t. p *ℤ t) ea ∙ mul-zero p in
    let qb : q *ℤ b ≡ pos 0 = ap (λ t. q *ℤ t) eb ∙ mul-zero q in
    mul_cancel_zero D x h (omega (arith, ints))

-- the spare column opens a position: another column that is not basic stays so
opened_columns : (t : Table) (row column s : ℕ) → s ≡ spare_column t.columns (positions t) → row < positions t
    → IsFree t.columns t.basis column → column ≢ spare_column t.columns (positions t)
    → (i : ℕ) → i ≤ positions t → basic_columns t.columns (set t.basis row s) i ≢ column
opened_columns t row column s spare rl free structural i il =
    let len : length (set t.basis row s) ≡ length t.basis = length-set t.basis row s in
    elim (cases_lt i (positions t)) [
      | inr l ↦
          let e : basic_columns t.columns (set t.basis row s) i ≡ basic_columns t.columns t.basis i =
          basic_high t.columns (set t.basis row s) i (omega (arith, len)) ∙ ap (λ k. suc (t.columns + k)) len
          ∙ sym (basic_high t.columns t.basis i l) in
          (λ x. free.not_basic i il (sym e ∙ x))
      | inl l ↦
          let e : basic_columns t.columns (set t.basis row s) i ≡ columns_of (set t.basis row s) i =
          basic_low t.columns (set t.basis row s) i (omega (arith, len)) in
          elim (cases_eq i row) [
            | inl q ↦
                (λ x. structural (sym x ∙ e ∙ ap (columns_of (set t.basis row s)) q ∙ get_or-set_same t.basis row s 0 rl
                ∙ spare))
            | inr q ↦
                (λ x. free.not_basic i il
                (basic_low t.columns t.basis i l ∙ sym (get_or-set_other t.basis row i s 0 q) ∙ sym e ∙ x))
          ]
    ]

pub free_opened : (t : Table) (row column s : ℕ) → s ≡ spare_column t.columns (positions t) → row < positions t
    → IsFree t.columns t.basis column → column ≢ spare_column t.columns (positions t)
    → IsFree t.columns (set t.basis row s) column
free_opened t row column s spare rl free structural = record {
  inside = subst (λ k. column < t.columns + k + 4) (sym (length-set t.basis row s)) free.inside;
  not_basic =
      λ i il. opened_columns t row column s spare rl free structural i (omega (arith, length-set t.basis row s));
  not_right = subst (λ k. column ≢ right_column t.columns k) (sym (length-set t.basis row s)) free.not_right;
}

-- the spare column is free where no position is open
pub closed_free : (t : Table) (s : ℕ) → s ≡ spare_column t.columns (positions t) → IsClosed t
    → IsFree t.columns t.basis s
closed_free t s e h = record {
  inside = omega arith;
  not_basic = λ i il x. elim (cases_lt i (positions t)) [
    | inl l ↦ h.free i l (sym (basic_low t.columns t.basis i l) ∙ x ∙ e)
    | inr l ↦
        let b : basic_columns t.columns t.basis i ≡ suc (t.columns + positions t) = basic_high t.columns t.basis i l in
        absurd (omega arith)
  ];
  not_right = λ x. absurd (omega arith);
}

-- a row was reduced, and its position opened by the spare column
pub record IsOpening (t0 t1 t2 : Table) (row s : ℕ) : Type 0 where
  pub spare : s ≡ spare_column t0.columns (positions t0)
  pub row_in : row < positions t0
  pub closed : IsClosed t0
  pub basis1 : t1.basis ≡ t0.basis
  pub columns1 : t1.columns ≡ t0.columns
  pub row1 : (d : ℤ) × (pos 0 <ℤ d) × ((c : ℕ) → d *ℤ rows_of t1 row c ≡ rows_of t0 row c)
  pub others1 : (i c : ℕ) → i ≤ positions t0 → i ≢ row → rows_of t1 i c ≡ rows_of t0 i c
  pub basis2 : t2.basis ≡ set t1.basis row s
  pub columns2 : t2.columns ≡ t1.columns
  pub rows2 :
      IsAlone t1 row s → (i c : ℕ) → i ≤ positions t1 → c < t1.columns + positions t1 + 4
      → rows_of t2 i c ≡ rows_of t1 i c

pub opening : (t0 t1 t2 : Table) {count row column : ℕ} (n m : ℕ) → n ≡ t1.columns → m ≡ positions t1
    → CanPivot count t0 row column
    → t1.basis ≡ t0.basis → IsSized t0 t1
    → ((d : ℤ) × (pos 0 <ℤ d) × ((c : ℕ) → d *ℤ rows_of t1 row c ≡ rows_of t0 row c))
    → ((i c : ℕ) → i ≤ positions t0 → i ≢ row → rows_of t1 i c ≡ rows_of t0 i c)
    → t2.basis ≡ set t1.basis row (n + m + 3) → IsSized t1 t2
    → (IsAlone t1 row (n + m + 3) → (i c : ℕ) → i ≤ positions t1 → c < t1.columns + positions t1 + 4
    → rows_of t2 i c ≡ rows_of t1 i c)
    → IsOpening t0 t1 t2 row (n + m + 3)
opening t0 t1 t2 n m en em a b1 s1 r1 o1 b2 s2 r2 = record {
  spare = omega (arith, en, em, s1.columns, s1.positions);
  row_in = a.row_in;
  closed = a.closed;
  basis1 = b1;
  columns1 = s1.columns;
  row1 = r1;
  others1 = o1;
  basis2 = b2;
  columns2 = s2.columns;
  rows2 = r2;
}

module _ {t0 t1 t2 : Table} {row s : ℕ} (o : IsOpening t0 t1 t2 row s) (column : ℕ) where
  spare : s ≡ spare_column t0.columns (positions t0)
  spare = o.spare

  rl : row < positions t0
  rl = o.row_in

  closed : IsClosed t0
  closed = o.closed

  b1 : t1.basis ≡ t0.basis
  b1 = o.basis1

  n1 : t1.columns ≡ t0.columns
  n1 = o.columns1

  r1 : (d : ℤ) × (pos 0 <ℤ d) × ((c : ℕ) → d *ℤ rows_of t1 row c ≡ rows_of t0 row c)
  r1 = o.row1

  o1 : (i c : ℕ) → i ≤ positions t0 → i ≢ row → rows_of t1 i c ≡ rows_of t0 i c
  o1 = o.others1

  b2 : t2.basis ≡ set t1.basis row s
  b2 = o.basis2

  n2 : t2.columns ≡ t1.columns
  n2 = o.columns2

  m1 : positions t1 ≡ positions t0
  m1 = ap length b1

  m2 : positions t2 ≡ positions t0
  m2 = ap length b2 ∙ length-set t1.basis row s ∙ m1

  w2 : width_of t2 ≡ width_of t0
  w2 = omega (arith, n1, n2, m1, m2)

  alone1 : IsAlone t1 row s
  alone1 i il d = o1 i s (omega (arith, m1)) d ∙ ap (rows_of t0 i) spare ∙ closed.zero i (omega (arith, m1))

  same2 : (i c : ℕ) → i ≤ positions t0 → c < width_of t0 → rows_of t2 i c ≡ rows_of t1 i c
  same2 i c il cl = o.rows2 alone1 i c (omega (arith, m1)) (omega (arith, m1, n1))

  pub same_rows : (i c : ℕ) → i ≤ positions t1 → c < width_of t1 → rows_of t2 i c ≡ rows_of t1 i c
  same_rows i c il cl = o.rows2 alone1 i c il cl

  other2 : (i c : ℕ) → i ≤ positions t0 → i ≢ row → c < width_of t0 → rows_of t2 i c ≡ rows_of t0 i c
  other2 i c il d cl = same2 i c il cl ∙ o1 i c il d

  row2 : (c : ℕ) → c < width_of t0 → r1.0 *ℤ rows_of t2 row c ≡ rows_of t0 row c
  row2 c cl = ap (λ t. r1.0 *ℤ t) (same2 row c (omega (arith, rl)) cl) ∙ r1.2 c

  s_in : s < width_of t0
  s_in = omega (arith, spare)

  zero2 : (i : ℕ) → i ≤ positions t0 → rows_of t2 i s ≡ pos 0
  zero2 i il = elim (cases_eq i row) [
    | inr d ↦ other2 i s il d s_in ∙ ap (rows_of t0 i) spare ∙ closed.zero i il
    | inl e ↦
        subst (λ (x : ℕ). rows_of t2 x s ≡ pos 0) (sym e)
        (mul_cancel_zero r1.0 (rows_of t2 row s) r1.1
        (row2 s s_in ∙ ap (rows_of t0 row) spare ∙ closed.zero row (omega (arith, rl))))
  ]

  spare2 : spare_column t2.columns (positions t2) ≡ s
  spare2 = omega (arith, spare, n1, n2, m1, m2)

  pub opened : IsOpen t2 row
  opened = record {
    spare =
        ap (λ (b : List ℕ). columns_of b row) b2 ∙ get_or-set_same t1.basis row s 0 (omega (arith, m1)) ∙ sym spare2;
    zero = ap (rows_of t2 row) spare2 ∙ zero2 row (omega (arith, rl));
  }

  pub positive2 : column < width_of t0 → pos 0 <ℤ rows_of t0 row column → pos 0 <ℤ rows_of t2 row column
  positive2 cl h =
      mul_cancel_lt r1.0 (pos 0) (rows_of t2 row column) r1.1
      (subst (λ x. x <ℤ (r1.0 *ℤ rows_of t2 row column)) (sym (mul-zero r1.0))
      (subst (λ x. pos 0 <ℤ x) (sym (row2 column cl)) h))

  -- ---- the kept row, where it is 0 in the spare column
  module _ (column_in : column < width_of t0) (k1 : (c : ℕ) → kept_row_of t1 c ≡ kept_row_of t0 c)
      (k2 : kept_row_of t1 s ≡ pos 0 → (c : ℕ) → kept_row_of t2 c ≡ kept_row_of t1 c)
      (z : kept_row_of t0 (spare_column t0.columns (positions t0)) ≡ pos 0) where
    kept2 : (c : ℕ) → kept_row_of t2 c ≡ kept_row_of t0 c
    kept2 c = k2 (k1 s ∙ ap (kept_row_of t0) spare ∙ z) c ∙ k1 c

    pub kept_cleared : (new new' : ℕ → ℤ) → ((k : ℕ) → new' k ≡ new k)
        → IsClearedBy (width_of t2) column (kept_row_of t2) (rows_of t2 row) new
        → IsClearedBy (width_of t0) column (kept_row_of t0) (rows_of t0 row) new'
    kept_cleared new new' same h =
        cleared_by_times (width_of t0) column (kept_row_of t2) (kept_row_of t0) (rows_of t2 row) (rows_of t0 row) new
        new' r1.0 r1.1
        (λ k l. kept2 k) row2 (λ k l. same k) column_in
        (subst (λ k. IsClearedBy k column (kept_row_of t2) (rows_of t2 row) new) w2 h)

    kept_wide : (limit : ℕ) → IsWideCleared limit (width_of t2) column (kept_row_of t2) (rows_of t2 row)
        → IsWideCleared limit (width_of t0) column (kept_row_of t0) (rows_of t0 row)
    kept_wide limit h =
        let w = subst (λ k. IsWideCleared limit k column (kept_row_of t2) (rows_of t2 row)) w2 h in (
          w.0,
          cleared_by_times (width_of t0) column (kept_row_of t2) (kept_row_of t0) (rows_of t2 row) (rows_of t0 row) w.0
              w.0 r1.0 r1.1
              (λ k l. kept2 k) row2 (λ k l. refl) column_in w.1,
          w.2,
          w.3,
        )

  module _ (t3 : Table) (free : IsFree t0.columns t0.basis column)
      (structural : column ≢ spare_column t0.columns (positions t0))
      (b3 : t3.basis ≡ t2.basis) (n3 : t3.columns ≡ t2.columns) where
    basis3 : t3.basis ≡ set t0.basis row s
    basis3 = b3 ∙ b2 ∙ ap (λ (b : List ℕ). set b row s) b1

    columns3 : t3.columns ≡ t0.columns
    columns3 = n3 ∙ n2 ∙ n1

    m3 : positions t3 ≡ positions t0
    m3 = ap length b3 ∙ m2

    column_in : column < width_of t0
    column_in = free.inside

    pub free_after : IsFree t3.columns t3.basis column
    free_after =
        subst (λ (n : ℕ). IsFree n t3.basis column) (sym columns3)
        (subst (λ (b : List ℕ). IsFree t0.columns b column) (sym basis3)
        (free_opened t0 row column s spare rl free structural))

    -- ---- a pivot that was begun
    module _ (limit count i : ℕ) (h : StopsTable limit count t2 t3 row column i) where
      spare3 : spare_column t3.columns (positions t3) ≡ s
      spare3 = omega (arith, spare, columns3, m3)

      cleared_begun : (j : ℕ) → j < i → j ≤ positions t0 → j ≢ row
          → IsClearedBy (width_of t0) column (rows_of t2 j) (rows_of t2 row) (rows_of t3 j)
      cleared_begun j l jl d =
          subst (λ k. IsClearedBy k column (rows_of t2 j) (rows_of t2 row) (rows_of t3 j)) w2
          (h.before.cleared j l (omega (arith, m2)) d)

      zero3 : (j : ℕ) → j ≤ positions t0 → rows_of t3 j s ≡ pos 0
      zero3 j jl = elim (cases_eq j row) [
        | inl e ↦
            subst (λ (x : ℕ). rows_of t3 x s ≡ pos 0) (sym e) (h.before.row_stays s ∙ zero2 row (omega (arith, rl)))
        | inr d ↦ elim (cases_lt j i) [
          | inl l ↦
              let c = cleared_begun j l jl d in
              zero_stays c.divisor c.p c.q (rows_of t3 j s) (rows_of t2 j s) (rows_of t2 row s) c.divides
              (c.entries s s_in) (zero2 j jl) (zero2 row (omega (arith, rl)))
          | inr l ↦ h.before.others j s l (omega (arith, m2)) ∙ zero2 j jl
        ]
      ]

      pub begun : IsBegunPivot t0 t3 row column
      begun = record {
        opened = record {
          spare = ap (λ (b : List ℕ). columns_of b row) basis3 ∙ get_or-set_same t0.basis row s 0 rl ∙ sym spare3;
          zero = ap (rows_of t3 row) spare3 ∙ zero3 row (omega (arith, rl));
        };
        basis = basis3 ∙ ap (λ k. set t0.basis row k) spare;
        zero = λ j jl. ap (rows_of t3 j) (sym spare) ∙ zero3 j jl;
        row_at = record {
          p = r1.0;
          q = pos 1;
          p_positive = r1.1;
          q_positive = omega (arith, ints);
          same = λ k l. ap (λ t. r1.0 *ℤ t) (h.before.row_stays k) ∙ row2 k l ∙ sym (one-mul (rows_of t0 row k));
        };
        row_other = λ j jl d. elim (cases_lt j i) [
          | inl l ↦
              inr (cleared_by_times (width_of t0) column (rows_of t2 j) (rows_of t0 j) (rows_of t2 row) (rows_of t0 row)
              (rows_of t3 j) (rows_of t3 j) r1.0 r1.1 (λ k kl. other2 j k jl d kl) row2 (λ k kl. refl) column_in
              (cleared_begun j l jl d))
          | inr l ↦ inl (λ c cl. h.before.others j c l (omega (arith, m2)) ∙ other2 j c jl d cl)
        ];
      }

      wide_begun : i ≤ positions t0 → IsWideCleared limit (width_of t0) column (rows_of t0 i) (rows_of t0 row)
      wide_begun il =
          let w =
          subst (λ k. IsWideCleared limit k column (rows_of t2 i) (rows_of t2 row)) w2 (h.wide (omega (arith, m2))) in (
            w.0,
            cleared_by_times (width_of t0) column (rows_of t2 i) (rows_of t0 i) (rows_of t2 row) (rows_of t0 row) w.0
                w.0 r1.0 r1.1 (λ k l. other2 i k il h.other l) row2 (λ k l. refl) column_in w.1,
            w.2,
            w.3,
          )

      -- so the pivot is refused, where the kept row stays too
      pub refused : ((c : ℕ) → kept_row_of t1 c ≡ kept_row_of t0 c)
          → (kept_row_of t1 s ≡ pos 0 → (c : ℕ) → kept_row_of t2 c ≡ kept_row_of t1 c)
          → RefusesPivot limit count t0 row column i
      refused k1 k2 = record {
        inside = h.inside;
        other = h.other;
        wide = wide_begun;
        wide_kept = λ z e. kept_wide column_in k1 k2 z limit (h.wide_kept (e ∙ ap suc (sym m2)));
      }

    module _ (t4 : Table) (b4 : t4.basis ≡ set t3.basis row column) (n4 : t4.columns ≡ t3.columns)
        (r4 : IsAlone t3 row column → (i c : ℕ) → i ≤ positions t3 → c < t3.columns + positions t3 + 4
        → rows_of t4 i c ≡ rows_of t3 i c) where
      pub next_basis : t4.basis ≡ set t0.basis row column
      next_basis = b4 ∙ ap (λ (b : List ℕ). set b row column) basis3 ∙ set_twice t0.basis row s column

      module _ (count : ℕ) (all : positions t0 < count) (h : ClearsTable count t2 t3 row column) where
        cleared3 : (i : ℕ) → i ≤ positions t0 → i ≢ row
            → IsClearedBy (width_of t0) column (rows_of t2 i) (rows_of t2 row) (rows_of t3 i)
        cleared3 i il d =
            subst (λ k. IsClearedBy k column (rows_of t2 i) (rows_of t2 row) (rows_of t3 i)) w2
            (h.cleared i (omega (arith, rl)) (omega (arith, m2)) d)

        alone3 : IsAlone t3 row column
        alone3 i il d = (cleared3 i (omega (arith, m3)) d).cleared

        same4 : (i c : ℕ) → i ≤ positions t0 → c < width_of t0 → rows_of t4 i c ≡ rows_of t3 i c
        same4 i c il cl = r4 alone3 i c (omega (arith, m3)) (omega (arith, m3, columns3))

        pub pivoted : IsPivoted t0 t4 row column
        pivoted = record {
          row_at = record {
            p = r1.0;
            q = pos 1;
            p_positive = r1.1;
            q_positive = omega (arith, ints);
            same =
                λ k l. ap (λ t. r1.0 *ℤ t) (same4 row k (omega (arith, rl)) l ∙ h.row_stays k) ∙ row2 k l
                ∙ sym (one-mul (rows_of t0 row k));
          };
          row_other = λ i il d.
              cleared_by_times (width_of t0) column (rows_of t2 i) (rows_of t0 i) (rows_of t2 row) (rows_of t0 row)
              (rows_of t3 i) (rows_of t4 i) r1.0 r1.1
              (λ k l. other2 i k il d l) row2 (λ k l. same4 i k il l) column_in (cleared3 i il d);
        }

        zero4 : (i : ℕ) → i ≤ positions t0 → rows_of t4 i s ≡ pos 0
        zero4 i il = elim (cases_eq i row) [
          | inl e ↦
              subst (λ (x : ℕ). rows_of t4 x s ≡ pos 0) (sym e)
              (same4 row s (omega (arith, rl)) s_in ∙ h.row_stays s ∙ zero2 row (omega (arith, rl)))
          | inr d ↦
              let c = cleared3 i il d in
              same4 i s il s_in ∙ zero_stays c.divisor c.p c.q (rows_of t3 i s) (rows_of t2 i s) (rows_of t2 row s)
              c.divides (c.entries s s_in) (zero2 i il) (zero2 row (omega (arith, rl)))
        ]

        pub closed4 : IsClosed t4
        closed4 =
            let len : positions t4 ≡ positions t0 = ap length next_basis ∙ length-set t0.basis row column in
            let e : spare_column t4.columns (positions t4) ≡ s = omega (arith, len, n4, columns3, spare) in
            record {
              free = λ i il x.
                  let y : columns_of (set t0.basis row column) i ≡ s =
                  ap (λ (b : List ℕ). columns_of b i) (sym next_basis) ∙ x ∙ e in
                  elim (cases_eq i row) [
                    | inl q ↦
                        structural
                        (sym (ap (columns_of (set t0.basis row column)) q ∙ get_or-set_same t0.basis row column 0 rl)
                        ∙ y ∙ spare)
                    | inr q ↦
                        closed.free i (omega (arith, len))
                        (sym (get_or-set_other t0.basis row i column 0 q) ∙ y ∙ spare)
                  ];
              zero = λ i il. ap (rows_of t4 i) e ∙ zero4 i (omega (arith, len));
            }

-- the column may come to the position that was left open
pub free_begun : (t t' : Table) (row column : ℕ) → row < positions t → IsFree t.columns t.basis column
    → column ≢ spare_column t.columns (positions t) → IsBegunPivot t t' row column → t'.columns ≡ t.columns
    → IsFree t'.columns t'.basis column
free_begun t t' row column rl free structural h en =
    free_as en h.basis (free_opened t row column (spare_column t.columns (positions t)) refl rl free structural)
