-- A pivot that was begun by some rows is ended by rows of a greater limit: cleared again, a row that was cleared is a
-- positive multiple of itself.
use Rattle.std.proofs.Common.{◌≡◌, ◌≢◌, ◌⊎◌, ℕ, suc, ◌+◌, ◌<◌, ◌≤◌, sym, refl, ap, ◌∙◌, subst, arith, inl, inr, List, length, set}
use Rattle.std.proofs.lemmas.Bool.{cases_eq, cases_lt}
use Rattle.std.proofs.lemmas.Int.{ints}
use Rattle.std.proofs.lemmas.List.{get_or-set_same, get_or-set_other, length-set}
use lib.IntN.{ℤ, pos, ◌+ℤ◌, ◌-ℤ◌, ◌*ℤ◌}
use lib.Signed.{◌<ℤ◌}
use Rattle.rob_algebra.specs.Integer.{mul_assoc, mul-zero, ring}
use Rattle.rob_algebra.specs.IntegerOrder.{mul-pos_z, mul_cancel_zero}
use Rattle.rob_linear.specs.Systems.{IsPrimitive}
use Rattle.rob_linear.specs.Multiples.{IsClearedBy, IsParallel}
use Rattle.rob_linear.proofs.RowForms.Multiples.{parallel_sym, parallel_positive}
use Rattle.rob_entries.specs.Updates.{IsWideCleared}
use Rattle.rob_table.proofs.ClearingTops.{times_ring}
use Rattle.rob_simplex.specs.Dictionaries.{Table, positions, width_of, columns_of, basic_columns, spare_column, rows_of, IsFree, IsAlone, IsOpen, IsClosed, IsPivoted, IsExchanged, KeepsOwn, ClearsTable, StopsTable}
use Rattle.rob_simplex.specs.Pivots.{CanClear}
use Rattle.rob_simplex.specs.Begun.{IsBroken}
use Rattle.rob_simplex.proofs.Places.OwnEntries.{basic_set}
use Rattle.rob_simplex.proofs.Pivoting.PivotLemmas.{set_twice, zero_stays, free_opened}
use Rattle.rob_simplex.proofs.Places.Views.{free_as}
use Rattle.rob_simplex.proofs.Rows.ReadRows.{basic_low, basic_high}

-- ---- a row that is cleared again
-- by a multiple of the row that cleared it
cleared_along : (n column : ℕ) (low top top' new : ℕ → ℤ) → IsParallel n top' top → IsClearedBy n column low top' new
    → IsClearedBy n column low top new
cleared_along n column low top top' new par c = record {
  divisor = c.divisor *ℤ par.p;
  p = c.p *ℤ par.p;
  q = c.q *ℤ par.q;
  divides = mul-pos_z c.divisor par.p c.divides par.p_positive;
  positive = mul-pos_z c.p par.p c.positive par.p_positive;
  entries = λ k l.
      times_ring c.divisor par.p c.p c.q (new k) (low k) (top' k) (par.q *ℤ top k) (c.entries k l) (par.same k l)
      ∙ ap (λ t. ((c.p *ℤ par.p) *ℤ low k) -ℤ t) (sym (mul_assoc c.q par.q (top k)));
  cleared = c.cleared;
}

twice_ring : (D E p q r s x y a b : ℤ) → D *ℤ y ≡ (p *ℤ a) -ℤ (q *ℤ b) → E *ℤ x ≡ (r *ℤ y) -ℤ (s *ℤ b)
    → (E *ℤ D) *ℤ x ≡ ((r *ℤ p) *ℤ a) -ℤ (((r *ℤ q) +ℤ (D *ℤ s)) *ℤ b)
twice_ring D E p q r s x y a b first second =
    let u : (E *ℤ D) *ℤ x ≡ D *ℤ (E *ℤ x) = simp ring in
    let v : D *ℤ ((r *ℤ y) -ℤ (s *ℤ b)) ≡ (r *ℤ (D *ℤ y)) -ℤ ((D *ℤ s) *ℤ b) = simp ring in
    let w : (r *ℤ ((p *ℤ a) -ℤ (q *ℤ b))) -ℤ ((D *ℤ s) *ℤ b) ≡ ((r *ℤ p) *ℤ a) -ℤ (((r *ℤ q) +ℤ (D *ℤ s)) *ℤ b) =
    simp ring in
    u ∙ ap (λ t. D *ℤ t) second ∙ v ∙ ap (λ t. (r *ℤ t) -ℤ ((D *ℤ s) *ℤ b)) first ∙ w

-- what comes out is the first row cleared
pub cleared_again : (n column : ℕ) (low middle top top' new : ℕ → ℤ) → IsParallel n top' top
    → ((k : ℕ) → k < n → middle k ≡ low k) ⊎ IsClearedBy n column low top middle → IsClearedBy n column middle top' new
    → IsClearedBy n column low top new
cleared_again n column low middle top top' new par (inl same) c =
    let d = cleared_along n column middle top top' new par c in
    record {
      divisor = d.divisor;
      p = d.p;
      q = d.q;
      divides = d.divides;
      positive = d.positive;
      entries = λ k l. d.entries k l ∙ ap (λ t. (d.p *ℤ t) -ℤ (d.q *ℤ top k)) (same k l);
      cleared = d.cleared;
    }
cleared_again n column low middle top top' new par (inr b) c =
    let d = cleared_along n column middle top top' new par c in
    record {
      divisor = d.divisor *ℤ b.divisor;
      p = d.p *ℤ b.p;
      q = (d.p *ℤ b.q) +ℤ (b.divisor *ℤ d.q);
      divides = mul-pos_z d.divisor b.divisor d.divides b.divides;
      positive = mul-pos_z d.p b.p d.positive b.positive;
      entries =
          λ k l. twice_ring b.divisor d.divisor b.p b.q d.p d.q (new k) (middle k) (low k) (top k) (b.entries k l)
          (d.entries k l);
      cleared = d.cleared;
    }

-- a row keeps an entry where the row that clears it has none
keeps_entry : (n column k : ℕ) (low top new : ℕ → ℤ) → k < n → low k ≢ pos 0 → top k ≡ pos 0
    → ((j : ℕ) → j < n → new j ≡ low j) ⊎ IsClearedBy n column low top new → new k ≢ pos 0
keeps_entry n column k low top new l some none (inl same) z = some (sym (same k l) ∙ z)
keeps_entry n column k low top new l some none (inr c) z =
    let q : c.q *ℤ top k ≡ pos 0 = ap (λ t. c.q *ℤ t) none ∙ mul-zero c.q in
    let d : c.divisor *ℤ new k ≡ pos 0 = ap (λ t. c.divisor *ℤ t) z ∙ mul-zero c.divisor in
    let e : c.divisor *ℤ new k ≡ (c.p *ℤ low k) -ℤ (c.q *ℤ top k) = c.entries k l in
    some (mul_cancel_zero c.p (low k) c.positive (omega (arith, ints)))

-- the same rows
cleared_read : (n n' column column' : ℕ) (low low' top top' new new' : ℕ → ℤ) → n ≡ n' → column ≡ column' → column' < n'
    → ((k : ℕ) → k < n' → low k ≡ low' k) → ((k : ℕ) → k < n' → top k ≡ top' k) → ((k : ℕ) → k < n' → new' k ≡ new k)
    → IsClearedBy n column low top new → IsClearedBy n' column' low' top' new'
cleared_read n n' column column' low low' top top' new new' en ec cl el et ew c = record {
  divisor = c.divisor;
  p = c.p;
  q = c.q;
  divides = c.divides;
  positive = c.positive;
  entries = λ k l.
      ap (λ t. c.divisor *ℤ t) (ew k l) ∙ c.entries k (subst (λ m. k < m) (sym en) l)
      ∙ ap (λ t. (c.p *ℤ t) -ℤ (c.q *ℤ top k)) (el k l)
      ∙ ap (λ t. (c.p *ℤ low' k) -ℤ (c.q *ℤ t)) (et k l);
  cleared = ew column' cl ∙ ap new (sym ec) ∙ c.cleared;
}

-- ---- a pivot that was begun is ended
-- what holds of the dictionary before
pub record IsPivotable (t : Table) (row column : ℕ) : Type 0 where
  pub row_in : row < positions t
  pub free : IsFree t.columns t.basis column
  pub apart : column ≢ spare_column t.columns (positions t)
  pub others_apart : (i : ℕ) → i < positions t → i ≢ row → columns_of t.basis i ≢ spare_column t.columns (positions t)
  pub positive : pos 0 <ℤ rows_of t row column
  pub inside : (i : ℕ) → i ≤ positions t → i ≢ row → basic_columns t.columns t.basis i < width_of t
  pub own : (i : ℕ) → i ≤ positions t → i ≢ row → rows_of t i (basic_columns t.columns t.basis i) ≢ pos 0
  pub top_zero : (i : ℕ) → i ≤ positions t → i ≢ row → rows_of t row (basic_columns t.columns t.basis i) ≡ pos 0

module _ {b t : Table} {row column : ℕ} (a : IsPivotable b row column) (h : IsBroken b t row column) where
  column_in : column < width_of b
  column_in = a.free.inside

  half_size : positions h.half ≡ positions b
  half_size = ap length h.begun.basis ∙ length-set b.basis row (spare_column b.columns (positions b))

  pub begun_size : positions t ≡ positions b
  begun_size = ap length h.told.basis ∙ length-set h.half.basis row column ∙ half_size

  pub begun_columns : t.columns ≡ b.columns
  begun_columns = h.told.columns ∙ h.columns_are

  begun_basis : t.basis ≡ set b.basis row column
  begun_basis =
      h.told.basis ∙ ap (λ (l : List ℕ). set l row column) h.begun.basis
      ∙ set_twice b.basis row (spare_column b.columns (positions b)) column

  pub column_is : columns_of t.basis row ≡ column
  column_is = ap (λ (l : List ℕ). columns_of l row) begun_basis ∙ get_or-set_same b.basis row column 0 a.row_in

  spare_is : spare_column t.columns (positions t) ≡ spare_column b.columns (positions b)
  spare_is = omega (arith, begun_size, begun_columns)

  pub spare_free : (z : ℕ) → z ≡ spare_column t.columns (positions t) → IsFree t.columns t.basis z
  spare_free z e = record {
    inside = omega arith;
    not_basic = λ i il x. elim (cases_lt i (positions t)) [
      | inl l ↦
          let y : columns_of (set b.basis row column) i ≡ spare_column b.columns (positions b) =
          ap (λ (v : List ℕ). columns_of v i) (sym begun_basis) ∙ sym (basic_low t.columns t.basis i l) ∙ x ∙ e
          ∙ spare_is in
          elim (cases_eq i row) [
            | inl q ↦
                a.apart
                (sym (ap (columns_of (set b.basis row column)) q ∙ get_or-set_same b.basis row column 0 a.row_in) ∙ y)
            | inr q ↦
                a.others_apart i (omega (arith, begun_size)) q (sym (get_or-set_other b.basis row i column 0 q) ∙ y)
          ]
      | inr l ↦
          let y : basic_columns t.columns t.basis i ≡ suc (t.columns + positions t) =
          basic_high t.columns t.basis i l in
          absurd (omega arith)
    ];
    not_right = λ x. absurd (omega arith);
  }

  module _ {k z : ℕ} (ek : k ≡ columns_of t.basis row) (ez : z ≡ spare_column t.columns (positions t)) {r : Table}
      (x : IsExchanged t r row (columns_of t.basis row) z) where
    k_is : k ≡ column
    k_is = ek ∙ column_is

    z_is : z ≡ spare_column b.columns (positions b)
    z_is = ez ∙ spare_is

    basis_r : r.basis ≡ set b.basis row (spare_column b.columns (positions b))
    basis_r =
        x.basis ∙ ap (λ (l : List ℕ). set l row z) begun_basis ∙ set_twice b.basis row column z
        ∙ ap (λ v. set b.basis row v) z_is

    opened_size : positions r ≡ positions b
    opened_size = ap length basis_r ∙ length-set b.basis row (spare_column b.columns (positions b))

    columns_r : r.columns ≡ b.columns
    columns_r = x.columns ∙ begun_columns

    width_r : width_of r ≡ width_of b
    width_r = omega (arith, opened_size, columns_r)

    -- the rows are those that were left half cleared
    same_r : (i c : ℕ) → i ≤ positions b → c < width_of b → rows_of r i c ≡ rows_of h.half i c
    same_r i c il cl = elim (cases_eq i row) [
      | inl e ↦
          subst (λ (v : ℕ). rows_of r v c ≡ rows_of h.half v c) (sym e)
          (x.row_stays c (omega (arith, begun_size, begun_columns))
          ∙ h.told.row_stays c (omega (arith, half_size, h.columns_are)))
      | inr d ↦ elim (cases_eq c column) [
        | inl e ↦
            ap (rows_of r i) (e ∙ sym column_is) ∙ x.moved i (omega (arith, begun_size)) d ∙ ap (rows_of t i) z_is
            ∙ h.told.moved i (omega (arith, half_size)) d
            ∙ ap (rows_of h.half i) (sym e)
        | inr o ↦ elim (cases_eq c (spare_column b.columns (positions b))) [
          | inl e ↦ ap (rows_of r i) (e ∙ sym z_is) ∙ x.emptied i (omega (arith, begun_size)) d
              ∙ sym (ap (rows_of h.half i) e ∙ h.begun.zero i il)
          | inr q ↦ x.others i c (omega (arith, begun_size)) d (λ e. o (e ∙ column_is)) (λ e. q (e ∙ z_is))
              ∙ h.told.others i c (omega (arith, half_size)) d q o
        ]
      ]
    ]

    opened_free : IsFree r.columns r.basis k
    opened_free =
        subst (λ v. IsFree r.columns r.basis v) (sym k_is)
        (subst (λ n. IsFree n r.basis column) (sym columns_r)
        (subst (λ (l : List ℕ). IsFree b.columns l column) (sym basis_r)
        (free_opened b row column (spare_column b.columns (positions b)) refl a.row_in a.free a.apart)))

    zero_r : (i : ℕ) → i ≤ positions b → rows_of r i (spare_column b.columns (positions b)) ≡ pos 0
    zero_r i il = same_r i (spare_column b.columns (positions b)) il (omega arith) ∙ h.begun.zero i il

    opened_again : IsOpen r row
    opened_again =
        let e : spare_column r.columns (positions r) ≡ spare_column b.columns (positions b) =
        omega (arith, opened_size, columns_r) in
        record {
          spare =
              ap (λ (l : List ℕ). columns_of l row) basis_r
              ∙ get_or-set_same b.basis row (spare_column b.columns (positions b)) 0 a.row_in ∙ sym e;
          zero = ap (rows_of r row) e ∙ zero_r row (omega (arith, a.row_in));
        }

    opened_positive : pos 0 <ℤ rows_of r row k
    opened_positive =
        let p : pos 0 <ℤ rows_of h.half row column =
        parallel_positive (width_of b) (rows_of b row) (rows_of h.half row) column
        (parallel_sym (width_of b) (rows_of h.half row) (rows_of b row) h.begun.row_at) column_in a.positive in
        subst (λ v. pos 0 <ℤ rows_of r row v) (sym k_is)
        (subst (λ v. pos 0 <ℤ v) (sym (same_r row column (omega (arith, a.row_in)) column_in)) p)

    opened_own : (count : ℕ) → count ≤ suc (positions r) → KeepsOwn count r row
    opened_own count cl = record {
      rows = λ i il im d.
          let ib : i ≤ positions b = omega (arith, opened_size) in
          let e : basic_columns r.columns r.basis i ≡ basic_columns b.columns b.basis i =
          ap (λ n. basic_columns n r.basis i) columns_r ∙ ap (λ (l : List ℕ). basic_columns b.columns l i) basis_r
          ∙ basic_set b.columns b.basis row (spare_column b.columns (positions b)) i d in
          let inside : basic_columns b.columns b.basis i < width_of b = a.inside i ib d in
          let some =
          keeps_entry (width_of b) column (basic_columns b.columns b.basis i) (rows_of b i) (rows_of b row)
          (rows_of h.half i) inside
          (a.own i ib d) (a.top_zero i ib d) (h.begun.row_other i ib d) in
          (λ w. some (sym (same_r i (basic_columns b.columns b.basis i) ib inside) ∙ ap (rows_of r i) (sym e) ∙ w));
      kept = λ l. absurd (omega arith);
    }

    -- so its row clears the column in the rows before `count`
    pub clears_again : (count : ℕ) → count ≤ suc (positions r) → CanClear count r row k
    clears_again count l = record {
      row_in = omega (arith, a.row_in, opened_size);
      free = opened_free;
      opened = opened_again;
      below = omega arith;
      positive = opened_positive;
      own = opened_own count l;
    }

    -- a row that is cleared is the row before, cleared
    cleared_before : (i : ℕ) (new new' : ℕ → ℤ) → i ≤ positions b → i ≢ row
        → ((c : ℕ) → c < width_of b → new' c ≡ new c)
        → IsClearedBy (width_of r) k (rows_of r i) (rows_of r row) new
        → IsClearedBy (width_of b) column (rows_of b i) (rows_of b row) new'
    cleared_before i new new' il d same c =
        cleared_again (width_of b) column (rows_of b i) (rows_of h.half i) (rows_of b row) (rows_of h.half row) new'
        h.begun.row_at (h.begun.row_other i il d)
        (cleared_read (width_of r) (width_of b) k column (rows_of r i) (rows_of h.half i) (rows_of r row)
        (rows_of h.half row) new new' width_r k_is column_in
        (λ c l. same_r i c il l) (λ c l. same_r row c (omega (arith, a.row_in)) l) same c)

    module _ (r2 : Table) (b2 : r2.basis ≡ r.basis) (n2 : r2.columns ≡ r.columns) where
      size2 : positions r2 ≡ positions b
      size2 = ap length b2 ∙ opened_size

      pub cleared_free : IsFree r2.columns r2.basis k
      cleared_free = free_as n2 b2 opened_free

      module _ (t4 : Table) (b4 : t4.basis ≡ set r2.basis row k) (n4 : t4.columns ≡ r2.columns) where
        pub basis4 : t4.basis ≡ set b.basis row column
        basis4 =
            b4 ∙ ap (λ (l : List ℕ). set l row k) (b2 ∙ basis_r)
            ∙ set_twice b.basis row (spare_column b.columns (positions b)) k
            ∙ ap (λ v. set b.basis row v) k_is

        pub columns4 : t4.columns ≡ b.columns
        columns4 = n4 ∙ n2 ∙ columns_r

        size4 : positions t4 ≡ positions b
        size4 = ap length basis4 ∙ length-set b.basis row column

        -- ---- all rows are cleared
        module _ (r4 : IsAlone r2 row k → (i c : ℕ) → i ≤ positions r2 → c < r2.columns + positions r2 + 4
            → rows_of t4 i c ≡ rows_of r2 i c)
            (count : ℕ) (all : positions t < count) (cl : ClearsTable count r r2 row k) where
          cleared_r : (i : ℕ) → i ≤ positions b → i ≢ row
              → IsClearedBy (width_of r) k (rows_of r i) (rows_of r row) (rows_of r2 i)
          cleared_r i il d = cl.cleared i (omega (arith, begun_size)) (omega (arith, opened_size)) d

          alone : IsAlone r2 row k
          alone i il d = (cleared_r i (omega (arith, size2)) d).cleared

          same4 : (i c : ℕ) → i ≤ positions b → c < width_of b → rows_of t4 i c ≡ rows_of r2 i c
          same4 i c il l = r4 alone i c (omega (arith, size2)) (omega (arith, size2, n2, columns_r))

          row4 : (c : ℕ) → c < width_of b → rows_of t4 row c ≡ rows_of h.half row c
          row4 c l = same4 row c (omega (arith, a.row_in)) l ∙ cl.row_stays c ∙ same_r row c (omega (arith, a.row_in)) l

          pub pivoted4 : IsPivoted b t4 row column
          pivoted4 = record {
            row_at = record {
              p = h.begun.row_at.p;
              q = h.begun.row_at.q;
              p_positive = h.begun.row_at.p_positive;
              q_positive = h.begun.row_at.q_positive;
              same = λ c l. ap (λ v. h.begun.row_at.p *ℤ v) (row4 c l) ∙ h.begun.row_at.same c l;
            };
            row_other =
                λ i il d. cleared_before i (rows_of r2 i) (rows_of t4 i) il d (λ c l. same4 i c il l)
                (cleared_r i il d);
          }

          zero4 : (i : ℕ) → i ≤ positions b → rows_of t4 i (spare_column b.columns (positions b)) ≡ pos 0
          zero4 i il = elim (cases_eq i row) [
            | inl e ↦
                subst (λ (v : ℕ). rows_of t4 v (spare_column b.columns (positions b)) ≡ pos 0) (sym e)
                (same4 row (spare_column b.columns (positions b)) (omega (arith, a.row_in)) (omega arith)
                ∙ cl.row_stays (spare_column b.columns (positions b)) ∙ zero_r row (omega (arith, a.row_in)))
            | inr d ↦
                let c = cleared_r i il d in
                same4 i (spare_column b.columns (positions b)) il (omega arith)
                ∙ zero_stays c.divisor c.p c.q (rows_of r2 i (spare_column b.columns (positions b)))
                (rows_of r i (spare_column b.columns (positions b)))
                (rows_of r row (spare_column b.columns (positions b))) c.divides
                (c.entries (spare_column b.columns (positions b)) (omega (arith, width_r)))
                (zero_r i il) (zero_r row (omega (arith, a.row_in)))
          ]

          pub closed4 : IsClosed t4
          closed4 =
              let e : spare_column t4.columns (positions t4) ≡ spare_column b.columns (positions b) =
              omega (arith, size4, columns4) in
              record {
                free = λ i il v.
                    let y : columns_of (set b.basis row column) i ≡ spare_column b.columns (positions b) =
                    ap (λ (l : List ℕ). columns_of l i) (sym basis4) ∙ v ∙ e in
                    elim (cases_eq i row) [
                      | inl q ↦
                          a.apart
                          (sym (ap (columns_of (set b.basis row column)) q
                          ∙ get_or-set_same b.basis row column 0 a.row_in) ∙ y)
                      | inr q ↦
                          a.others_apart i (omega (arith, size4)) q
                          (sym (get_or-set_other b.basis row i column 0 q) ∙ y)
                    ];
                zero = λ i il. ap (rows_of t4 i) e ∙ zero4 i (omega (arith, size4));
              }

        -- ---- a row would be wide
        pub wide_again : (limit count i : ℕ) → StopsTable limit count r r2 row k i → i ≤ positions t
            → IsWideCleared limit (width_of b) column (rows_of b i) (rows_of b row)
        wide_again limit count i sp il =
            let ib : i ≤ positions b = omega (arith, begun_size) in
            let w = sp.wide (omega (arith, opened_size)) in (
              w.0,
              cleared_before i w.0 w.0 ib sp.other (λ c l. refl) w.1,
              subst (λ n. IsPrimitive n w.0) width_r w.2,
              (w.3.0, subst (λ n. w.3.0 < n) width_r w.3.1, w.3.2),
            )
