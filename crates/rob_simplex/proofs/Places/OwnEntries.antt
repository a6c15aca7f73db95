-- Rows that have an entry in their own column.
use Rattle.std.proofs.Common.{◌≡◌, ◌≢◌, ℕ, suc, ◌+◌, ◌<◌, ◌≤◌, sym, ap, ap₂, ◌∙◌, subst, arith, inl, inr, List, length, set}
use Rattle.std.proofs.lemmas.Bool.{cases_lt}
use Rattle.std.proofs.lemmas.Int.{ints}
use Rattle.std.proofs.lemmas.List.{get_or-set_other, length-set}
use lib.IntN.{ℤ, pos, ◌-ℤ◌, ◌*ℤ◌}
use lib.Signed.{◌<ℤ◌}
use Rattle.rob_algebra.specs.Integer.{mul-zero}
use Rattle.rob_algebra.specs.IntegerOrder.{mul_cancel_zero}
use Rattle.rob_linear.specs.Systems.{System, objective}
use Rattle.rob_linear.specs.Programs.{Program, auxiliary_of, kept_of}
use Rattle.rob_linear.specs.Turns.{own_of}
use Rattle.rob_linear.specs.Stages.{unit_row}
use Rattle.rob_linear.specs.Multiples.{HasMultipleRows}
use Rattle.rob_linear.proofs.CostChange.Stages.{unit_zero}
use Rattle.rob_linear.proofs.Bases.Turns.{own_low, own_high}
use Rattle.rob_table.specs.Lowering.{IsLowered}
use Rattle.rob_simplex.specs.Dictionaries.{Table, positions, width_of, columns_of, basic_columns, spare_column, rows_of, kept_row_of, IsFree, KeepsOwn}
use Rattle.rob_simplex.specs.Judging.{HasOwn}
use Rattle.rob_simplex.specs.Phases.{InBeside, IsOpenBeside}
use Rattle.rob_simplex.specs.Explicit.{HoldsExplicit, IsPrepared}
use Rattle.rob_simplex.specs.Pivots.{CanClear, CanPivot}
use Rattle.rob_simplex.proofs.Turns.ExplicitStart.{open_size, ready_free, ready_open, ready_positive}
use Rattle.rob_simplex.proofs.Pivoting.PivotLemmas.{IsOpening, opened, positive2, same_rows, free_opened}
use Rattle.rob_simplex.proofs.Rows.ReadRows.{basic_low, basic_high}
use Rattle.rob_simplex.proofs.Places.Views.{free_as}

pub some_of : (z : ℤ) → pos 0 <ℤ z → z ≢ pos 0
some_of z p e = absurd (omega (arith, ints))

-- each row is positive in its own column
abbrev pub ArePositive : Table → Type 0
ArePositive t = (i : ℕ) → i ≤ positions t → pos 0 <ℤ rows_of t i (basic_columns t.columns t.basis i)

-- ---- rows of a basis
pub own_positive : (t : Table) → HasOwn t → ArePositive t
own_positive t h i il = elim (cases_lt i (positions t)) [
  | inl l ↦ subst (λ k. pos 0 <ℤ rows_of t i k) (sym (basic_low t.columns t.basis i l)) (h.rows i l).1
  | inr l ↦
      let e : positions t ≡ i = omega arith in
      subst (λ k. pos 0 <ℤ rows_of t i k) (sym (basic_high t.columns t.basis i l))
      (subst (λ j. pos 0 <ℤ rows_of t j (suc (t.columns + positions t))) e h.objective)
]

pub multiples_positive : (S : System) (t : Table) → S.m ≡ positions t → objective S ≡ suc (t.columns + positions t)
    → HasMultipleRows S (own_of S (columns_of t.basis)) (rows_of t) → ArePositive t
multiples_positive S t em eo h i il = elim (cases_lt i (positions t)) [
  | inl l ↦
      let e : own_of S (columns_of t.basis) i ≡ basic_columns t.columns t.basis i =
      own_low S (columns_of t.basis) i (omega (arith, em)) ∙ sym (basic_low t.columns t.basis i l) in
      subst (λ k. pos 0 <ℤ rows_of t i k) e (h.rows_of i (omega (arith, em))).positive
  | inr l ↦
      let s : i ≡ S.m = omega (arith, em) in
      let e : own_of S (columns_of t.basis) i ≡ basic_columns t.columns t.basis i =
      ap (own_of S (columns_of t.basis)) s ∙ h.last ∙ eo ∙ sym (basic_high t.columns t.basis i l) in
      subst (λ k. pos 0 <ℤ rows_of t i k) e (h.rows_of i (omega (arith, em))).positive
]

pub beside_positive : (P : Program) (q : ℕ) (t : Table) → InBeside P q t → ArePositive t
beside_positive P q t h =
    multiples_positive (kept_of P) t (sym h.rows_are)
    (let e : suc (P.n + P.m) ≡ suc (t.columns + positions t) = omega (arith, h.rows_are, h.columns_are) in e)
    h.holds.multiples

-- ---- which rows keep an entry
pub keeps_positive : (count row : ℕ) (t : Table) → count ≤ suc (positions t) → ArePositive t → KeepsOwn count t row
keeps_positive count row t cl h =
    record {
      rows = λ i il im d. some_of (rows_of t i (basic_columns t.columns t.basis i)) (h i im);
      kept =
          λ l. absurd (omega arith);
    }

-- where row `row` alone has changed
pub keeps_rows : (count row : ℕ) (t t' : Table) → t'.basis ≡ t.basis → t'.columns ≡ t.columns
    → ((i c : ℕ) → i ≤ positions t → i ≢ row → rows_of t' i c ≡ rows_of t i c)
    → ((c : ℕ) → kept_row_of t' c ≡ kept_row_of t c) → KeepsOwn count t row → KeepsOwn count t' row
keeps_rows count row t t' eb en others kept h =
    let em : positions t' ≡ positions t = ap length eb in
    let es : spare_column t'.columns (positions t') ≡ spare_column t.columns (positions t) = omega (arith, em, en) in
    let eo : suc (t'.columns + positions t') ≡ suc (t.columns + positions t) = omega (arith, em, en) in
    record {
      rows = λ i il im d z.
          let same : basic_columns t'.columns t'.basis i ≡ basic_columns t.columns t.basis i =
          ap₂ (λ n b. basic_columns n b i) en eb in
          h.rows i il (omega (arith, em)) d
          (sym (others i (basic_columns t.columns t.basis i) (omega (arith, em)) d) ∙ ap (rows_of t' i) (sym same) ∙ z);
      kept = λ l.
          let k = h.kept (omega (arith, em)) in (
            ap (kept_row_of t') es ∙ kept (spare_column t.columns (positions t))
                ∙ k.0,
            λ z. k.1 (sym (kept (suc (t.columns + positions t))) ∙ ap (kept_row_of t') (sym eo) ∙ z),
          );
    }

-- in the explicit form
pub keeps_explicit : (P : Program) (count row : ℕ) (t : Table) → HoldsExplicit P t → KeepsOwn count t row
keeps_explicit P count row t h =
    let eo : suc (P.n + P.m) ≡ suc (t.columns + positions t) = omega (arith, h.rows_are, h.columns_are) in
    let es : spare_column P.n P.m ≡ spare_column t.columns (positions t) = omega (arith, h.rows_are, h.columns_are) in
    record {
      rows =
          λ i il im d. some_of (rows_of t i (basic_columns t.columns t.basis i))
          (multiples_positive (auxiliary_of P) t (sym h.rows_are) eo h.stands.multiples i im);
      kept = λ l. (
        subst (λ k. kept_row_of t k ≡ pos 0) es h.kept_zero,
        some_of (kept_row_of t (suc (t.columns + positions t)))
            (subst (λ k. pos 0 <ℤ kept_row_of t k) (own_high (kept_of P) (columns_of t.basis) P.m (omega arith) ∙ eo)
            h.kept.positive),
      );
    }

-- ---- another column comes to position `row`
pub basic_set : (n : ℕ) (b : List ℕ) (row s i : ℕ) → i ≢ row → basic_columns n (set b row s) i ≡ basic_columns n b i
basic_set n b row s i d =
    let len : length (set b row s) ≡ length b = length-set b row s in
    elim (cases_lt i (length b)) [
      | inl l ↦ basic_low n (set b row s) i (omega (arith, len)) ∙ get_or-set_other b row i s 0 d
          ∙ sym (basic_low n b i l)
      | inr l ↦ basic_high n (set b row s) i (omega (arith, len)) ∙ ap (λ k. suc (n + k)) len ∙ sym (basic_high n b i l)
    ]

pub keeps_set : (count row s : ℕ) (t t' : Table) → t'.basis ≡ set t.basis row s → t'.columns ≡ t.columns
    → ((i c : ℕ) → i ≤ positions t → c < width_of t → rows_of t' i c ≡ rows_of t i c)
    → ((i : ℕ) → i ≤ positions t → basic_columns t.columns t.basis i < width_of t)
    → (kept_row_of t (spare_column t.columns (positions t)) ≡ pos 0 → (c : ℕ) → kept_row_of t' c ≡ kept_row_of t c)
    → KeepsOwn count t row → KeepsOwn count t' row
keeps_set count row s t t' eb en same inside kept h =
    let em : positions t' ≡ positions t = ap length eb ∙ length-set t.basis row s in
    let es : spare_column t'.columns (positions t') ≡ spare_column t.columns (positions t) = omega (arith, em, en) in
    let eo : suc (t'.columns + positions t') ≡ suc (t.columns + positions t) = omega (arith, em, en) in
    record {
      rows = λ i il im d z.
          let il0 : i ≤ positions t = omega (arith, em) in
          let e : basic_columns t'.columns t'.basis i ≡ basic_columns t.columns t.basis i =
          ap₂ (λ n b. basic_columns n b i) en eb ∙ basic_set t.columns t.basis row s i d in
          h.rows i il il0 d (sym (same i (basic_columns t.columns t.basis i) il0 (inside i il0))
          ∙ ap (rows_of t' i) (sym e) ∙ z);
      kept = λ l.
          let k = h.kept (omega (arith, em)) in (
            ap (kept_row_of t') es ∙ kept k.0 (spare_column t.columns (positions t)) ∙ k.0,
            λ z. k.1 (sym (kept k.0 (suc (t.columns + positions t))) ∙ ap (kept_row_of t') (sym eo) ∙ z),
          );
    }

-- ---- the objective's row less an amount in another column than its own
pub lowered_own : (n column own : ℕ) (amount : ℤ) (row new : ℕ → ℤ) → IsLowered n column amount row new → own < n
    → own ≢ column → row own ≢ pos 0 → new own ≢ pos 0
lowered_own n column own amount row new h l d some z =
    let u : amount *ℤ unit_row column own ≡ pos 0 = ap (λ v. amount *ℤ v) (unit_zero column own d) ∙ mul-zero amount in
    let e : row own -ℤ (amount *ℤ unit_row column own) ≡ row own = omega (arith, ints) in
    some (mul_cancel_zero h.p (row own) h.positive
    (ap (λ v. h.p *ℤ v) (sym e) ∙ sym (h.entries own l) ∙ ap (λ v. h.divisor *ℤ v) z ∙ mul-zero h.divisor))

pub keeps_lowered : (row column : ℕ) (amount : ℤ) (t t' : Table) → row < positions t → IsFree t.columns t.basis column
    → t'.basis ≡ t.basis → t'.columns ≡ t.columns → ((i c : ℕ) → i < positions t → rows_of t' i c ≡ rows_of t i c)
    → IsLowered (width_of t) column amount (rows_of t (positions t)) (rows_of t' (positions t))
    → KeepsOwn (positions t + 1) t row → (count : ℕ) → count ≤ positions t + 1 → KeepsOwn count t' row
keeps_lowered row column amount t t' rl free eb en same low h count cl =
    let em : positions t' ≡ positions t = ap length eb in
    record {
      rows = λ i il im d z.
          let e : basic_columns t'.columns t'.basis i ≡ basic_columns t.columns t.basis i =
          ap₂ (λ n b. basic_columns n b i) en eb in
          elim (cases_lt i (positions t)) [
            | inl l ↦
                h.rows i (omega arith) (omega arith) d
                (sym (same i (basic_columns t.columns t.basis i) l) ∙ ap (rows_of t' i) (sym e) ∙ z)
            | inr l ↦
                let s : i ≡ positions t = omega (arith, em) in
                let o : basic_columns t.columns t.basis (positions t) ≡ suc (t.columns + positions t) =
                basic_high t.columns t.basis (positions t) (omega arith) in
                let some : rows_of t (positions t) (suc (t.columns + positions t)) ≢ pos 0 =
                (λ y. h.rows (positions t) (omega arith) (omega arith) (λ x. absurd (omega arith))
                (ap (rows_of t (positions t)) o ∙ y)) in
                lowered_own (width_of t) column (suc (t.columns + positions t)) amount (rows_of t (positions t))
                (rows_of t' (positions t)) low (omega arith) (λ x. free.not_basic (positions t) (omega arith) (o ∙ x))
                some
                (sym (ap₂ (λ j k. rows_of t' j k) s (e ∙ ap (basic_columns t.columns t.basis) s ∙ o)) ∙ z)
          ];
      kept = λ l. absurd (omega (arith, em));
    }

-- ---- beside the auxiliary column, where a pivot was begun
module _ {P : Program} {q : ℕ} {t : Table} (h : IsOpenBeside P q t) where
  begun_own : (i : ℕ) → i ≤ P.m → i ≢ q → rows_of t i (own_of (kept_of P) (columns_of h.before.basis) i) ≢ pos 0
  begun_own i il d z =
      let m = h.stood.holds.multiples in
      let c = own_of (kept_of P) (columns_of h.before.basis) i in
      let cl : own_of (kept_of P) (columns_of h.before.basis) i < suc (suc (suc (P.n + P.m))) = elim (cases_lt i P.m) [
        | inl l ↦
            let a : own_of (kept_of P) (columns_of h.before.basis) i < suc (P.n + P.m) = m.inside i l in omega arith
        | inr l ↦
            let a : own_of (kept_of P) (columns_of h.before.basis) i ≡ suc (P.n + P.m) =
            own_high (kept_of P) (columns_of h.before.basis) i l in
            omega arith
      ] in
      let some =
      some_of (rows_of h.before i (own_of (kept_of P) (columns_of h.before.basis) i)) (m.rows_of i il).positive in
      elim (h.begun.row_other i il d) [
        | inl par ↦
            some (mul_cancel_zero par.p (rows_of h.before i (own_of (kept_of P) (columns_of h.before.basis) i))
            par.p_positive (par.same (own_of (kept_of P) (columns_of h.before.basis) i) cl ∙ ap (λ v. par.q *ℤ v) z
            ∙ mul-zero par.q))
        | inr k ↦
            let zero : rows_of h.before q (own_of (kept_of P) (columns_of h.before.basis) i) ≡ pos 0 =
            (m.rows_of q (omega (arith, h.stood.holds.inside))).along.zeros i il d in
            let a : k.q *ℤ rows_of h.before q (own_of (kept_of P) (columns_of h.before.basis) i) ≡ pos 0 =
            ap (λ v. k.q *ℤ v) zero ∙ mul-zero k.q in
            let b : pos 0 ≡ (k.p *ℤ rows_of h.before i (own_of (kept_of P) (columns_of h.before.basis) i))
            -ℤ (k.q *ℤ rows_of h.before q (own_of (kept_of P) (columns_of h.before.basis) i)) =
            sym (ap (λ v. k.divisor *ℤ v) z ∙ mul-zero k.divisor)
            ∙ k.entries (own_of (kept_of P) (columns_of h.before.basis) i) cl in
            some (mul_cancel_zero k.p (rows_of h.before i (own_of (kept_of P) (columns_of h.before.basis) i)) k.positive
            (omega (arith, ints)))
      ]

  keeps_prepared : (count : ℕ) (t2 : Table) → IsPrepared t.columns (positions t) t t2 → KeepsOwn count t2 q
  keeps_prepared count t2 prep =
      let em : positions t2 ≡ positions t = ap length prep.basis in
      let er : positions t ≡ P.m = open_size h in
      let es : spare_column t2.columns (positions t2) ≡ spare_column P.n P.m =
      omega (arith, em, er, prep.columns, h.columns_are) in
      let eo : suc (t2.columns + positions t2) ≡ suc (P.n + P.m) = omega (arith, em, er, prep.columns, h.columns_are) in
      let el : suc (t2.columns + positions t2) ≡ suc (t.columns + positions t) = omega (arith, em, prep.columns) in
      record {
        rows = λ i il im d z. elim (cases_lt i (positions t)) [
          | inl l ↦
              let c : basic_columns t2.columns t2.basis i ≡ own_of (kept_of P) (columns_of h.before.basis) i =
              basic_low t2.columns t2.basis i (omega (arith, em))
              ∙ ap (λ (b : List ℕ). columns_of b i) (prep.basis ∙ h.basis)
              ∙ get_or-set_other h.before.basis q i (spare_column P.n P.m) 0 d
              ∙ sym (own_low (kept_of P) (columns_of h.before.basis) i (omega (arith, er))) in
              begun_own i (omega (arith, er)) d
              (sym (prep.rows i (own_of (kept_of P) (columns_of h.before.basis) i) l) ∙ ap (rows_of t2 i) (sym c) ∙ z)
          | inr l ↦
              let e : positions t ≡ i = omega (arith, em) in
              let c : basic_columns t2.columns t2.basis i ≡ suc (t.columns + positions t) =
              basic_high t2.columns t2.basis i (omega (arith, em)) ∙ el in
              let one : rows_of t2 i (basic_columns t2.columns t2.basis i) ≡ pos 1 =
              ap (rows_of t2 i) c ∙ ap (λ j. rows_of t2 j (suc (t.columns + positions t))) (sym e) ∙ prep.own in
              absurd (omega (arith, ints))
        ];
        kept = λ l. (
          prep.kept (spare_column t2.columns (positions t2)) ∙ ap₂ (λ i c. rows_of t i c) er es
              ∙ h.zero P.m (omega arith),
          λ z. begun_own P.m (omega arith) (λ e. absurd (omega (arith, h.stood.holds.inside)))
              (ap (rows_of t P.m) (own_high (kept_of P) (columns_of h.before.basis) P.m (omega arith))
              ∙ sym (ap₂ (λ i c. rows_of t i c) er eo) ∙ sym (prep.kept (suc (t2.columns + positions t2))) ∙ z),
        );
      }

  -- so it can clear the auxiliary column
  pub clears_prepared : (t2 : Table) (prep : IsPrepared t.columns (positions t) t t2) (x : ℕ)
      (is : x ≡ t.columns + positions t) {count : ℕ} → count ≡ positions t + 2 → CanClear count t2 q x
  clears_prepared t2 prep x is {count = count} all =
      let em : positions t2 ≡ positions t = ap length prep.basis in
      record {
        row_in = omega (arith, h.stood.holds.inside, open_size h, em);
        free = ready_free h prep is;
        opened = ready_open h prep is;
        below = omega (arith, em, all);
        positive = ready_positive h prep is;
        own = keeps_prepared count t2 prep;
      }

-- ---- a position that was opened for a pivot
module _ {t0 t1 t2 : Table} {row s column : ℕ} (o : IsOpening t0 t1 t2 row s) {count : ℕ}
    (a : CanPivot count t0 row column) where
  -- its row can clear the column, where the kept row stays too
  pub clears_opened : ((i : ℕ) → i ≤ positions t1 → basic_columns t1.columns t1.basis i < width_of t1)
      → ((c : ℕ) → kept_row_of t1 c ≡ kept_row_of t0 c)
      → (kept_row_of t1 s ≡ pos 0 → (c : ℕ) → kept_row_of t2 c ≡ kept_row_of t1 c) → CanClear count t2 row column
  clears_opened inside kept1 kept2 =
      let m1 : positions t1 ≡ positions t0 = ap length o.basis1 in
      let m2 : positions t2 ≡ positions t1 = ap length o.basis2 ∙ length-set t1.basis row s in
      let e1 : spare_column t1.columns (positions t1) ≡ s = omega (arith, o.spare, o.columns1, m1) in
      record {
        row_in = omega (arith, a.row_in, m1, m2);
        free =
            free_as (o.columns2 ∙ o.columns1) (o.basis2 ∙ ap (λ (b : List ℕ). set b row s) o.basis1)
            (free_opened t0 row column s o.spare a.row_in a.free a.apart);
        opened = opened o column;
        below = omega (arith, a.below, m1, m2);
        positive = positive2 o column a.free.inside a.positive;
        own =
            keeps_set count row s t1 t2 o.basis2 o.columns2 (same_rows o column) inside
            (λ z. kept2 (ap (kept_row_of t1) (sym e1) ∙ z))
            (keeps_rows count row t0 t1 o.basis1 o.columns1 o.others1 kept1 a.own);
      }
