-- Row q of a dictionary beside the auxiliary column, and the columns that are not basic there.
use Rattle.std.proofs.Common.{◌≡◌, ◌≢◌, ℕ, suc, ◌+◌, ◌<◌, ◌≤◌, sym, ap, ◌∙◌, subst, arith, inl, inr}
use Rattle.std.proofs.lemmas.Bool.{cases_eq, cases_lt}
use Rattle.std.proofs.lemmas.Int.{ints}
use lib.IntN.{ℤ, pos, neg_ℤ}
use lib.Signed.{◌<ℤ◌, ◌≤ℤ◌}
use Rattle.rob_linear.specs.Programs.{Program, kept_of}
use Rattle.rob_linear.specs.Turns.{own_of}
use Rattle.rob_linear.proofs.Bases.Turns.{own_low}
use Rattle.rob_simplex.specs.Dictionaries.{Table, positions, columns_of, basic_columns, rows_of, IsFree}
use Rattle.rob_simplex.specs.Phases.{InBeside, IsOpenBeside}
use Rattle.rob_simplex.proofs.Rows.ReadRows.{basic_low, basic_high}
use Rattle.rob_linear.proofs.RowForms.Multiples.{parallel_sym, parallel_positive}

module _ {P : Program} {q : ℕ} {t : Table} (h : InBeside P q t) where
  pub size_is : t.columns + positions t ≡ P.n + P.m
  size_is = omega (arith, h.rows_are, h.columns_are)

  pub q_low : q < P.m
  q_low = h.holds.inside

  pub q_in : q < positions t
  q_in = omega (arith, h.rows_are, q_low)

  own_is : (i : ℕ) → i < P.m → own_of (kept_of P) (columns_of t.basis) i ≡ columns_of t.basis i
  own_is i l = own_low (kept_of P) (columns_of t.basis) i l

  -- row q is 0 in the other basic columns, and positive in its own
  other_zero : (i : ℕ) → i < P.m → i ≢ q → rows_of t q (columns_of t.basis i) ≡ pos 0
  other_zero i l d =
      ap (rows_of t q) (sym (own_is i l))
      ∙ (h.holds.multiples.rows_of q (omega (arith, q_low))).along.zeros i (omega arith) d

  own_positive : pos 0 <ℤ rows_of t q (columns_of t.basis q)
  own_positive =
      subst (λ k. pos 0 <ℤ rows_of t q k) (own_is q q_low) (h.holds.multiples.rows_of q (omega (arith, q_low))).positive

  basic_nonneg : (i : ℕ) → i < P.m → pos 0 ≤ℤ rows_of t q (columns_of t.basis i)
  basic_nonneg i l = elim (cases_eq i q) [
    | inl e ↦
        subst (λ k. pos 0 ≤ℤ rows_of t q (columns_of t.basis k)) (sym e)
        (let p : pos 0 <ℤ rows_of t q (columns_of t.basis q) = own_positive in omega (arith, ints))
    | inr d ↦ let z : rows_of t q (columns_of t.basis i) ≡ pos 0 = other_zero i l d in omega (arith, ints)
  ]

  pub row_own : pos 0 ≤ℤ rows_of t q (basic_columns t.columns t.basis q)
  row_own = subst (λ k. pos 0 ≤ℤ rows_of t q k) (sym (basic_low t.columns t.basis q q_in)) (basic_nonneg q q_low)

  -- a column in which row q is negative is not basic
  pub negative_free : (column : ℕ) → column ≤ P.n + P.m → rows_of t q column <ℤ pos 0 → IsFree t.columns t.basis column
  negative_free column low negative = record {
    inside = omega (arith, size_is, low);
    not_basic = λ i il e. elim (cases_lt i (positions t)) [
      | inl l ↦
          let n : pos 0 ≤ℤ rows_of t q (columns_of t.basis i) = basic_nonneg i (omega (arith, h.rows_are)) in
          let z : pos 0 ≤ℤ rows_of t q column =
          subst (λ k. pos 0 ≤ℤ rows_of t q k) (sym (basic_low t.columns t.basis i l) ∙ e) n in
          absurd (omega (arith, ints))
      | inr l ↦
          let x : suc (t.columns + positions t) ≡ column = sym (basic_high t.columns t.basis i l) ∙ e in
          omega (arith, size_is, low)
    ];
    not_right = λ e. absurd (omega (arith, size_is, low));
  }

  pub auxiliary_free : IsFree t.columns t.basis (P.n + P.m)
  auxiliary_free = negative_free (P.n + P.m) (omega arith) h.holds.below

-- the position is open, and its row was negated
module _ {P : Program} {q : ℕ} {t : Table} (h : IsOpenBeside P q t) where
  pub open_positive : pos 0 <ℤ rows_of t q (P.n + P.m)
  open_positive =
      let b : rows_of h.before q (P.n + P.m) <ℤ pos 0 = h.stood.holds.below in
      let n : pos 0 <ℤ neg_ℤ (rows_of h.before q (P.n + P.m)) = omega (arith, ints) in
      parallel_positive (suc (suc (suc (P.n + P.m)))) (λ k. neg_ℤ (rows_of h.before q k)) (rows_of t q) (P.n + P.m)
      (parallel_sym (suc (suc (suc (P.n + P.m)))) (rows_of t q) (λ k. neg_ℤ (rows_of h.before q k)) h.begun.row_at)
      (omega arith) n
