-- Columns that are not basic in a dictionary that stands for a program.
use Rattle.std.proofs.Common.{◌≡◌, ◌≢◌, ℕ, suc, ◌+◌, ◌<◌, ◌≤◌, sym, ap, ◌∙◌, subst, arith, inl, inr}
use Rattle.std.proofs.lemmas.Bool.{cases_lt}
use lib.IntN.{pos}
use Rattle.rob_linear.specs.Programs.{Program, system_of}
use Rattle.rob_linear.proofs.Bases.Turns.{own_low}
use Rattle.rob_simplex.specs.Dictionaries.{Table, positions, width_of, columns_of, basic_columns, spare_column, rows_of, IsFree}
use Rattle.rob_simplex.specs.Phases.{StandsFor}
use Rattle.rob_simplex.proofs.Rows.ReadRows.{basic_low, basic_high}

module _ {P : Program} {t : Table} (h : StandsFor P t) where
  pub basic_column_low : (k : ℕ) → k < P.m → columns_of t.basis k < P.n + P.m
  basic_column_low k kl =
      subst (λ c. c < P.n + P.m) (own_low (system_of P) (columns_of t.basis) k kl) (h.stands.multiples.inside k kl)

  -- each basic column is one of the dictionary's
  pub basics_inside : (i : ℕ) → i ≤ positions t → basic_columns t.columns t.basis i < width_of t
  basics_inside i il = elim (cases_lt i (positions t)) [
    | inl l ↦
        let c : columns_of t.basis i < P.n + P.m = basic_column_low i (omega (arith, h.rows_are)) in
        subst (λ v. v < width_of t) (sym (basic_low t.columns t.basis i l))
        (omega (arith, c, h.rows_are, h.columns_are))
    | inr l ↦ subst (λ v. v < width_of t) (sym (basic_high t.columns t.basis i l)) (omega arith)
  ]

  -- the auxiliary one
  pub way_free : IsFree t.columns t.basis (t.columns + positions t)
  way_free = record {
    inside = omega arith;
    not_basic = λ k kl e. elim (cases_lt k (positions t)) [
      | inl l ↦
          let b : columns_of t.basis k < P.n + P.m = basic_column_low k (omega (arith, h.rows_are)) in
          let x : columns_of t.basis k ≡ t.columns + positions t = sym (basic_low t.columns t.basis k l) ∙ e in
          absurd (omega (arith, h.rows_are, h.columns_are))
      | inr l ↦
          let x : suc (t.columns + positions t) ≡ t.columns + positions t =
          sym (basic_high t.columns t.basis k l) ∙ e in
          absurd (omega arith)
    ];
    not_right = λ e. absurd (omega arith);
  }

  pub way_zero : rows_of t (positions t) (t.columns + positions t) ≡ pos 0
  way_zero =
      let e : t.columns + positions t ≡ P.n + P.m = omega (arith, h.rows_are, h.columns_are) in
      ap (rows_of t (positions t)) e ∙ h.empty (positions t) (omega (arith, h.rows_are))

  -- the spare one
  pub spare_free : (s : ℕ) → s ≡ spare_column t.columns (positions t) → IsFree t.columns t.basis s
  spare_free s es = record {
    inside = omega (arith, es);
    not_basic = λ k kl e. elim (cases_lt k (positions t)) [
      | inl l ↦ h.closed.free k l (sym (basic_low t.columns t.basis k l) ∙ e ∙ es)
      | inr l ↦
          absurd (let x : suc (t.columns + positions t) ≡ s =
          sym (basic_high t.columns t.basis k l) ∙ e in omega (arith, es))
    ];
    not_right = λ e. absurd (omega (arith, es));
  }

  -- a structural one at no position
  pub column_free : (j : ℕ) → j < t.columns → ((i : ℕ) → i < positions t → columns_of t.basis i ≢ j)
      → IsFree t.columns t.basis j
  column_free j jl out = record {
    inside = omega (arith, jl);
    not_basic = λ k kl e. elim (cases_lt k (positions t)) [
      | inl l ↦ out k l (sym (basic_low t.columns t.basis k l) ∙ e)
      | inr l ↦
          absurd (let x : suc (t.columns + positions t) ≡ j =
          sym (basic_high t.columns t.basis k l) ∙ e in omega (arith, jl))
    ];
    not_right = λ e. absurd (omega (arith, jl));
  }
