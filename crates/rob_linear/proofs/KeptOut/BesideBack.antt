-- From the rows beside back to those of the auxiliary form, also where a pivot has been begun: a row of either basis
-- beside that is cleared of the auxiliary column is the row of the path's basis. So no pivot need be taken back.
use Rattle.std.proofs.Common.{◌≡◌, ◌≢◌, ℕ, suc, ◌+◌, ◌<◌, ◌≤◌, sym, ap, ◌∙◌, subst, arith, inl, inr}
use Rattle.std.proofs.lemmas.Bool.{cases_eq}
use lib.IntN.{ℤ, neg_ℤ}
use Rattle.rob_linear.specs.Systems.{System, right, IsPrimitive, LiesAlong, RowOf}
use Rattle.rob_linear.specs.Programs.{Program, auxiliary_row, auxiliary_of, kept_of}
use Rattle.rob_linear.specs.Turns.{own_of, StandsWith}
use Rattle.rob_linear.specs.Paths.{Reached}
use Rattle.rob_linear.specs.WideRows.{HasWideEntry, IsWideIn}
use Rattle.rob_linear.specs.Multiples.{IsMultipleRow, HasMultipleRows, IsClearedBy, StandsMultiple, put_at}
use Rattle.rob_linear.specs.Beside.{StandsBeside, IsBegun, IsBackPivot}
use Rattle.rob_linear.proofs.Bases.Solutions.{tags_in}
use Rattle.rob_linear.proofs.BasisPaths.Starts.{auxiliary_tagged}
use Rattle.rob_linear.proofs.BasisPaths.TwoPhases.{InFirst, kept_tagged}
use Rattle.rob_linear.proofs.RowForms.Multiples.{parallel_sym, parallel_trans, parallel_along, multiple_parallel, multiples_basis, cleared_row, order_parallel, are_sym, rows_parallel}
use Rattle.rob_linear.proofs.CostChange.WideRows.{listed_inside}
use Rattle.rob_linear.proofs.KeptOut.Beside.{neg_along, own_put_same, own_put_other, own_at, own_other, bound, own_inside, own_last, last_beside, to_auxiliary, cost_beside, negated_is}
use Rattle.rob_linear.proofs.KeptOut.BesideTurns.{in_first}

along_moved : (S : System) (own own' : ℕ → ℕ) (e : ℕ) (r : ℕ → ℤ) → ((j : ℕ) → j ≢ e → own' j ≡ own j)
    → LiesAlong S own e r → LiesAlong S own' e r
along_moved S own own' e r same h = record { zeros = λ j jl d. ap r (same j d) ∙ h.zeros j jl d; spanned = h.spanned }

module _ (P : Program) (basis : ℕ → ℕ) (q f col : ℕ) (rows begun : ℕ → ℕ → ℤ) (s : StandsBeside P basis q f rows)
    (b : IsBegun P q col rows begun) where
  begun_along : LiesAlong (kept_of P) (own_of (kept_of P) (put_at basis q f)) q (begun q)
  begun_along =
      let ql : q < P.m = s.inside in
      parallel_along (kept_of P) (own_of (kept_of P) (put_at basis q f)) q (λ k. neg_ℤ (rows q k)) (begun q)
      (tags_in (kept_of P) (kept_tagged P)) (bound P basis q f rows s)
      (parallel_sym (suc (suc (suc (P.n + P.m)))) (begun q) (λ k. neg_ℤ (rows q k)) b.row_at)
      (neg_along (kept_of P) (own_of (kept_of P) (put_at basis q f)) q (rows q)
      (s.multiples.rows_of q (omega arith)).along)

  begun_along_auxiliary : LiesAlong (auxiliary_of P) (own_of (kept_of P) (put_at basis q f)) q (begun q)
  begun_along_auxiliary =
      let ql : q < P.m = s.inside in
      parallel_along (auxiliary_of P) (own_of (kept_of P) (put_at basis q f)) q (λ k. neg_ℤ (rows q k)) (begun q)
      (tags_in (auxiliary_of P) (auxiliary_tagged P)) (bound P basis q f rows s)
      (parallel_sym (suc (suc (suc (P.n + P.m)))) (begun q) (λ k. neg_ℤ (rows q k)) b.row_at)
      (neg_along (auxiliary_of P) (own_of (kept_of P) (put_at basis q f)) q (rows q)
      (to_auxiliary P basis q f rows s (own_of (kept_of P) (put_at basis q f)) q (rows q)
      (last_beside P basis q f rows s) ql (s.multiples.rows_of q (omega arith))).along)

  -- the columns after the pivot that was begun
  next_other : (j : ℕ) → j ≢ q → own_of (kept_of P) (put_at basis q col) j ≡ own_of (kept_of P) (put_at basis q f) j
  next_other j d = own_put_other (kept_of P) basis q col j d ∙ sym (own_put_other (kept_of P) basis q f j d)

  next_bound : (j : ℕ) → j ≤ P.m → own_of (kept_of P) (put_at basis q col) j ≤ suc (suc (P.n + P.m))
  next_bound j jl = elim (cases_eq j q) [
    | inl c ↦
        let cl : col < P.n + P.m = b.inside in
        let e : own_of (kept_of P) (put_at basis q col) j ≡ col =
        ap (own_of (kept_of P) (put_at basis q col)) c ∙ own_put_same (kept_of P) basis q col s.inside in
        omega arith
    | inr d ↦ subst (λ v. v ≤ suc (suc (P.n + P.m))) (sym (next_other j d)) (bound P basis q f rows s j jl)
  ]

  pub begun_row : (i : ℕ) (new : ℕ → ℤ) → i ≤ P.m → i ≢ q
      → IsClearedBy (suc (suc (suc (P.n + P.m)))) (P.n + P.m) (begun i) (begun q) new
      → IsMultipleRow (kept_of P) (own_of (kept_of P) basis) i new
  begun_row i new il d c =
      let ql : q < P.m = s.inside in
      elim (b.row_other i il d) [
        | inl par ↦
            cleared_row (kept_of P) (own_of (kept_of P) (put_at basis q f)) (own_of (kept_of P) basis) (begun i)
            (begun q) new q (P.n + P.m) i (tags_in (kept_of P) (kept_tagged P)) (bound P basis q f rows s)
            (own_at P basis q f rows s) (own_other P basis q f rows s) il d
            (multiple_parallel (kept_of P) (own_of (kept_of P) (put_at basis q f)) i (rows i) (begun i)
            (tags_in (kept_of P) (kept_tagged P)) (bound P basis q f rows s) il par (s.multiples.rows_of i il))
            begun_along c
        | inr k ↦
            cleared_row (kept_of P) (own_of (kept_of P) (put_at basis q col)) (own_of (kept_of P) basis) (begun i)
            (begun q) new q (P.n + P.m) i (tags_in (kept_of P) (kept_tagged P)) next_bound
            (own_at P basis q f rows s)
            (λ j jd. sym (own_put_other (kept_of P) basis q col j jd)) il d
            (cleared_row (kept_of P) (own_of (kept_of P) (put_at basis q f)) (own_of (kept_of P) (put_at basis q col))
            (rows i) (rows q) (begun i) q col i (tags_in (kept_of P) (kept_tagged P)) (bound P basis q f rows s)
            (own_put_same (kept_of P) basis q col ql) next_other il d
            (s.multiples.rows_of i il) (s.multiples.rows_of q (omega arith)).along k)
            (along_moved (kept_of P) (own_of (kept_of P) (put_at basis q f)) (own_of (kept_of P) (put_at basis q col)) q
            (begun q) next_other begun_along) c
      ]

  pub begun_cost : (new : ℕ → ℤ)
      → IsClearedBy (suc (suc (suc (P.n + P.m)))) (P.n + P.m) (auxiliary_row P P.m) (begun q) new
      → IsMultipleRow (auxiliary_of P) (own_of (kept_of P) basis) P.m new
  begun_cost new c =
      let ql : q < P.m = s.inside in
      cleared_row (auxiliary_of P) (own_of (kept_of P) (put_at basis q f)) (own_of (kept_of P) basis)
      (auxiliary_row P P.m) (begun q) new q (P.n + P.m) P.m (tags_in (auxiliary_of P) (auxiliary_tagged P))
      (bound P basis q f rows s) (own_at P basis q f rows s) (own_other P basis q f rows s)
      (omega arith) (omega arith)
      (cost_beside P basis q f rows s) begun_along_auxiliary c

  pub begun_multiples : (new : ℕ → ℕ → ℤ) (kept : ℕ → ℤ) → IsBackPivot P q begun new kept
      → HasMultipleRows (auxiliary_of P) (own_of (auxiliary_of P) basis) new
  begun_multiples new kept v = record {
    inside = own_inside P basis q f rows s;
    last = own_last P basis q f rows s;
    rows_of = λ i il. elim (cases_eq i P.m) [
      | inl c ↦ subst (λ v. IsMultipleRow (auxiliary_of P) (own_of (kept_of P) basis) v (new v)) (sym c)
          (begun_cost (new P.m) v.cost)
      | inr c ↦ to_auxiliary P basis q f rows s (own_of (kept_of P) basis) i (new i) (own_last P basis q f rows s)
          (omega arith) (elim (cases_eq i q) [
            | inl g ↦
                subst (λ v. IsMultipleRow (kept_of P) (own_of (kept_of P) basis) v (new v)) (sym g)
                (negated_is P basis q f rows s (new q)
                (parallel_trans (suc (suc (suc (P.n + P.m)))) (new q) (begun q)
                (λ k. neg_ℤ (rows q k)) v.row_at b.row_at))
            | inr d ↦ begun_row i (new i) il d (v.row_other i (omega arith) d)
          ])
    ];
  }

  pub begun_stands : (new : ℕ → ℕ → ℤ) (kept : ℕ → ℤ) → Reached P basis → IsBackPivot P q begun new kept
      → StandsMultiple (auxiliary_of P) basis new × IsMultipleRow (kept_of P) (own_of (kept_of P) basis) P.m kept
  begun_stands new kept r v =
      let ql : q < P.m = s.inside in
      let x : InFirst P basis = in_first P basis q f rows s r in
      let m : HasMultipleRows (auxiliary_of P) (own_of (auxiliary_of P) basis) new = begun_multiples new kept v in (
        record {
          multiples = m;
          feasible =
              order_parallel (auxiliary_of P) x.rows new (auxiliary_tagged P)
              (are_sym (auxiliary_of P) new x.rows
              (rows_parallel (auxiliary_of P) (own_of (auxiliary_of P) basis) x.rows new x.stands.is_basis m))
              x.stands.feasible;
        },
        begun_row P.m kept (omega arith) (omega arith) v.kept_row,
      )

  pub begun_exact : (new : ℕ → ℕ → ℤ) (kept : ℕ → ℤ) → Reached P basis → IsBackPivot P q begun new kept
      → ((i : ℕ) → i ≤ P.m → IsPrimitive (suc (right (kept_of P))) (new i)) → IsPrimitive (suc (right (kept_of P))) kept
      → StandsWith (auxiliary_of P) basis new × RowOf (kept_of P) (own_of (kept_of P) basis) P.m kept
  begun_exact new kept r v pn pk =
      let m : StandsMultiple (auxiliary_of P) basis new
      × IsMultipleRow (kept_of P) (own_of (kept_of P) basis) P.m kept = begun_stands new kept r v in (
        record {
          is_basis = multiples_basis (auxiliary_of P) (own_of (auxiliary_of P) basis) new m.0.multiples pn;
          feasible = m.0.feasible;
        },
        record { along = m.1.along; positive = m.1.positive; primitive = pk },
      )

  pub begun_wide : (limit i : ℕ) (new : ℕ → ℤ) → i ≤ P.m → i ≢ q
      → IsClearedBy (suc (right (kept_of P))) (P.n + P.m) (begun i) (begun q) new
      → IsPrimitive (suc (right (kept_of P))) new → HasWideEntry limit (kept_of P) new
      → IsWideIn limit (kept_of P) basis i
  begun_wide limit i new il d c p w =
      let m : IsMultipleRow (kept_of P) (own_of (kept_of P) basis) i new = begun_row i new il d c in (
        new,
        listed_inside (kept_of P) basis (own_inside P basis q f rows s),
        record {
          along = m.along;
          positive = m.positive;
          primitive = p;
        },
        w,
      )

  pub begun_cost_wide : (limit : ℕ) (new : ℕ → ℤ)
      → IsClearedBy (suc (right (kept_of P))) (P.n + P.m) (auxiliary_row P P.m) (begun q) new
      → IsPrimitive (suc (right (kept_of P))) new → HasWideEntry limit (auxiliary_of P) new
      → IsWideIn limit (auxiliary_of P) basis P.m
  begun_cost_wide limit new c p w =
      let m : IsMultipleRow (auxiliary_of P) (own_of (kept_of P) basis) P.m new = begun_cost new c in (
        new,
        listed_inside (auxiliary_of P) basis (own_inside P basis q f rows s),
        record {
          along = m.along;
          positive = m.positive;
          primitive = p;
        },
        w,
      )
