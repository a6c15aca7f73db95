-- The first phase with the auxiliary column kept out: the rows of the basis of
-- the path, from those of the basis beside it.
use Rattle.std.proofs.Common.{◌≡◌, ◌≢◌, ℕ, suc, ◌+◌, ◌<◌, ◌≤◌, sym, ap, ◌∙◌, subst, arith, inl, inr, cond, eqb, ltb}
use Rattle.std.proofs.lemmas.Int.{ints}
use Rattle.std.proofs.lemmas.Bool.{cases_eq, cases_lt}
use Rattle.std.proofs.lemmas.Bool.Decides.{nat_tests}
use lib.IntN.{ℤ, pos, negsuc, ◌+ℤ◌, ◌*ℤ◌, neg_ℤ}
use lib.Signed.{◌<ℤ◌}
use Rattle.rob_algebra.specs.Integer.{ring, mul-zero, mul-one}
use Rattle.rob_linear.specs.Systems.{System, LiesAlong}
use Rattle.rob_linear.specs.Programs.{Program, auxiliary_row, auxiliary_of, kept_of}
use Rattle.rob_linear.specs.Turns.{own_of}
use Rattle.rob_linear.specs.Multiples.{IsParallel, IsMultipleRow, HasMultipleRows, IsClearedBy, put_at}
use Rattle.rob_linear.specs.Beside.{StandsBeside, beside_objective}
use Rattle.rob_linear.proofs.LinearPrograms.Sums.{sum_ext, sum_neg}
use Rattle.rob_linear.proofs.Bases.Solutions.{tags_in, start_along}
use Rattle.rob_linear.proofs.BasisPaths.Costs.{spanned_restarted}
use Rattle.rob_linear.proofs.BasisPaths.Starts.{auxiliary_tagged}
use Rattle.rob_linear.proofs.BasisPaths.TwoPhases.{kept_is, kept_tagged}
use Rattle.rob_linear.proofs.Bases.Turns.{own_low, own_high}
use Rattle.rob_linear.proofs.LinearPrograms.Programs.{auxiliary_cost_zero, auxiliary_cost_entry, auxiliary_cost_objective}
use Rattle.rob_linear.proofs.RowForms.Multiples.{parallel_refl, parallel_sym, multiple_parallel, multiples_in, cleared_row, pivot_row}

pub neg_along : (S : System) (own : ℕ → ℕ) (i : ℕ) (r : ℕ → ℤ) → LiesAlong S own i r
    → LiesAlong S own i (λ k. neg_ℤ (r k))
neg_along S own i r a = record {
  zeros = λ j jl d. ap neg_ℤ (a.zeros j jl d);
  spanned = λ k kl.
      ap neg_ℤ (a.spanned k kl)
      ∙ sym (sum_neg (suc S.m) (λ t. r (S.tag t) *ℤ S.start t k))
      ∙ sum_ext (suc S.m) (λ t. neg_ℤ (r (S.tag t) *ℤ S.start t k))
      (λ t. neg_ℤ (r (S.tag t)) *ℤ S.start t k) (λ t tl. simp ring);
}

pub put_same : (basis : ℕ → ℕ) (q f : ℕ) → put_at basis q f q ≡ f
put_same basis q f = grind (arith, nat_tests)

pub put_other : (basis : ℕ → ℕ) (q f i : ℕ) → i ≢ q → put_at basis q f i ≡ basis i
put_other basis q f i d = grind (arith, nat_tests)

-- the columns of positions after a column is put at position q
pub own_put_same : (S : System) (basis : ℕ → ℕ) (q f : ℕ) → q < S.m → own_of S (put_at basis q f) q ≡ f
own_put_same S basis q f l = own_low S (put_at basis q f) q l ∙ put_same basis q f

pub own_put_other : (S : System) (basis : ℕ → ℕ) (q f i : ℕ) → i ≢ q → own_of S (put_at basis q f) i ≡ own_of S basis i
own_put_other S basis q f i d =
    elim (cases_lt i S.m) [
      | inl l ↦ own_low S (put_at basis q f) i l ∙ put_other basis q f i d ∙ sym (own_low S basis i l)
      | inr l ↦ own_high S (put_at basis q f) i (omega arith) ∙ sym (own_high S basis i (omega arith))
    ]

-- ---- the auxiliary objective's row
pub objective_at : (P : Program) (r : ℕ → ℤ) → beside_objective P r (suc (P.n + P.m)) ≡ neg_ℤ (r (P.n + P.m))
objective_at P r = grind (arith, nat_tests)

pub objective_column : (P : Program) (r : ℕ → ℤ) → beside_objective P r (P.n + P.m) ≡ pos 0
objective_column P r = grind (arith, nat_tests)

pub objective_other : (P : Program) (r : ℕ → ℤ) (k : ℕ) → k ≢ P.n + P.m → k ≢ suc (P.n + P.m)
    → beside_objective P r k ≡ r k
objective_other P r k d e = grind (arith, nat_tests)

-- ---- the rows of the basis of the path, without a division
-- u times row i, and its auxiliary entry times row q
abbrev pub back_row : Program → ℕ → (ℕ → ℕ → ℤ) → ℕ → ℕ → ℤ
back_row P q rows i k = (neg_ℤ (rows q (P.n + P.m)) *ℤ rows i k) +ℤ (rows i (P.n + P.m) *ℤ rows q k)

abbrev pub back_rows : Program → ℕ → (ℕ → ℕ → ℤ) → ℕ → ℕ → ℤ
back_rows P q rows i =
    cond (eqb i q) (λ k. neg_ℤ (rows q k)) (cond (ltb i P.m) (back_row P q rows i) (beside_objective P (rows q)))

pub back_at : (P : Program) (q : ℕ) (rows : ℕ → ℕ → ℤ) → back_rows P q rows q ≡ (λ k. neg_ℤ (rows q k))
back_at P q rows = grind (arith, nat_tests)

pub back_other : (P : Program) (q : ℕ) (rows : ℕ → ℕ → ℤ) (i : ℕ) → i < P.m → i ≢ q
    → back_rows P q rows i ≡ back_row P q rows i
back_other P q rows i l d = grind (arith, nat_tests)

pub back_last : (P : Program) (q : ℕ) (rows : ℕ → ℕ → ℤ) → q < P.m
    → back_rows P q rows P.m ≡ beside_objective P (rows q)
back_last P q rows ql = grind (arith, nat_tests)

-- ---- the rows of the basis of the path
module _ (P : Program) (basis : ℕ → ℕ) (q f : ℕ) (rows : ℕ → ℕ → ℤ) (s : StandsBeside P basis q f rows) where
  -- the two lists of columns differ at q alone
  pub own_at : own_of (kept_of P) basis q ≡ P.n + P.m
  own_at = own_low (kept_of P) basis q s.inside ∙ s.auxiliary

  pub own_other : (j : ℕ) → j ≢ q → own_of (kept_of P) basis j ≡ own_of (kept_of P) (put_at basis q f) j
  own_other j d = sym (own_put_other (kept_of P) basis q f j d)

  row_in : (i : ℕ) → i ≤ P.m → IsMultipleRow (kept_of P) (own_of (kept_of P) (put_at basis q f)) i (rows i)
  row_in i l = s.multiples.rows_of i l

  pub bound : (j : ℕ) → j ≤ P.m → own_of (kept_of P) (put_at basis q f) j ≤ suc (suc (P.n + P.m))
  bound j l = multiples_in (kept_of P) (own_of (kept_of P) (put_at basis q f)) rows s.multiples j l

  -- the auxiliary column is none of the columns beside
  pub not_auxiliary : (j : ℕ) → j ≤ P.m → own_of (kept_of P) (put_at basis q f) j ≢ P.n + P.m
  not_auxiliary j jl e =
      let ql : q < P.m = s.inside in
      let n : rows q (P.n + P.m) <ℤ pos 0 = s.below in
      elim (cases_eq j q) [
        | inl c ↦
            let p : pos 0 <ℤ rows q (own_of (kept_of P) (put_at basis q f) q) = (row_in q (omega arith)).positive in
            let x : rows q (own_of (kept_of P) (put_at basis q f) q) ≡ rows q (P.n + P.m) =
            ap (rows q) (ap (own_of (kept_of P) (put_at basis q f)) (sym c) ∙ e) in
            absurd (omega (arith, ints))
        | inr d ↦
            let z : rows q (own_of (kept_of P) (put_at basis q f) j) ≡ pos 0 = (row_in q (omega arith)).zeros j jl d in
            let x : rows q (own_of (kept_of P) (put_at basis q f) j) ≡ rows q (P.n + P.m) = ap (rows q) e in
            absurd (omega (arith, ints))
      ]

  pub last_beside : own_of (kept_of P) (put_at basis q f) P.m ≡ suc (P.n + P.m)
  last_beside = s.multiples.last

  -- the rows before m are rows of the auxiliary form too
  pub to_auxiliary : (own : ℕ → ℕ) (i : ℕ) (r : ℕ → ℤ) → own P.m ≡ suc (P.n + P.m) → i < P.m
      → IsMultipleRow (kept_of P) own i r → IsMultipleRow (auxiliary_of P) own i r
  to_auxiliary own i r om il h = record {
    along = record {
      zeros = h.zeros;
      spanned = spanned_restarted (kept_of P) (auxiliary_row P) r (kept_tagged P).last
          (ap r (sym om) ∙ h.zeros P.m (omega arith) (omega arith)) (λ t k tl kl. kept_is P t k tl) h.spanned;
    };
    positive = h.positive;
  }

  -- and the row of the auxiliary cost is that of position m there, as at the start
  pub cost_beside : IsMultipleRow (auxiliary_of P) (own_of (kept_of P) (put_at basis q f)) P.m (auxiliary_row P P.m)
  cost_beside = record {
    along = record {
      zeros = λ j jl d.
          let o : own_of (kept_of P) (put_at basis q f) j < suc (P.n + P.m) = s.multiples.inside j (omega arith) in
          auxiliary_cost_zero P (own_of (kept_of P) (put_at basis q f) j) (not_auxiliary j jl) (omega arith);
      spanned = (start_along (auxiliary_of P) (auxiliary_tagged P) P.m (omega arith)).spanned;
    };
    positive =
        let e : auxiliary_row P P.m (own_of (kept_of P) (put_at basis q f) P.m) ≡ pos 1 =
        ap (auxiliary_row P P.m) last_beside ∙ auxiliary_cost_objective P in
        omega (arith, ints);
  }

  pub own_last : own_of (kept_of P) basis P.m ≡ suc (P.n + P.m)
  own_last = own_high (kept_of P) basis P.m (omega arith)

  -- any row of position m, cleared of the auxiliary column, is the auxiliary objective's
  pub cost_cleared : (new : ℕ → ℤ)
      → IsClearedBy (suc (suc (suc (P.n + P.m)))) (P.n + P.m) (auxiliary_row P P.m) (rows q) new
      → IsMultipleRow (auxiliary_of P) (own_of (kept_of P) basis) P.m new
  cost_cleared new c =
      let ql : q < P.m = s.inside in
      cleared_row (auxiliary_of P) (own_of (kept_of P) (put_at basis q f)) (own_of (kept_of P) basis)
      (auxiliary_row P P.m) (rows q) new q (P.n + P.m) P.m (tags_in (auxiliary_of P) (auxiliary_tagged P)) bound
      own_at own_other (omega arith) (omega arith)
      cost_beside
      (to_auxiliary (own_of (kept_of P) (put_at basis q f)) q (rows q) last_beside ql
      (row_in q (omega arith))).along c

  -- the rows of the other positions, the kept one too
  pub other_cleared : (i : ℕ) (new : ℕ → ℤ) → i ≤ P.m → i ≢ q
      → IsClearedBy (suc (suc (suc (P.n + P.m)))) (P.n + P.m) (rows i) (rows q) new
      → IsMultipleRow (kept_of P) (own_of (kept_of P) basis) i new
  other_cleared i new il d c =
      let ql : q < P.m = s.inside in
      cleared_row (kept_of P) (own_of (kept_of P) (put_at basis q f)) (own_of (kept_of P) basis) (rows i) (rows q) new q
      (P.n + P.m) i (tags_in (kept_of P) (kept_tagged P)) bound own_at own_other il d (row_in i il)
      (row_in q (omega arith)).along c

  -- row q negated
  pub negated_is : (new : ℕ → ℤ) → IsParallel (suc (suc (suc (P.n + P.m)))) new (λ k. neg_ℤ (rows q k))
      → IsMultipleRow (kept_of P) (own_of (kept_of P) basis) q new
  negated_is new h =
      let ql : q < P.m = s.inside in
      let n : rows q (P.n + P.m) <ℤ pos 0 = s.below in
      let m : IsMultipleRow (kept_of P) (own_of (kept_of P) basis) q (λ k. neg_ℤ (rows q k)) =
      pivot_row (kept_of P) (own_of (kept_of P) (put_at basis q f)) (own_of (kept_of P) basis) (λ k. neg_ℤ (rows q k)) q
      (P.n + P.m) own_at own_other
      (neg_along (kept_of P) (own_of (kept_of P) (put_at basis q f)) q (rows q) (row_in q (omega arith)).along)
      (omega (arith, ints)) in
      multiple_parallel (kept_of P) (own_of (kept_of P) basis) q (λ k. neg_ℤ (rows q k)) new
      (tags_in (kept_of P) (kept_tagged P)) bound_at (omega arith)
      (parallel_sym (suc (suc (suc (P.n + P.m)))) new (λ k. neg_ℤ (rows q k)) h) m
    where
      bound_at : (j : ℕ) → j ≤ P.m → own_of (kept_of P) basis j ≤ suc (suc (P.n + P.m))
      bound_at j l = elim (cases_eq j q) [
        | inl c ↦ let e : own_of (kept_of P) basis j ≡ P.n + P.m =
            ap (own_of (kept_of P) basis) c ∙ own_at in omega arith
        | inr d ↦ subst (λ v. v ≤ suc (suc (P.n + P.m))) (sym (own_other j d)) (bound j l)
      ]

  pub own_inside : (i : ℕ) → i < P.m → own_of (kept_of P) basis i < suc (P.n + P.m)
  own_inside i l = elim (cases_eq i q) [
    | inl c ↦ let e : own_of (kept_of P) basis i ≡ P.n + P.m = ap (own_of (kept_of P) basis) c ∙ own_at in omega arith
    | inr d ↦ subst (λ v. v < suc (P.n + P.m)) (sym (own_other i d)) (s.multiples.inside i l)
  ]

  -- rows of the auxiliary form, from any such pivot: the way back to the explicit form
  pub back : (new : ℕ → ℕ → ℤ) → IsParallel (suc (suc (suc (P.n + P.m)))) (new q) (λ k. neg_ℤ (rows q k))
      → ((i : ℕ) → i < P.m → i ≢ q → IsClearedBy (suc (suc (suc (P.n + P.m)))) (P.n + P.m) (rows i) (rows q) (new i))
      → IsClearedBy (suc (suc (suc (P.n + P.m)))) (P.n + P.m) (auxiliary_row P P.m) (rows q) (new P.m)
      → HasMultipleRows (auxiliary_of P) (own_of (auxiliary_of P) basis) new
  back new at others cost = record {
    inside = own_inside;
    last = own_last;
    rows_of = λ i il. elim (cases_eq i P.m) [
      | inl c ↦ subst (λ v. IsMultipleRow (auxiliary_of P) (own_of (kept_of P) basis) v (new v)) (sym c)
          (cost_cleared (new P.m) cost)
      | inr c ↦ to_auxiliary (own_of (kept_of P) basis) i (new i) own_last (omega arith) (elim (cases_eq i q) [
        | inl g ↦ subst (λ v. IsMultipleRow (kept_of P) (own_of (kept_of P) basis) v (new v))
            (sym g) (negated_is (new q) at)
        | inr d ↦ other_cleared i (new i) il d (others i (omega arith) d)
      ])
    ];
  }

  -- ---- those without a division
  pub objective_cleared : IsClearedBy (suc (suc (suc (P.n + P.m)))) (P.n + P.m) (auxiliary_row P P.m) (rows q)
      (beside_objective P (rows q))
  objective_cleared =
      let ql : q < P.m = s.inside in
      let n : rows q (P.n + P.m) <ℤ pos 0 = s.below in
      record {
        divisor = pos 1;
        p = neg_ℤ (rows q (P.n + P.m));
        q = negsuc 0;
        divides = omega (arith, ints);
        positive = omega (arith, ints);
        entries = λ k kl.
            elim (cases_eq k (P.n + P.m)) [
              | inl c ↦
                  let a : auxiliary_row P P.m k ≡ pos 1 = ap (auxiliary_row P P.m) c ∙ auxiliary_cost_entry P in
                  let b : beside_objective P (rows q) k ≡ pos 0 =
                  ap (beside_objective P (rows q)) c ∙ objective_column P (rows q) in
                  let x : rows q k ≡ rows q (P.n + P.m) = ap (rows q) c in
                  let y : neg_ℤ (rows q (P.n + P.m)) *ℤ auxiliary_row P P.m k ≡ neg_ℤ (rows q (P.n + P.m)) =
                  ap (λ v. neg_ℤ (rows q (P.n + P.m)) *ℤ v) a ∙ mul-one (neg_ℤ (rows q (P.n + P.m))) in
                  omega (arith, ints)
              | inr d ↦ elim (cases_eq k (suc (P.n + P.m))) [
                | inl c ↦
                    let a : auxiliary_row P P.m k ≡ pos 1 = ap (auxiliary_row P P.m) c ∙ auxiliary_cost_objective P in
                    let b : beside_objective P (rows q) k ≡ neg_ℤ (rows q (P.n + P.m)) =
                    ap (beside_objective P (rows q)) c ∙ objective_at P (rows q) in
                    let z : rows q (own_of (kept_of P) (put_at basis q f) P.m) ≡ pos 0 =
                    (row_in q (omega arith)).zeros P.m (omega arith) (omega arith) in
                    let x : rows q k ≡ rows q (own_of (kept_of P) (put_at basis q f) P.m) =
                    ap (rows q) (c ∙ sym last_beside) in
                    let y : neg_ℤ (rows q (P.n + P.m)) *ℤ auxiliary_row P P.m k ≡ neg_ℤ (rows q (P.n + P.m)) =
                    ap (λ v. neg_ℤ (rows q (P.n + P.m)) *ℤ v) a ∙ mul-one (neg_ℤ (rows q (P.n + P.m))) in
                    omega (arith, ints)
                | inr e ↦
                    let a : neg_ℤ (rows q (P.n + P.m)) *ℤ auxiliary_row P P.m k ≡ pos 0 =
                    ap (λ v. neg_ℤ (rows q (P.n + P.m)) *ℤ v) (auxiliary_cost_zero P k d e)
                    ∙ mul-zero (neg_ℤ (rows q (P.n + P.m))) in
                    let b : beside_objective P (rows q) k ≡ rows q k = objective_other P (rows q) k d e in
                    omega (arith, ints)
              ]
            ];
        cleared = objective_column P (rows q);
      }

  back_cleared : (i : ℕ) → IsClearedBy (suc (suc (suc (P.n + P.m)))) (P.n + P.m) (rows i) (rows q) (back_row P q rows i)
  back_cleared i =
      let n : rows q (P.n + P.m) <ℤ pos 0 = s.below in
      record {
        divisor = pos 1;
        p = neg_ℤ (rows q (P.n + P.m));
        q = neg_ℤ (rows i (P.n + P.m));
        divides = omega (arith, ints);
        positive = omega (arith, ints);
        entries = λ k kl. simp ring;
        cleared = simp ring (omega (arith, ints));
      }

  pub back_multiples : HasMultipleRows (auxiliary_of P) (own_of (auxiliary_of P) basis) (back_rows P q rows)
  back_multiples =
      back (back_rows P q rows)
      (subst (λ r. IsParallel (suc (suc (suc (P.n + P.m)))) r (λ k. neg_ℤ (rows q k))) (sym (back_at P q rows))
      (parallel_refl (suc (suc (suc (P.n + P.m)))) (λ k. neg_ℤ (rows q k))))
      (λ i l d. subst (λ r. IsClearedBy (suc (suc (suc (P.n + P.m)))) (P.n + P.m) (rows i) (rows q) r)
      (sym (back_other P q rows i l d)) (back_cleared i))
      (subst (λ r. IsClearedBy (suc (suc (suc (P.n + P.m)))) (P.n + P.m) (auxiliary_row P P.m) (rows q) r)
      (sym (back_last P q rows s.inside)) objective_cleared)
