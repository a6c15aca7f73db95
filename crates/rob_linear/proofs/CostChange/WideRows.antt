-- The row of a position is one, so it is wide or it is not. What is wide on the path is a row at hand.
use Rattle.std.proofs.Common.{◌≡◌, ℕ, ◌+◌, ◌<◌, ◌≤◌, ◌⊎◌, sym, ap, ◌∙◌, subst, arith, inl, inr}
use Rattle.std.proofs.lemmas.Int.{ints}
use Rattle.std.proofs.lemmas.Bool.{cases_eq, cases_lt}
use Rattle.std.specs.Int.RustNames.{unsigned_abs}
use lib.IntN.{ℤ, pos}
use lib.Signed.{◌<ℤ◌}
use Rattle.rob_linear.specs.Systems.{System, RowOf, IsBasis, with_objective}
use Rattle.rob_linear.specs.Programs.{Program, with_cost, system_of, auxiliary_of, kept_of}
use Rattle.rob_linear.specs.Turns.{own_of, IsExchange}
use Rattle.rob_linear.specs.Paths.{HasAuxiliary, Reached}
use Rattle.rob_linear.specs.Stages.{cost_before}
use Rattle.rob_linear.specs.WideRows.{HasWideEntry, IsInside, IsWideIn, IsWideStage, NeedsAuxiliary, IsWideAt, HasWideRow, IsOwnWideAt, HasWideRowFrom}
use Rattle.rob_linear.proofs.Bases.Unique.{row_equal}
use Rattle.rob_linear.proofs.BasisPaths.Costs.{with_objective_low, with_objective_at}
use Rattle.rob_linear.proofs.Bases.Turns.{own_low, own_high}
use Rattle.rob_linear.proofs.BasisPaths.TwoPhases.{kept_basis, turned_standing}
use Rattle.rob_linear.proofs.BasisPaths.Extensions.{auxiliary_rows_exist}
use Rattle.rob_linear.proofs.CostChange.OtherCosts.{reached_on}

-- ---- the columns of a basis
pub listed_inside : (S : System) (basis : ℕ → ℕ) → ((j : ℕ) → j < S.m → own_of S basis j < S.columns) → IsInside S basis
listed_inside S basis h j l = subst (λ v. v < S.columns) (own_low S basis j l) (h j l)

pub basis_inside : (S : System) (basis : ℕ → ℕ) (rows : ℕ → ℕ → ℤ) → IsBasis S (own_of S basis) rows → IsInside S basis
basis_inside S basis rows b = listed_inside S basis b.inside

-- after an exchange
pub exchange_inside : (S : System) (own basis : ℕ → ℕ) (rows : ℕ → ℕ → ℤ) (e col : ℕ)
    → ((j : ℕ) → j < S.m → own j < S.columns) → IsExchange S own (own_of S basis) rows e col → IsInside S basis
exchange_inside S own basis rows e col h v j l =
    elim (cases_eq j e) [
      | inl c ↦ subst (λ t. t < S.columns) (sym v.own_at ∙ ap (own_of S basis) (sym c) ∙ own_low S basis j l) v.col_in
      | inr d ↦ subst (λ t. t < S.columns) (sym (v.own_other j d) ∙ own_low S basis j l) (h j l)
    ]

-- ---- one row
pub wide_in_rows : (limit : ℕ) (S : System) (basis : ℕ → ℕ) (rows : ℕ → ℕ → ℤ) (i : ℕ) → IsBasis S (own_of S basis) rows
    → i ≤ S.m → IsWideIn limit S basis i → HasWideEntry limit S (rows i)
wide_in_rows limit S basis rows i b il w = (
  w.3.0,
  w.3.1,
  subst (λ v. limit < unsigned_abs v) (sym (row_equal S (own_of S basis) rows i w.0 b il w.2 w.3.0 w.3.1)) w.3.2,
)

pub rows_wide_in : (limit : ℕ) (S : System) (basis : ℕ → ℕ) (rows : ℕ → ℕ → ℤ) (i : ℕ) → IsBasis S (own_of S basis) rows
    → i ≤ S.m → HasWideEntry limit S (rows i) → IsWideIn limit S basis i
rows_wide_in limit S basis rows i b il h = (rows i, basis_inside S basis rows b, b.rows_of i il, h)

-- a wide row of the program's own is a wide row, of whatever form
pub own_wide : (limit : ℕ) (P : Program) (basis : ℕ → ℕ) (i : ℕ) → IsOwnWideAt limit P basis i
    → IsWideAt limit P basis i
own_wide limit P basis i (inl w) = inl w
own_wide limit P basis i (inr w) = inr (inl w)

-- a wide row on the path from a basis where a cost of zeros has ended is one on the program's own path
pub wide_from : (limit : ℕ) (P : Program) (d : ℕ → ℤ) (start basis : ℕ → ℕ) (i : ℕ) → ((j : ℕ) → j < P.n → d j ≡ pos 0)
    → Reached (with_cost P d) start → ¬ (HasAuxiliary P start) → HasWideRowFrom limit P start basis i
    → HasWideRow limit P basis i
wide_from limit P d start basis i h r no_aux w = record {
  reached = reached_on P d start basis h r no_aux w.reached;
  wide = own_wide limit P basis i w.wide;
}

-- ---- rows at hand

-- positions end at the objective's
pub row_position : (S : System) (basis : ℕ → ℕ) (i : ℕ) (r : ℕ → ℤ) → RowOf S (own_of S basis) i r → i ≤ S.m
row_position S basis i r h =
    elim (cases_lt S.m i) [
      | inr l ↦ omega arith
      | inl l ↦
          let z : r (own_of S basis S.m) ≡ pos 0 = h.zeros S.m (omega arith) (omega arith) in
          let e : own_of S basis i ≡ own_of S basis S.m =
          own_high S basis i (omega arith) ∙ sym (own_high S basis S.m (omega arith)) in
          let p : pos 0 <ℤ r (own_of S basis i) = h.positive in
          let f : r (own_of S basis i) ≡ r (own_of S basis S.m) = ap r e in
          absurd (omega (arith, ints))
    ]

pub wide_position : (limit : ℕ) (S : System) (basis : ℕ → ℕ) (i : ℕ) → IsWideIn limit S basis i → i ≤ S.m
wide_position limit S basis i w = row_position S basis i w.0 w.2

-- where the auxiliary column is basic the objective's position has no row in the program's own columns, and so no stage
no_objective : (P : Program) (c : ℕ → ℤ) (basis : ℕ → ℕ) (r : ℕ → ℤ) → HasAuxiliary P basis
    → ¬ (RowOf (system_of (with_cost P c)) (own_of (system_of P) basis) P.m r)
no_objective P c basis r a h =
    let l : a.0 < P.m = a.1 in
    let z : r (own_of (system_of P) basis a.0) ≡ pos 0 = h.zeros a.0 (omega arith) (omega arith) in
    let o : own_of (system_of P) basis a.0 ≡ own_of (system_of P) basis P.m =
    own_low (system_of P) basis a.0 a.1 ∙ sym a.2 ∙ sym (own_high (system_of P) basis P.m (omega arith)) in
    let p : pos 0 <ℤ r (own_of (system_of P) basis P.m) = h.positive in
    let f : r (own_of (system_of P) basis a.0) ≡ r (own_of (system_of P) basis P.m) = ap r o in
    absurd (omega (arith, ints))

pub no_wide_stage : (limit : ℕ) (P : Program) (basis : ℕ → ℕ) → HasAuxiliary P basis → ¬ (IsWideStage limit P basis)
no_wide_stage limit P basis a w =
    elim w.3 [
      | inl s ↦ no_objective P (cost_before P w.0) basis w.1 a s
      | inr s ↦ no_objective P (cost_before P w.0) basis s.stage a s.is_stage
    ]

-- a wide row of the form with the kept cost
wide_in_kept : (limit : ℕ) (P : Program) (basis : ℕ → ℕ) (rows : ℕ → ℕ → ℤ) (kept : ℕ → ℤ) (i : ℕ)
    → IsBasis (auxiliary_of P) (own_of (auxiliary_of P) basis) rows
    → RowOf (kept_of P) (own_of (kept_of P) basis) P.m kept
    → IsWideIn limit (kept_of P) basis i → HasWideEntry limit (auxiliary_of P) (rows i)
    ⊎ ((i ≡ P.m) × HasWideEntry limit (kept_of P) kept)
wide_in_kept limit P basis rows kept i b k w =
    let il : i ≤ P.m = wide_position limit (kept_of P) basis i w in
    let x : HasWideEntry limit (kept_of P) (with_objective P.m rows kept i) =
    wide_in_rows limit (kept_of P) basis (with_objective P.m rows kept) i
    (kept_basis P (own_of (kept_of P) basis) rows kept b k) il w in
    elim (cases_eq i P.m) [
      | inl e ↦ inr (
        e,
        subst (λ r. HasWideEntry limit (kept_of P) r)
            (ap (with_objective P.m rows kept) e ∙ with_objective_at P.m rows kept) x,
      )
      | inr d ↦ inl (subst (λ r. HasWideEntry limit (kept_of P) r) (with_objective_low P.m rows kept i (omega arith)) x)
    ]

-- a wide row of the auxiliary form, or the kept row of the cost
auxiliary_at_hand : (limit : ℕ) (P : Program) (basis : ℕ → ℕ) (rows : ℕ → ℕ → ℤ) (kept : ℕ → ℤ) (i : ℕ)
    → IsBasis (auxiliary_of P) (own_of (auxiliary_of P) basis) rows
    → RowOf (kept_of P) (own_of (kept_of P) basis) P.m kept
    → IsWideIn limit (auxiliary_of P) basis i ⊎ IsWideIn limit (kept_of P) basis i
    → HasWideEntry limit (auxiliary_of P) (rows i) ⊎ ((i ≡ P.m) × HasWideEntry limit (kept_of P) kept)
auxiliary_at_hand limit P basis rows kept i b k (inl v) =
    inl (wide_in_rows limit (auxiliary_of P) basis rows i b (wide_position limit (auxiliary_of P) basis i v) v)
auxiliary_at_hand limit P basis rows kept i b k (inr v) = wide_in_kept limit P basis rows kept i b k v

-- where the auxiliary column is basic, nothing else is wide
pub first_at_hand : (limit : ℕ) (P : Program) (basis : ℕ → ℕ) (rows : ℕ → ℕ → ℤ) (kept : ℕ → ℤ) (i : ℕ)
    → HasAuxiliary P basis → IsBasis (auxiliary_of P) (own_of (auxiliary_of P) basis) rows
    → RowOf (kept_of P) (own_of (kept_of P) basis) P.m kept
    → IsWideAt limit P basis i → HasWideEntry limit (auxiliary_of P) (rows i)
    ⊎ ((i ≡ P.m) × HasWideEntry limit (kept_of P) kept)
first_at_hand limit P basis rows kept i a b k (inl w) =
    let l : basis a.0 < P.n + P.m = w.1 a.0 a.1 in
    let e : P.n + P.m ≡ basis a.0 = a.2 in
    absurd (omega arith)
first_at_hand limit P basis rows kept i a b k (inr (inl w)) = absurd (no_wide_stage limit P basis a w.1)
first_at_hand limit P basis rows kept i a b k (inr (inr w)) = auxiliary_at_hand limit P basis rows kept i b k w.1

-- where it isn't, the program's own row or a stage; and those of the auxiliary form, where that was needed
pub second_at_hand : (limit : ℕ) (P : Program) (basis : ℕ → ℕ) (rows auxiliary : ℕ → ℕ → ℤ) (kept : ℕ → ℤ) (i : ℕ)
    → IsBasis (system_of P) (own_of (system_of P) basis) rows
    → IsBasis (auxiliary_of P) (own_of (auxiliary_of P) basis) auxiliary
    → RowOf (kept_of P) (own_of (kept_of P) basis) P.m kept
    → IsWideAt limit P basis i
    → HasWideEntry limit (system_of P) (rows i) ⊎ (((i ≡ P.m) × IsWideStage limit P basis)
    ⊎ (NeedsAuxiliary P
    × (HasWideEntry limit (auxiliary_of P) (auxiliary i) ⊎ ((i ≡ P.m) × HasWideEntry limit (kept_of P) kept))))
second_at_hand limit P basis rows auxiliary kept i b x k (inl w) =
    inl (wide_in_rows limit (system_of P) basis rows i b (wide_position limit (system_of P) basis i w) w)
second_at_hand limit P basis rows auxiliary kept i b x k (inr (inl w)) = inr (inl w)
second_at_hand limit P basis rows auxiliary kept i b x k (inr (inr w)) =
    inr (inr (w.0, auxiliary_at_hand limit P basis auxiliary kept i x k w.1))

-- these rows exist at each basis on the path
pub rows_at_hand : (P : Program) (basis : ℕ → ℕ) → Reached P basis
    → (auxiliary : ℕ → ℕ → ℤ) × (kept : ℕ → ℤ) × IsBasis (auxiliary_of P) (own_of (auxiliary_of P) basis) auxiliary
    × RowOf (kept_of P) (own_of (kept_of P) basis) P.m kept
    × (HasAuxiliary P basis ⊎ ((rows : ℕ → ℕ → ℤ) × IsBasis (system_of P) (own_of (system_of P) basis) rows))
rows_at_hand P basis r =
    elim (turned_standing P r.0 basis r.1) [
      | inl f ↦ (f.1.rows, f.1.kept, f.1.stands.is_basis, f.1.kept_row_of, inl f.0)
      | inr f ↦
          let x : (auxiliary : ℕ → ℕ → ℤ) × (kept : ℕ → ℤ)
          × IsBasis (auxiliary_of P) (own_of (auxiliary_of P) basis) auxiliary
          × RowOf (kept_of P) (own_of (kept_of P) basis) P.m kept =
          auxiliary_rows_exist P basis f.1.0 f.1.1.is_basis in
          (x.0, x.1, x.2, x.3, inr (f.1.0, f.1.1.is_basis))
    ]
