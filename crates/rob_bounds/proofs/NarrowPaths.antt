-- Where the bound is at most the limit, no row on the path is wide.
use Rattle.std.proofs.Common.{◌≡◌, ℕ, suc, ◌+◌, ◌*◌, ◌^◌, ◌<◌, ◌≤◌, ◌⊎◌, sym, subst, arith, inl, inr}
use Rattle.std.proofs.Math.Nat.{pow-succ'}
use Rattle.std.specs.Int.RustNames.{unsigned_abs}
use lib.IntN.{ℤ, ◌*ℤ◌}
use Rattle.rob_linear.specs.Systems.{System, right, IsTagged, IsSpanned, IsBasis, with_objective}
use Rattle.rob_linear.specs.Programs.{Program, system_of, auxiliary_row, auxiliary_of, kept_of}
use Rattle.rob_linear.specs.Turns.{own_of, StandsWith}
use Rattle.rob_linear.specs.Stages.{truncated, IsStage, IsHalfStage}
use Rattle.rob_linear.specs.Paths.{HasAuxiliary, Reached, IsFeasibleBasis}
use Rattle.rob_linear.specs.WideRows.{HasWideEntry, IsWideIn, IsWideStage, IsWideAt, HasWideRow, HasWideRowFrom}
use Rattle.rob_linear.proofs.BasisPaths.Starts.{system_tagged, auxiliary_tagged}
use Rattle.rob_linear.proofs.BasisPaths.Costs.{with_objective_at}
use Rattle.rob_linear.proofs.BasisPaths.TwoPhases.{InFirst, kept_tagged, kept_basis, turned_standing}
use Rattle.rob_linear.proofs.CostChange.Stages.{stage_basis, half_entry, half_spanned}
use Rattle.rob_linear.proofs.BasisPaths.Paths.{path_stands}
use Rattle.rob_linear.proofs.BasisPaths.Extensions.{extended, kept_extended, auxiliary_extended}
use Rattle.rob_linear.proofs.CostChange.WideRows.{wide_in_rows, wide_position, no_wide_stage, own_wide}
use Rattle.rob_bounds.specs.Bounds.{IsOfSize, StartsWithin, IsNarrow, row_bound}
use Rattle.rob_bounds.proofs.Sizes.{size-mul, size-sum, size-factor}
use Rattle.rob_bounds.proofs.RowBounds.{row_within, objective_amount}
use Rattle.rob_bounds.proofs.StartSizes.{system_sized, auxiliary_sized, kept_sized, truncated_sized}

-- a row that takes each starting row at most h times
spanned_within : (S : System) (a h : ℕ) (r : ℕ → ℤ) → StartsWithin a S → IsSpanned S r
    → ((t : ℕ) → t ≤ S.m → unsigned_abs (r (S.tag t)) ≤ h) → (k : ℕ) → k ≤ right S
    → unsigned_abs (r k) ≤ suc S.m * (h * a)
spanned_within S a h r within span few k kl =
    subst (λ v. unsigned_abs v ≤ suc S.m * (h * a)) (sym (span k kl))
    (size-sum (suc S.m) (h * a) (λ t. r (S.tag t) *ℤ S.start t k)
    (λ t tl. size-mul (r (S.tag t)) (S.start t k) h a (few t (omega arith)) (within t k (omega arith) kl)))

bound_is : (m a : ℕ) → suc m * ((suc m * a) ^ m * a) ≡ row_bound m a
bound_is m a = let e : (suc m * a) ^ suc m ≡ (suc m * a) * (suc m * a) ^ m = pow-succ' (suc m * a) m in omega arith

-- ---- stages
module _ (a : ℕ) (P : Program) (some : 0 < a) (h : IsOfSize a P) (own : ℕ → ℕ) (rows : ℕ → ℕ → ℤ)
    (b : IsBasis (system_of P) own rows) where
  staged : (j : ℕ) (r : ℕ → ℤ) → IsStage P own j r → IsBasis (system_of (truncated P j)) own (with_objective P.m rows r)
  staged j r s = stage_basis P own rows P.c j r b s

  pub stage_within : (j : ℕ) (r : ℕ → ℤ) → IsStage P own j r → (k : ℕ) → k ≤ suc (P.n + P.m)
      → unsigned_abs (r k) ≤ row_bound P.m a
  stage_within j r s k kl =
      subst (λ f. unsigned_abs (f k) ≤ row_bound P.m a) (with_objective_at P.m rows r)
      (row_within (system_of (truncated P j)) own (with_objective P.m rows r) a (system_tagged (truncated P j))
      (staged j r s) some (system_sized a (truncated P j) some (truncated_sized a P some h j)) P.m (omega arith) k
      kl)

  stage_amount : (j : ℕ) (r : ℕ → ℤ) → IsStage P own j r → (t : ℕ) → t ≤ P.m
      → unsigned_abs (r (P.n + t)) ≤ (suc P.m * a) ^ P.m
  stage_amount j r s t tl =
      subst (λ f. unsigned_abs (f (P.n + t)) ≤ (suc P.m * a) ^ P.m) (with_objective_at P.m rows r)
      (objective_amount (system_of (truncated P j)) own (with_objective P.m rows r) a (system_tagged (truncated P j))
      (staged j r s) some (system_sized a (truncated P j) some (truncated_sized a P some h j)) t tl)

  -- a stage between takes no starting row more often than the stage before
  pub half_within : (j : ℕ) (r : ℕ → ℤ) → j < P.n → IsHalfStage P own j r → (k : ℕ) → k ≤ suc (P.n + P.m)
      → unsigned_abs (r k) ≤ row_bound P.m a
  half_within j r jl s k kl =
      let few : (t : ℕ) → t ≤ P.m → unsigned_abs (r (P.n + t)) ≤ (suc P.m * a) ^ P.m =
      (λ t tl.
      let x : unsigned_abs (r (P.n + t)) ≤ unsigned_abs (s.stage (P.n + t)) =
      size-factor s.put_in.divisor (r (P.n + t)) (s.stage (P.n + t)) s.put_in.positive
      (half_entry P own j r s (P.n + t) (omega arith) (omega arith)) in
      let y : unsigned_abs (s.stage (P.n + t)) ≤ (suc P.m * a) ^ P.m = stage_amount j s.stage s.is_stage t tl in
      omega arith) in
      let x : unsigned_abs (r k) ≤ suc P.m * ((suc P.m * a) ^ P.m * a) =
      spanned_within (system_of (truncated P (suc j))) a ((suc P.m * a) ^ P.m) r
      (system_sized a (truncated P (suc j)) some (truncated_sized a P some h (suc j)))
      (half_spanned P own j r jl s) few k kl in
      subst (λ v. unsigned_abs (r k) ≤ v) (bound_is P.m a) x

-- ---- what is wide is over the bound
not_over : (limit bound : ℕ) (S : System) (r : ℕ → ℤ) → bound ≤ limit
    → ((k : ℕ) → k ≤ right S → unsigned_abs (r k) ≤ bound) → ¬ (HasWideEntry limit S r)
not_over limit bound S r l h w =
    let x : unsigned_abs (r w.0) ≤ bound = h w.0 w.1 in
    let y : limit < unsigned_abs (r w.0) = w.2 in
    absurd (omega arith)

narrow_in : (limit a : ℕ) (S : System) (basis : ℕ → ℕ) (rows : ℕ → ℕ → ℤ) (i : ℕ) → 0 < a → row_bound S.m a ≤ limit
    → IsTagged S → StartsWithin a S → IsBasis S (own_of S basis) rows → ¬ (IsWideIn limit S basis i)
narrow_in limit a S basis rows i some l g within b w =
    let il : i ≤ S.m = wide_position limit S basis i w in
    not_over limit (row_bound S.m a) S (rows i) l (row_within S (own_of S basis) rows a g b some within i il)
    (wide_in_rows limit S basis rows i b il w)

module _ (limit a : ℕ) (P : Program) (some : 0 < a) (h : IsOfSize a P) (l : row_bound P.m a ≤ limit)
    (basis : ℕ → ℕ) (i : ℕ) where
  narrow_stage : (rows : ℕ → ℕ → ℤ) → IsBasis (system_of P) (own_of (system_of P) basis) rows
      → ¬ (IsWideStage limit P basis)
  narrow_stage rows b w =
      elim w.3 [
        | inl s ↦ not_over limit (row_bound P.m a) (system_of P) w.1 l
            (stage_within a P some h (own_of (system_of P) basis) rows b w.0 w.1 s) w.4
        | inr s ↦ not_over limit (row_bound P.m a) (system_of P) w.1 l
            (half_within a P some h (own_of (system_of P) basis) rows b w.0 w.1 w.2 s) w.4
      ]

  narrow_first : (rows kept : ℕ → ℕ → ℤ) → IsBasis (auxiliary_of P) (own_of (auxiliary_of P) basis) rows
      → IsBasis (kept_of P) (own_of (kept_of P) basis) kept
      → ¬ (IsWideIn limit (auxiliary_of P) basis i ⊎ IsWideIn limit (kept_of P) basis i)
  narrow_first rows kept b k (inl w) =
      narrow_in limit a (auxiliary_of P) basis rows i some l (auxiliary_tagged P) (auxiliary_sized a P some h) b w
  narrow_first rows kept b k (inr w) =
      narrow_in limit a (kept_of P) basis kept i some l (kept_tagged P) (kept_sized a P some h) k w

  -- at a basis of the program
  narrow_second : (rows : ℕ → ℕ → ℤ) → IsBasis (system_of P) (own_of (system_of P) basis) rows
      → ¬ (IsWideAt limit P basis i)
  narrow_second rows b (inl w) =
      narrow_in limit a (system_of P) basis rows i some l (system_tagged P) (system_sized a P some h) b w
  narrow_second rows b (inr (inl w)) = narrow_stage rows b w.1
  narrow_second rows b (inr (inr w)) =
      narrow_first (with_objective P.m (extended P basis rows b) (auxiliary_row P P.m)) (extended P basis rows b)
      (auxiliary_extended P basis rows b) (kept_extended P basis rows b) w.1

  -- on the path
  narrow_at : Reached P basis → ¬ (IsWideAt limit P basis i)
  narrow_at r w =
      elim (turned_standing P r.0 basis r.1) [
        | inr f ↦ narrow_second f.1.0 f.1.1.is_basis w
        | inl f ↦ first f w
      ]
    where
      first : HasAuxiliary P basis × InFirst P basis → ¬ (IsWideAt limit P basis i)
      first f (inl w) =
          let x : basis f.0.0 < P.n + P.m = w.1 f.0.0 f.0.1 in
          let e : P.n + P.m ≡ basis f.0.0 = f.0.2 in
          absurd (omega arith)
      first f (inr (inl w)) = no_wide_stage limit P basis f.0 w.1
      first f (inr (inr w)) =
          narrow_first f.1.rows (with_objective P.m f.1.rows f.1.kept) f.1.stands.is_basis
          (kept_basis P (own_of (kept_of P) basis) f.1.rows f.1.kept f.1.stands.is_basis f.1.kept_row_of) w.1

  narrow_row : ¬ (HasWideRow limit P basis i)
  narrow_row w = narrow_at w.reached w.wide

  narrow_row_from : (start : ℕ → ℕ) → ¬ (HasWideRowFrom limit P start basis i)
  narrow_row_from start w =
      let f : IsFeasibleBasis P start = w.reached.feasible in
      let x : (rows' : ℕ → ℕ → ℤ) × StandsWith (system_of P) basis rows' =
      path_stands (system_of P) start f.rows w.reached.turns basis (system_tagged P) f.stands w.reached.turned in
      narrow_second x.0 x.1.is_basis (own_wide limit P basis i w.wide)

pub narrow_path : (limit : ℕ) (P : Program) → IsNarrow limit P → (basis : ℕ → ℕ) (i : ℕ)
    → ¬ (HasWideRow limit P basis i)
narrow_path limit P n basis i = narrow_row limit n.size P n.positive n.sized n.bound basis i

pub narrow_path_from : (limit : ℕ) (P : Program) → IsNarrow limit P → (start basis : ℕ → ℕ) (i : ℕ)
    → ¬ (HasWideRowFrom limit P start basis i)
narrow_path_from limit P n start basis i = narrow_row_from limit n.size P n.positive n.sized n.bound basis i start
