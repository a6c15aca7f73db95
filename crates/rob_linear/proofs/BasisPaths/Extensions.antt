-- Back from the program to the auxiliary form: each basis of the program is one
-- of the auxiliary form, with either objective.
use Rattle.std.proofs.Common.{◌≡◌, ℕ, suc, ◌+◌, ◌<◌, ◌≤◌, sym, ap, ◌∙◌, subst, arith, inl, inr}
use Rattle.std.proofs.lemmas.Bool.{cases_eq}
use Rattle.std.specs.Int.RustNames.{unsigned_abs}
use Rattle.std.specs.Int.{◌∣◌}
use lib.IntN.{ℤ, pos, ◌*ℤ◌}
use lib.Signed.{◌<ℤ◌}
use Rattle.std.proofs.lemmas.Int.{ints}
use Rattle.rob_algebra.specs.Integer.{mul-zero, mul-one}
use Rattle.rob_linear.specs.Vectors.{sum_to}
use Rattle.rob_linear.specs.Systems.{System, with_objective, IsSpanned, IsTagged, RowOf, IsBasis}
use Rattle.rob_linear.specs.Programs.{Program, starting_row, system_of, auxiliary_row, auxiliary_of, auxiliary_place, kept_row, kept_of}
use Rattle.rob_linear.specs.Turns.{own_of}
use Rattle.rob_linear.proofs.LinearPrograms.Sums.{sum_ext, sum_one}
use Rattle.rob_linear.proofs.Bases.Solutions.{start_along, start_primitive}
use Rattle.rob_linear.proofs.LinearPrograms.Programs.{auxiliary_cost_zero, auxiliary_cost_objective}
use Rattle.rob_linear.proofs.BasisPaths.Starts.{auxiliary_tagged}
use Rattle.rob_linear.proofs.BasisPaths.Costs.{basis_restarted}
use Rattle.rob_linear.proofs.Bases.Turns.{own_low, own_high}
use Rattle.rob_linear.proofs.BasisPaths.Phases.{place_low, place_high, row_placed, place_in}
use Rattle.rob_linear.proofs.BasisPaths.TwoPhases.{kept_tagged, kept_is}

-- ---- sums of starting rows

-- the starting rows, each taken as often as w says
abbrev pub sum_of_rows : System → (ℕ → ℤ) → ℕ → ℤ
sum_of_rows S w k = sum_to (suc S.m) (λ t. w t *ℤ S.start t k)

pub sum_of_rows-tag : (S : System) (w : ℕ → ℤ) (u : ℕ) → IsTagged S → u ≤ S.m → sum_of_rows S w (S.tag u) ≡ w u
sum_of_rows-tag S w u g l =
    sum_one (suc S.m) u (λ t. w t *ℤ S.start t (S.tag u)) (omega arith)
    (λ t tl d. ap (λ v. w t *ℤ v) (g.zero t u (omega arith) l (λ e. d (sym e))) ∙ mul-zero (w t))
    ∙ ap (λ v. w u *ℤ v) (g.one u l) ∙ mul-one (w u)

pub sum_of_rows_spanned : (S : System) (w : ℕ → ℤ) → IsTagged S → IsSpanned S (sum_of_rows S w)
sum_of_rows_spanned S w g k kl =
    sum_ext (suc S.m) (λ t. w t *ℤ S.start t k) (λ t. sum_of_rows S w (S.tag t) *ℤ S.start t k)
    (λ t tl. ap (λ v. v *ℤ S.start t k) (sym (sum_of_rows-tag S w t g (omega arith))))

-- ---- rows of the program, as rows of the auxiliary form

module _ (P : Program) (basis : ℕ → ℕ) (rows : ℕ → ℕ → ℤ)
    (b : IsBasis (system_of P) (own_of (system_of P) basis) rows) where
  pub extended : ℕ → ℕ → ℤ
  extended i = sum_of_rows (kept_of P) (λ t. rows i (P.n + t))

  -- the old entries stand at their new places
  extended_at : (i k : ℕ) → i ≤ P.m → k ≤ suc (P.n + P.m) → extended i (auxiliary_place P k) ≡ rows i k
  unfolding extended
  extended_at i k il kl =
      sum_ext (suc P.m) (λ t. rows i (P.n + t) *ℤ kept_row P t (auxiliary_place P k))
      (λ t. rows i (P.n + t) *ℤ starting_row P t k)
      (λ t tl. ap (λ v. rows i (P.n + t) *ℤ v) (row_placed P t k (omega arith) kl))
      ∙ sym ((b.rows_of i il).spanned k kl)

  own_placed : (j : ℕ) → j ≤ P.m → (auxiliary_place P (own_of (system_of P) basis j) ≡ own_of (kept_of P) basis j)
      × (own_of (system_of P) basis j ≤ P.n + P.m)
  own_placed j l =
      elim (cases_eq j P.m) [
        | inl e ↦
            let a : own_of (system_of P) basis j ≡ P.n + P.m = own_high (system_of P) basis j (omega arith) in
            let c : own_of (kept_of P) basis j ≡ suc (P.n + P.m) = own_high (kept_of P) basis j (omega arith) in
            (ap (auxiliary_place P) a ∙ place_high P (P.n + P.m) (omega arith) ∙ sym c, omega arith)
        | inr d ↦
            let a : own_of (system_of P) basis j < P.n + P.m = b.inside j (omega arith) in (
              place_low P (own_of (system_of P) basis j) a ∙ own_low (system_of P) basis j (omega arith)
                  ∙ sym (own_low (kept_of P) basis j (omega arith)),
              omega arith,
            )
      ]

  extended_own : (i j : ℕ) → i ≤ P.m → j ≤ P.m
      → extended i (own_of (kept_of P) basis j) ≡ rows i (own_of (system_of P) basis j)
  extended_own i j il jl = let l : own_of (system_of P) basis j ≤ P.n + P.m = (own_placed j jl).1 in
      ap (extended i) (sym (own_placed j jl).0) ∙ extended_at i (own_of (system_of P) basis j) il (omega arith)

  pub kept_extended : IsBasis (kept_of P) (own_of (kept_of P) basis) extended
  unfolding extended
  kept_extended = record {
    inside = λ j l.
        let a : own_of (system_of P) basis j < P.n + P.m = b.inside j l in
        let c : own_of (system_of P) basis j ≡ own_of (kept_of P) basis j =
        own_low (system_of P) basis j l ∙ sym (own_low (kept_of P) basis j l) in
        omega arith;
    last = own_high (kept_of P) basis P.m (omega arith);
    rows_of = λ i il. record {
      along = record {
        zeros = λ j jl d. extended_own i j il jl ∙ (b.rows_of i il).zeros j jl d;
        spanned = sum_of_rows_spanned (kept_of P) (λ t. rows i (P.n + t)) (kept_tagged P);
      };
      positive = subst (λ v. pos 0 <ℤ v) (sym (extended_own i i il il)) (b.rows_of i il).positive;
      primitive =
          λ d h. (b.rows_of i il).primitive d (λ k kl. let p : auxiliary_place P k ≤ suc (suc (P.n + P.m)) =
          place_in P k (omega arith) in
          subst (λ v. d ∣ unsigned_abs v) (extended_at i k il (omega arith)) (h (auxiliary_place P k) (omega arith)));
    };
  }

  -- the auxiliary column isn't basic, so the objective's row of the auxiliary form is its starting row
  first_cost : RowOf (auxiliary_of P) (own_of (auxiliary_of P) basis) P.m (auxiliary_row P P.m)
  first_cost = record {
    along = record {
      zeros = λ j jl d.
          let a : own_of (system_of P) basis j < P.n + P.m = b.inside j (omega arith) in
          let c : own_of (system_of P) basis j ≡ own_of (auxiliary_of P) basis j =
          own_low (system_of P) basis j (omega arith) ∙ sym (own_low (auxiliary_of P) basis j (omega arith)) in
          auxiliary_cost_zero P (own_of (auxiliary_of P) basis j) (omega arith) (omega arith);
      spanned = (start_along (auxiliary_of P) (auxiliary_tagged P) P.m (omega arith)).spanned;
    };
    positive = subst (λ v. pos 0 <ℤ auxiliary_row P P.m v) (sym (own_high (auxiliary_of P) basis P.m (omega arith)))
        (subst (λ v. pos 0 <ℤ v) (sym (auxiliary_cost_objective P)) (omega (arith, ints)));
    primitive = start_primitive (auxiliary_of P) (auxiliary_tagged P) P.m (omega arith);
  }

  pub auxiliary_extended : IsBasis (auxiliary_of P) (own_of (auxiliary_of P) basis)
      (with_objective P.m extended (auxiliary_row P P.m))
  auxiliary_extended =
      basis_restarted (kept_of P) (auxiliary_row P) (own_of (kept_of P) basis) extended (auxiliary_row P P.m)
      (kept_tagged P).last (λ t k tl kl. kept_is P t k tl) kept_extended first_cost

-- each basis of the program has rows in the auxiliary form, and a kept row
pub auxiliary_rows_exist : (P : Program) (basis : ℕ → ℕ) (rows : ℕ → ℕ → ℤ)
    → IsBasis (system_of P) (own_of (system_of P) basis) rows → (auxiliary : ℕ → ℕ → ℤ) × (kept : ℕ → ℤ)
    × IsBasis (auxiliary_of P) (own_of (auxiliary_of P) basis) auxiliary
    × RowOf (kept_of P) (own_of (kept_of P) basis) P.m kept
auxiliary_rows_exist P basis rows b = (
  with_objective P.m (extended P basis rows b) (auxiliary_row P P.m),
  extended P basis rows b P.m,
  auxiliary_extended P basis rows b,
  (kept_extended P basis rows b).rows_of P.m (omega arith),
)
