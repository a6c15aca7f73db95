-- A new cost put on a dictionary: from the cost 0 to the last stage, and a path from there.
use Rattle.std.proofs.Common.{◌≡◌, ◌≢◌, ℕ, zero, suc, ◌+◌, ◌<◌, ◌≤◌, sym, refl, ap, ◌∙◌, subst, arith, inl, inr, List, length, ◌⊎◌}
use Rattle.std.proofs.lemmas.Bool.{cases_eq, cases_lt}
use Rattle.std.proofs.lemmas.Int.{ints}
use lib.IntN.{ℤ, pos, ◌-ℤ◌, ◌*ℤ◌}
use lib.Signed.{◌<ℤ◌}
use Rattle.rob_algebra.specs.Integer.{*ℤ_comm, zero-mul}
use Rattle.rob_linear.specs.Vectors.{Vector, Matrix, Columns}
use Rattle.rob_linear.specs.Systems.{with_objective}
use Rattle.rob_linear.specs.Programs.{Program, with_cost, system_of, auxiliary_place}
use Rattle.rob_linear.specs.Turns.{own_of}
use Rattle.rob_linear.specs.Stages.{cost_before, truncated, unit_row}
use Rattle.rob_linear.specs.Paths.{IsFeasibleBasis}
use Rattle.rob_linear.specs.WideRows.{IsOwnWideAt, HasWideRowFrom}
use Rattle.rob_linear.specs.Multiples.{IsMultipleRow, HasMultipleRows, StandsMultiple}
use Rattle.rob_linear.specs.MultipleStages.{IsMultipleStage, IsMultipleHalf}
use Rattle.rob_linear.specs.Beside.{without_column}
use Rattle.rob_linear.proofs.BasisPaths.Phases.{place_low, place_high}
use Rattle.rob_linear.proofs.Bases.Solutions.{tags_in}
use Rattle.rob_linear.proofs.CostChange.Stages.{unit_one, unit_zero}
use Rattle.rob_linear.proofs.BasisPaths.Starts.{system_tagged}
use Rattle.rob_linear.proofs.RowForms.MultipleStages.{multiple_first, multiple_last, multiple_next, multiple_cleared, multiple_new_cost}
use Rattle.rob_linear.proofs.BasisPaths.Costs.{with_objective_low, with_objective_at}
use Rattle.rob_linear.proofs.RowForms.Multiples.{multiple_parallel, multiples_in, factors_clear}
use Rattle.rob_simplex.specs.Dictionaries.{Table, positions, width_of, columns_of, spare_column, rows_of}
use Rattle.rob_simplex.specs.Phases.{StandsFor}
use Rattle.rob_simplex.proofs.CostChange.CostStages.{self_le, equal_parallel, next_stands}
use Rattle.rob_simplex.proofs.Turns.PathsFrom.{feasible_of}

-- ---- the objective's row of the cost 0
module _ (P : Program) (c : Vector) (t t' : Table) (h : StandsFor P t) (eb : t'.basis ≡ t.basis)
    (en : t'.columns ≡ t.columns)
    (objective : (k : ℕ) → k < width_of t → rows_of t' (positions t) k ≡ unit_row (suc (t.columns + positions t)) k)
    (rows : (i k : ℕ) → i < positions t → rows_of t' i k ≡ rows_of t i k) where
  em : positions t' ≡ P.m
  em = ap length eb ∙ h.rows_are

  objective_is : (k : ℕ) → k < P.n + P.m + 4 → rows_of t' P.m k ≡ unit_row (suc (P.n + P.m)) k
  objective_is k kl =
      let e : suc (t.columns + positions t) ≡ suc (P.n + P.m) = omega (arith, h.rows_are, h.columns_are) in
      ap (λ i. rows_of t' i k) (sym h.rows_are) ∙ objective k (omega (arith, h.rows_are, h.columns_are))
      ∙ ap (λ v. unit_row v k) e

  unit_there : (k : ℕ) → k < suc (suc (P.n + P.m)) → rows_of t' P.m (auxiliary_place P k) ≡ unit_row (P.n + P.m) k
  unit_there k kl = elim (cases_lt k (P.n + P.m)) [
    | inl l ↦
        ap (rows_of t' P.m) (place_low P k l) ∙ objective_is k (omega arith)
        ∙ unit_zero (suc (P.n + P.m)) k (λ e. absurd (omega arith))
        ∙ sym (unit_zero (P.n + P.m) k (λ e. absurd (omega arith)))
    | inr l ↦
        ap (rows_of t' P.m) (place_high P k l) ∙ objective_is (suc k) (omega arith)
        ∙ elim (cases_eq k (P.n + P.m)) [
          | inl e ↦ ap (λ v. unit_row (suc (P.n + P.m)) (suc v)) e ∙ unit_one (suc (P.n + P.m))
              ∙ sym (ap (unit_row (P.n + P.m)) e ∙ unit_one (P.n + P.m))
          | inr d ↦ unit_zero (suc (P.n + P.m)) (suc k) (λ e. absurd (omega arith)) ∙ sym (unit_zero (P.n + P.m) k d)
        ]
  ]

  first : IsMultipleRow (system_of (truncated (with_cost P c) zero)) (own_of (system_of P) (columns_of t.basis)) P.m
      (without_column P (rows_of t') P.m)
  first =
      multiple_parallel (system_of (truncated (with_cost P c) zero)) (own_of (system_of P) (columns_of t.basis)) P.m
      (unit_row (P.n + P.m)) (without_column P (rows_of t') P.m)
      (tags_in (system_of (truncated (with_cost P c) zero)) (system_tagged (truncated (with_cost P c) zero)))
      (multiples_in (system_of P) (own_of (system_of P) (columns_of t.basis)) (without_column P (rows_of t))
      h.stands.multiples) (self_le P.m)
      (equal_parallel (suc (suc (P.n + P.m))) (unit_row (P.n + P.m)) (without_column P (rows_of t') P.m) unit_there)
      (multiple_first (with_cost P c) (own_of (system_of P) (columns_of t.basis)) (without_column P (rows_of t)) P.c
      h.stands.multiples)

  each : (k : ℕ) → rows_of t' P.m k ≡ pos 0 → ((i : ℕ) → i ≤ P.m → rows_of t i k ≡ pos 0) → (i : ℕ) → i ≤ P.m
      → rows_of t' i k ≡ pos 0
  each k z below i il = elim (cases_lt i P.m) [
    | inl a ↦ rows i k (omega (arith, h.rows_are)) ∙ below i il
    | inr a ↦ let e : i ≡ P.m = omega arith in ap (λ v. rows_of t' v k) e ∙ z
  ]

  spare_is : spare_column t'.columns (positions t') ≡ spare_column t.columns (positions t)
  spare_is = omega (arith, em, en, h.rows_are)

  pub cost_dropped : StandsFor (truncated (with_cost P c) zero) t'
  cost_dropped = record {
    rows_are = em;
    columns_are = en ∙ h.columns_are;
    stands =
        subst (λ (b : List ℕ). StandsMultiple (system_of (truncated (with_cost P c) zero)) (columns_of b)
        (without_column P (rows_of t'))) (sym eb)
        (multiple_new_cost P (columns_of t.basis) (without_column P (rows_of t)) (without_column P (rows_of t'))
        (cost_before (with_cost P c) zero) h.stands
        (λ i il. equal_parallel (suc (suc (P.n + P.m))) (without_column P (rows_of t) i)
        (without_column P (rows_of t') i) (λ k kl. rows i (auxiliary_place P k) (omega (arith, h.rows_are)))) first);
    empty =
        each (P.n + P.m) (objective_is (P.n + P.m) (omega arith)
        ∙ unit_zero (suc (P.n + P.m)) (P.n + P.m) (λ e. absurd (omega arith))) h.empty;
    closed = record {
      free =
          λ i il x. h.closed.free i (omega (arith, em, h.rows_are))
          (ap (λ (b : List ℕ). columns_of b i) (sym eb) ∙ x ∙ spare_is);
      zero = λ i il.
          let e : spare_column t.columns (positions t) ≡ P.n + P.m + 3 = omega (arith, h.rows_are, h.columns_are) in
          ap (rows_of t' i) (spare_is ∙ e)
          ∙ each (P.n + P.m + 3) (objective_is (P.n + P.m + 3) (omega arith)
          ∙ unit_zero (suc (P.n + P.m)) (P.n + P.m + 3) (λ f. absurd (omega arith)))
          (λ v vl. ap (rows_of t v) (sym e) ∙ h.closed.zero v (omega (arith, h.rows_are))) i (omega (arith, em));
    };
  }

-- ---- the last stage is the program's
pub all_put : (P : Program) (t : Table) → StandsFor (truncated P P.n) t → StandsFor P t
all_put P t h = record {
  rows_are = h.rows_are;
  columns_are = h.columns_are;
  stands =
      multiple_new_cost (truncated P P.n) (columns_of t.basis) (without_column P (rows_of t))
      (without_column P (rows_of t)) P.c h.stands
      (λ i il. equal_parallel (suc (suc (P.n + P.m))) (without_column P (rows_of t) i) (without_column P (rows_of t) i)
      (λ k kl. refl))
      (multiple_last P (own_of (system_of P) (columns_of t.basis)) (without_column P (rows_of t) P.m)
      (h.stands.multiples.rows_of P.m (self_le P.m)));
  empty = h.empty;
  closed = h.closed;
}

-- ---- each stage has a row, so the basis is feasible for every cost
-- a column is basic somewhere, or nowhere
where_basic : (own : Columns) (j m : ℕ) → ((i : ℕ) × (i < m) × (own i ≡ j)) ⊎ ((i : ℕ) → i < m → j ≢ own i)
where_basic own j zero = inr (λ i l. absurd (omega arith))
where_basic own j (suc m) = elim (where_basic own j m) [
  | inl a ↦ let l : a.0 < m = a.1 in inl (a.0, omega arith, a.2)
  | inr a ↦ elim (cases_eq (own m) j) [
    | inl e ↦ inl (m, omega arith, e)
    | inr d ↦ inr (λ i l. elim (cases_eq i m) [ inl e ↦ (λ f. d (ap own (sym e) ∙ sym f)) | inr o ↦ a i (omega arith) ])
  ]
]

stage_row : (P : Program) (own : Columns) (rows : Matrix) (d : Vector)
    → HasMultipleRows (system_of (with_cost P d)) own rows → (j : ℕ) → j ≤ P.n → (r : Vector)
    × IsMultipleStage P own j r
stage_row P own rows d h zero l = (unit_row (P.n + P.m), multiple_first P own rows d h)
stage_row P own rows d h (suc j) l =
    let s = stage_row P own rows d h j (omega arith) in
    let r : Vector = (λ k. s.0 k -ℤ ((P.c j *ℤ s.0 (P.n + P.m)) *ℤ unit_row j k)) in
    let half : IsMultipleHalf P own j r = record {
      stage = s.0;
      is_stage = s.1;
      divisor = pos 1;
      p = pos 1;
      divides = omega (arith, ints);
      positive = omega (arith, ints);
      entries = λ k kl. refl;
    } in
    elim (where_basic own j P.m) [
      | inr o ↦ (r, multiple_next P own rows d j r h (omega arith) o half)
      | inl a ↦
          let new : Vector = (λ k. (rows a.0 j *ℤ r k) -ℤ (r j *ℤ rows a.0 k)) in
          let al : a.0 < P.m = a.1 in
          let low : a.0 ≤ P.m = omega arith in
          let p : pos 0 <ℤ rows a.0 j = subst (λ k. pos 0 <ℤ rows a.0 k) a.2 (h.rows_of a.0 low).positive in (
            new,
            multiple_cleared P own rows d j a.0 r new h (omega arith) a.1 a.2 half
                (factors_clear (suc (suc (P.n + P.m))) j r (rows a.0) new (rows a.0 j) (r j) (omega arith) p
                (*ℤ_comm (rows a.0 j) (r j)) (λ k kl. refl)),
          )
    ]

-- ---- a column with the cost 0: the row of its stage is the next one's too
less_nothing : (r c o u : ℤ) → c ≡ pos 0 → r -ℤ ((c *ℤ o) *ℤ u) ≡ r
less_nothing r c o u e =
    let z : (c *ℤ o) *ℤ u ≡ pos 0 = ap (λ v. (v *ℤ o) *ℤ u) e ∙ ap (λ v. v *ℤ u) (zero-mul o) ∙ zero-mul u in
    omega (arith, ints)

module _ (P : Program) (j : ℕ) (jl : j < P.n) (t : Table) (h : StandsFor (truncated P j) t) (nothing : P.c j ≡ pos 0)
  where
    abbrev row : Vector
    row = without_column P (rows_of t) P.m

    abbrev own : Columns
    own = own_of (system_of P) (columns_of t.basis)

    same_half : IsMultipleHalf P own j row
    same_half = record {
      stage = row;
      is_stage = h.stands.multiples.rows_of P.m (self_le P.m);
      divisor = pos 1;
      p = pos 1;
      divides = omega (arith, ints);
      positive = omega (arith, ints);
      entries =
          λ k kl. ap (λ v. pos 1 *ℤ v) (sym (less_nothing (row k) (P.c j) (row (P.n + P.m)) (unit_row j k) nothing));
    }

    same_stage : IsMultipleStage P own (suc j) row
    same_stage = elim (where_basic own j P.m) [
      | inr o ↦
          multiple_next P own (without_column P (rows_of t)) (cost_before P j) j row h.stands.multiples jl o same_half
      | inl a ↦
          let al : a.0 < P.m = a.1 in
          let low : a.0 ≤ P.m = omega arith in
          multiple_cleared P own (without_column P (rows_of t)) (cost_before P j) j a.0 row row h.stands.multiples jl
          a.1
          a.2 same_half record {
            divisor = pos 1;
            p = pos 1;
            q = pos 0;
            divides = omega (arith, ints);
            positive = omega (arith, ints);
            entries = λ k kl. omega (arith, ints);
            cleared =
                ap row (sym a.2) ∙ (h.stands.multiples.rows_of P.m (self_le P.m)).zeros a.0 low
                (λ e. absurd (omega arith));
          }
    ]

    pub nothing_put : StandsFor (truncated P (suc j)) t
    nothing_put =
        let e : spare_column t.columns (positions t) ≡ P.n + P.m + 3 = omega (arith, h.rows_are, h.columns_are) in
        next_stands P j jl t h t refl refl
        (λ i il. equal_parallel (suc (suc (P.n + P.m))) (without_column P (rows_of t) i)
        (without_column P (rows_of t) i)
        (λ k kl. refl)) same_stage h.empty
        (λ i il. ap (rows_of t i) (sym e) ∙ h.closed.zero i (omega (arith, h.rows_are)))

new_feasible : (P : Program) (c : Vector) (t : Table) → StandsFor P t
    → IsFeasibleBasis (with_cost P c) (columns_of t.basis)
new_feasible P c t h =
    let s =
    stage_row (with_cost P c) (own_of (system_of P) (columns_of t.basis)) (without_column P (rows_of t)) P.c
    h.stands.multiples P.n (omega arith) in
    let rows : Matrix = with_objective P.m (without_column P (rows_of t)) s.0 in
    feasible_of (with_cost P c) (columns_of t.basis) rows
    (multiple_new_cost P (columns_of t.basis) (without_column P (rows_of t)) rows c h.stands
    (λ i il. equal_parallel (suc (suc (P.n + P.m))) (without_column P (rows_of t) i) (rows i)
    (λ k kl. ap (λ (v : Vector). v k) (with_objective_low P.m (without_column P (rows_of t)) s.0 i il)))
    (subst (λ (v : Vector). IsMultipleRow (system_of (with_cost P c)) (own_of (system_of P) (columns_of t.basis)) P.m v)
    (sym (with_objective_at P.m (without_column P (rows_of t)) s.0))
    (multiple_last (with_cost P c) (own_of (system_of P) (columns_of t.basis)) s.0 s.1)))

-- ---- a stage that is wide is told at the start
pub cost_refused : (limit : ℕ) (P : Program) (c : Vector) (t : Table) (basis : List ℕ) (i : ℕ) → StandsFor P t
    → basis ≡ t.basis → i ≡ P.m → IsOwnWideAt limit (with_cost P c) (columns_of t.basis) P.m
    → HasWideRowFrom limit (with_cost P c) (columns_of t.basis) (columns_of basis) i
cost_refused limit P c t basis i h eb ei w =
    subst (λ (b : List ℕ). HasWideRowFrom limit (with_cost P c) (columns_of t.basis) (columns_of b) i) (sym eb)
    (subst (λ (k : ℕ). HasWideRowFrom limit (with_cost P c) (columns_of t.basis) (columns_of t.basis) k) (sym ei)
    record {
      reached = record { feasible = new_feasible P c t h; turns = zero; turned = λ k kl. refl };
      wide = w;
    })
