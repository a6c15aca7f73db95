-- The objective's row, made column by column: each stage is one row, the last stage is the row itself,
-- and each stage comes from the one before by putting in a cost and clearing the column where it is basic.
use Rattle.std.proofs.Common.{◌≡◌, ◌≢◌, ℕ, zero, suc, ◌+◌, ◌<◌, ◌≤◌, sym, refl, ap, ◌∙◌, subst, arith, inl, inr}
use Rattle.std.proofs.lemmas.Int.{ints}
use Rattle.std.proofs.lemmas.Bool.{cases_eq, cases_lt}
use Rattle.std.proofs.lemmas.Bool.Decides.{nat_tests}
use Rattle.std.specs.Int.RustNames.{unsigned_abs}
use lib.IntN.{ℤ, pos, ◌+ℤ◌, ◌-ℤ◌, ◌*ℤ◌, neg_ℤ}
use lib.Signed.{◌<ℤ◌}
use Rattle.rob_algebra.specs.Integer.{ring, zero-mul, mul-zero, mul-one, one-mul, *ℤ_comm}
use Rattle.rob_algebra.specs.IntegerOrder.{mul_cancel, mul_cancel_zero, mul_cancel_lt, mul-pos_z}
use Rattle.rob_linear.specs.Vectors.{sum_to}
use Rattle.rob_linear.specs.Systems.{with_objective, System, IsSpanned, RowOf, IsBasis, IsCombined}
use Rattle.rob_linear.specs.Programs.{Program, with_cost, starting_row, system_of}
use Rattle.rob_linear.specs.Stages.{cost_before, truncated, IsStage, unit_row, IsHalfStage}
use Rattle.rob_linear.proofs.LinearPrograms.Sums.{sum_ext, sum_zero, sum_scale}
use Rattle.rob_linear.proofs.Bases.Solutions.{tags_in, own_below, primitive_by_one}
use Rattle.rob_linear.proofs.Bases.Pivots.{spanned_combined}
use Rattle.rob_linear.proofs.BasisPaths.Starts.{system_tagged}
use Rattle.rob_linear.proofs.Bases.Exact.{primitive_same}
use Rattle.rob_linear.proofs.Bases.Unique.{rows_equal, own_apart}
use Rattle.rob_linear.specs.Turns.{IsLexPositive, key, own_of, StandsWith}
use Rattle.rob_linear.proofs.BasisPaths.Costs.{with_objective_low, with_objective_at, row_restarted, basis_restarted}

-- rows before m don't see the cost
pub row_same : (P : Program) (c d : ℕ → ℤ) (t k : ℕ) → t < P.m
    → starting_row (with_cost P c) t k ≡ starting_row (with_cost P d) t k
row_same P c d t k l = elim (cases_lt k P.n) [
  | inl a ↦ grind (arith, nat_tests)
  | inr a ↦ elim (cases_eq k (P.n + t)) [
    | inl b ↦ grind (arith, nat_tests)
    | inr b ↦ grind (arith, nat_tests)
  ]
]

pub unit_one : (j : ℕ) → unit_row j j ≡ pos 1
unit_one j = grind (arith, nat_tests)

pub unit_zero : (j k : ℕ) → k ≢ j → unit_row j k ≡ pos 0
unit_zero j k d = grind (arith, nat_tests)

-- the rows of a basis, with a stage in place of the objective's row
pub stage_basis : (P : Program) (own : ℕ → ℕ) (rows : ℕ → ℕ → ℤ) (d : ℕ → ℤ) (j : ℕ) (r : ℕ → ℤ)
    → IsBasis (system_of (with_cost P d)) own rows → IsStage P own j r
    → IsBasis (system_of (truncated P j)) own (with_objective P.m rows r)
stage_basis P own rows d j r b h =
    basis_restarted (system_of (with_cost P d)) (starting_row (truncated P j)) own rows r refl
    (λ t k tl kl. row_same P d (cost_before P j) t k tl) b h

-- each stage is one row
pub stage_unique : (P : Program) (own : ℕ → ℕ) (rows : ℕ → ℕ → ℤ) (d : ℕ → ℤ) (j : ℕ) (r r' : ℕ → ℤ)
    → IsBasis (system_of (with_cost P d)) own rows → IsStage P own j r → IsStage P own j r' → (k : ℕ)
    → k ≤ suc (P.n + P.m) → r k ≡ r' k
stage_unique P own rows d j r r' b h h' k kl =
    ap (λ f. f k) (sym (with_objective_at P.m rows r))
    ∙ rows_equal (system_of (truncated P j)) own (with_objective P.m rows r) (with_objective P.m rows r')
    (stage_basis P own rows d j r b h) (stage_basis P own rows d j r' b h') P.m (omega arith) k kl
    ∙ ap (λ f. f k) (with_objective_at P.m rows r')

-- of equal rows a combination is one
combined_unique : (n : ℕ) (p : ℤ) (low low' : ℕ → ℤ) (q q' : ℤ) (top new new' : ℕ → ℤ)
    → ((k : ℕ) → k < n → low k ≡ low' k) → q ≡ q' → IsCombined n p low q top new → IsCombined n p low' q' top new'
    → (k : ℕ) → k < n → new k ≡ new' k
combined_unique n p low low' q q' top new new' e f c d =
    primitive_same n c.divisor d.divisor new new' c.positive d.positive c.primitive d.primitive (λ k kl.
    c.entries k kl ∙ ap (λ v. (p *ℤ v) -ℤ (q *ℤ top k)) (e k kl)
    ∙ ap (λ v. (p *ℤ low' k) -ℤ (v *ℤ top k)) f ∙ sym (d.entries k kl))

pub half_stage_unique : (P : Program) (own : ℕ → ℕ) (rows : ℕ → ℕ → ℤ) (d : ℕ → ℤ) (j : ℕ) (r r' : ℕ → ℤ)
    → IsBasis (system_of (with_cost P d)) own rows → IsHalfStage P own j r → IsHalfStage P own j r' → (k : ℕ)
    → k ≤ suc (P.n + P.m) → r k ≡ r' k
half_stage_unique P own rows d j r r' b h h' k kl =
    let e : (k : ℕ) → k ≤ suc (P.n + P.m) → h.stage k ≡ h'.stage k =
    stage_unique P own rows d j h.stage h'.stage b h.is_stage h'.is_stage in
    combined_unique (suc (suc (P.n + P.m))) (pos 1) h.stage h'.stage (P.c j *ℤ h.stage (P.n + P.m))
    (P.c j *ℤ h'.stage (P.n + P.m)) (unit_row j) r r'
    (λ k kl. e k (omega arith)) (ap (λ v. P.c j *ℤ v) (e (P.n + P.m) (omega arith))) h.put_in h'.put_in k (omega arith)

-- ---- the last stage
all_same : (P : Program) (t k : ℕ) → t ≤ P.m → starting_row (truncated P P.n) t k ≡ starting_row P t k
all_same P t k l = elim (cases_lt k P.n) [
  | inl a ↦ grind (arith, nat_tests)
  | inr a ↦ elim (cases_eq k (P.n + t)) [
    | inl b ↦ grind (arith, nat_tests)
    | inr b ↦ grind (arith, nat_tests)
  ]
]

pub spanned_all : (P : Program) (r : ℕ → ℤ) → IsSpanned (system_of (truncated P P.n)) r → IsSpanned (system_of P) r
spanned_all P r h k kl =
    h k kl ∙ sum_ext (suc P.m) (λ t. r (P.n + t) *ℤ starting_row (truncated P P.n) t k)
    (λ t. r (P.n + t) *ℤ starting_row P t k) (λ t tl. ap (λ v. r (P.n + t) *ℤ v) (all_same P t k (omega arith)))

-- the last stage is the objective's row
pub last_stage : (P : Program) (own : ℕ → ℕ) (r : ℕ → ℤ) → IsStage P own P.n r → RowOf (system_of P) own P.m r
last_stage P own r h =
    record {
      along = record { zeros = h.zeros; spanned = spanned_all P r h.spanned };
      positive = h.positive;
      primitive = h.primitive;
    }

-- ---- the next stage

-- stage 0 at any basis: the objective's row of the cost 0
pub first_stage : (P : Program) (own : ℕ → ℕ) (rows : ℕ → ℕ → ℤ) (d : ℕ → ℤ)
    → IsBasis (system_of (with_cost P d)) own rows → IsStage P own zero (unit_row (P.n + P.m))
first_stage P own rows d b = record {
  along = record {
    zeros = λ i il d.
        let l : own i < P.n + P.m = b.inside i (omega arith) in
        unit_zero (P.n + P.m) (own i) (omega arith);
    spanned = λ k kl.
        let low : sum_to P.m (λ t. unit_row (P.n + P.m) (P.n + t) *ℤ starting_row (truncated P zero) t k) ≡ pos 0 =
        sum_zero P.m (λ t. unit_row (P.n + P.m) (P.n + t) *ℤ starting_row (truncated P zero) t k)
        (λ t tl. ap (λ v. v *ℤ starting_row (truncated P zero) t k) (unit_zero (P.n + P.m) (P.n + t) (omega arith))
        ∙ zero-mul (starting_row (truncated P zero) t k)) in
        let o : unit_row (P.n + P.m) (P.n + P.m) ≡ pos 1 = unit_one (P.n + P.m) in
        let a : unit_row (P.n + P.m) (P.n + P.m) *ℤ starting_row (truncated P zero) P.m k
        ≡ starting_row (truncated P zero) P.m k =
        ap (λ v. v *ℤ starting_row (truncated P zero) P.m k) o ∙ one-mul (starting_row (truncated P zero) P.m k) in
        let e : unit_row (P.n + P.m) k ≡ starting_row (truncated P zero) P.m k = none P k in
        omega (arith, ints);
  };
  positive = subst (λ v. pos 0 <ℤ unit_row (P.n + P.m) v) (sym b.last)
      (subst (λ v. pos 0 <ℤ v) (sym (unit_one (P.n + P.m))) (omega (arith, ints)));
  primitive =
      primitive_by_one (suc (suc (P.n + P.m))) (P.n + P.m) (unit_row (P.n + P.m)) (omega arith)
      (ap unsigned_abs (unit_one (P.n + P.m)));
}
  where
    none : (P : Program) (k : ℕ) → unit_row (P.n + P.m) k ≡ starting_row (truncated P zero) P.m k
    none P k = elim (cases_lt k P.n) [
      | inl a ↦ grind (arith, nat_tests)
      | inr a ↦ elim (cases_eq k (P.n + P.m)) [
        | inl b ↦ grind (arith, nat_tests)
        | inr b ↦ grind (arith, nat_tests)
      ]
    ]

-- what putting in the cost of column j does to an entry
pub half_entry : (P : Program) (own : ℕ → ℕ) (j : ℕ) (r : ℕ → ℤ) (h : IsHalfStage P own j r) (k : ℕ)
    → k ≤ suc (P.n + P.m) → k ≢ j → h.put_in.divisor *ℤ r k ≡ h.stage k
half_entry P own j r h k kl d =
    let e : h.put_in.divisor *ℤ r k ≡ (pos 1 *ℤ h.stage k) -ℤ ((P.c j *ℤ h.stage (P.n + P.m)) *ℤ unit_row j k) =
    h.put_in.entries k (omega arith) in
    let z : (P.c j *ℤ h.stage (P.n + P.m)) *ℤ unit_row j k ≡ pos 0 =
    ap (λ v. (P.c j *ℤ h.stage (P.n + P.m)) *ℤ v) (unit_zero j k d) ∙ mul-zero (P.c j *ℤ h.stage (P.n + P.m)) in
    omega (arith, ints)

next_cost : (P : Program) (j k : ℕ) → j < P.n
    → starting_row (truncated P (suc j)) P.m k ≡ starting_row (truncated P j) P.m k -ℤ (P.c j *ℤ unit_row j k)
next_cost P j k l =
    elim (cases_eq k j) [
      | inl e ↦
          let a : starting_row (truncated P (suc j)) P.m k ≡ neg_ℤ (P.c k) = grind (arith, nat_tests) in
          let b : starting_row (truncated P j) P.m k ≡ pos 0 = grind (arith, nat_tests) in
          let u : P.c j *ℤ unit_row j k ≡ P.c j =
          ap (λ v. P.c j *ℤ unit_row j v) e ∙ ap (λ v. P.c j *ℤ v) (unit_one j) ∙ mul-one (P.c j) in
          let f : P.c k ≡ P.c j = ap P.c e in
          omega (arith, ints)
      | inr d ↦
          let a : starting_row (truncated P (suc j)) P.m k ≡ starting_row (truncated P j) P.m k =
          elim (cases_lt k P.n) [
            | inl b ↦ elim (cases_lt k j) [ inl c ↦ grind (arith, nat_tests) | inr c ↦ grind (arith, nat_tests) ]
            | inr b ↦ elim (cases_eq k (P.n + P.m)) [
              | inl c ↦ grind (arith, nat_tests)
              | inr c ↦ grind (arith, nat_tests)
            ]
          ] in
          let u : P.c j *ℤ unit_row j k ≡ pos 0 = ap (λ v. P.c j *ℤ v) (unit_zero j k d) ∙ mul-zero (P.c j) in
          omega (arith, ints)
    ]

pub half_spanned : (P : Program) (own : ℕ → ℕ) (j : ℕ) (r : ℕ → ℤ) → j < P.n → IsHalfStage P own j r
    → IsSpanned (system_of (truncated P (suc j))) r
half_spanned P own j r jl h k kl =
    let g : ℤ = h.put_in.divisor in
    let st : ℕ → ℤ = h.stage in
    let a : h.put_in.divisor *ℤ r k ≡ (pos 1 *ℤ h.stage k) -ℤ ((P.c j *ℤ h.stage (P.n + P.m)) *ℤ unit_row j k) =
    h.put_in.entries k (omega arith) in
    let s : h.stage k ≡ sum_to P.m (λ t. h.stage (P.n + t) *ℤ starting_row (truncated P j) t k)
    +ℤ (h.stage (P.n + P.m) *ℤ starting_row (truncated P j) P.m k) = h.is_stage.spanned k kl in
    let low : h.put_in.divisor *ℤ sum_to P.m (λ t. r (P.n + t) *ℤ starting_row (truncated P (suc j)) t k)
    ≡ sum_to P.m (λ t. h.stage (P.n + t) *ℤ starting_row (truncated P j) t k) =
    sym (sum_scale P.m h.put_in.divisor (λ t. r (P.n + t) *ℤ starting_row (truncated P (suc j)) t k))
    ∙ sum_ext P.m (λ t. h.put_in.divisor *ℤ (r (P.n + t) *ℤ starting_row (truncated P (suc j)) t k))
    (λ t. h.stage (P.n + t) *ℤ starting_row (truncated P j) t k) (λ t tl.
    let x : h.put_in.divisor *ℤ (r (P.n + t) *ℤ starting_row (truncated P (suc j)) t k)
    ≡ (h.put_in.divisor *ℤ r (P.n + t)) *ℤ starting_row (truncated P (suc j)) t k = simp ring in
    x ∙ ap (λ v. v *ℤ starting_row (truncated P (suc j)) t k)
    (half_entry P own j r h (P.n + t) (omega arith) (omega arith))
    ∙ ap (λ v. h.stage (P.n + t) *ℤ v) (row_same P (cost_before P (suc j)) (cost_before P j) t k tl)) in
    let o : h.put_in.divisor *ℤ r (P.n + P.m) ≡ h.stage (P.n + P.m) =
    half_entry P own j r h (P.n + P.m) (omega arith) (omega arith) in
    let top : h.put_in.divisor *ℤ (r (P.n + P.m) *ℤ starting_row (truncated P (suc j)) P.m k)
    ≡ (h.stage (P.n + P.m) *ℤ starting_row (truncated P j) P.m k)
    -ℤ ((P.c j *ℤ h.stage (P.n + P.m)) *ℤ unit_row j k) =
    let x : h.put_in.divisor *ℤ (r (P.n + P.m) *ℤ starting_row (truncated P (suc j)) P.m k)
    ≡ (h.put_in.divisor *ℤ r (P.n + P.m)) *ℤ starting_row (truncated P (suc j)) P.m k = simp ring in
    let y : h.stage (P.n + P.m) *ℤ (starting_row (truncated P j) P.m k -ℤ (P.c j *ℤ unit_row j k))
    ≡ (h.stage (P.n + P.m) *ℤ starting_row (truncated P j) P.m k)
    -ℤ ((P.c j *ℤ h.stage (P.n + P.m)) *ℤ unit_row j k) = simp ring in
    x ∙ ap (λ v. v *ℤ starting_row (truncated P (suc j)) P.m k) o
    ∙ ap (λ v. h.stage (P.n + P.m) *ℤ v) (next_cost P j k jl) ∙ y in
    let all : h.put_in.divisor
    *ℤ (sum_to P.m (λ t. r (P.n + t) *ℤ starting_row (truncated P (suc j)) t k)
    +ℤ (r (P.n + P.m) *ℤ starting_row (truncated P (suc j)) P.m k))
    ≡ (h.put_in.divisor *ℤ sum_to P.m (λ t. r (P.n + t) *ℤ starting_row (truncated P (suc j)) t k))
    +ℤ (h.put_in.divisor *ℤ (r (P.n + P.m) *ℤ starting_row (truncated P (suc j)) P.m k)) = simp ring in
    mul_cancel h.put_in.divisor (r k)
    (sum_to P.m (λ t. r (P.n + t) *ℤ starting_row (truncated P (suc j)) t k)
    +ℤ (r (P.n + P.m) *ℤ starting_row (truncated P (suc j)) P.m k)) h.put_in.positive (omega (arith, ints))

-- 0 in each basic column but j, and positive for the objective
pub half_zero : (P : Program) (own : ℕ → ℕ) (j : ℕ) (r : ℕ → ℤ) (h : IsHalfStage P own j r) (i : ℕ) → i < P.m
    → own i < P.n + P.m → own i ≢ j → r (own i) ≡ pos 0
half_zero P own j r h i il l d =
    let e : h.put_in.divisor *ℤ r (own i) ≡ h.stage (own i) = half_entry P own j r h (own i) (omega arith) d in
    mul_cancel_zero h.put_in.divisor (r (own i)) h.put_in.positive (e ∙ h.is_stage.zeros i (omega arith) (omega arith))

pub half_positive : (P : Program) (own : ℕ → ℕ) (j : ℕ) (r : ℕ → ℤ) → j < P.n → own P.m ≡ P.n + P.m
    → IsHalfStage P own j r → pos 0 <ℤ r (own P.m)
half_positive P own j r jl last h =
    let e : h.put_in.divisor *ℤ r (own P.m) ≡ h.stage (own P.m) =
    half_entry P own j r h (own P.m) (omega arith) (omega arith) in
    mul_cancel_lt h.put_in.divisor (pos 0) (r (own P.m)) h.put_in.positive
    (subst (λ v. v <ℤ (h.put_in.divisor *ℤ r (own P.m))) (sym (mul-zero h.put_in.divisor))
    (subst (λ v. pos 0 <ℤ v) (sym e) h.is_stage.positive))

-- where column j is not basic, the stage between is the next stage
pub half_is_next : (P : Program) (own : ℕ → ℕ) (rows : ℕ → ℕ → ℤ) (d : ℕ → ℤ) (j : ℕ) (r : ℕ → ℤ)
    → IsBasis (system_of (with_cost P d)) own rows → j < P.n → ((i : ℕ) → i < P.m → j ≢ own i) → IsHalfStage P own j r
    → IsStage P own (suc j) r
half_is_next P own rows d j r b jl out h = record {
  along = record {
    zeros = λ i il di. half_zero P own j r h i (omega arith) (b.inside i (omega arith))
        (λ e. out i (omega arith) (sym e));
    spanned = half_spanned P own j r jl h;
  };
  positive = half_positive P own j r jl b.last h;
  primitive = h.put_in.primitive;
}

-- where it is basic, the next stage has it cleared by its position's row
pub half_cleared : (P : Program) (own : ℕ → ℕ) (rows : ℕ → ℕ → ℤ) (d : ℕ → ℤ) (j i : ℕ) (r new : ℕ → ℤ)
    → IsBasis (system_of (with_cost P d)) own rows → j < P.n → i < P.m → own i ≡ j → IsHalfStage P own j r
    → IsCombined (suc (suc (P.n + P.m))) (rows i (own i)) r (r (own i)) (rows i) new → IsStage P own (suc j) new
half_cleared P own rows d j i r new b jl il oi h c =
    let S : System = system_of (truncated P (suc j)) in
    let ri : RowOf (system_of (truncated P (suc j))) own i (rows i) =
    row_restarted (system_of (with_cost P d)) (starting_row (truncated P (suc j))) own i (rows i) refl b.last
    (λ t k tl kl. row_same P d (cost_before P (suc j)) t k tl) il (b.rows_of i (omega arith)) in
    let below : (u : ℕ) → u ≤ P.m → own u < suc (P.n + P.m) = own_below (system_of (with_cost P d)) own rows b in
    record {
      along = record {
        zeros = λ u ul du. elim (cases_eq u i) [
          | inl e ↦
              let f : (rows i (own i) *ℤ r (own u)) -ℤ (r (own i) *ℤ rows i (own u)) ≡ pos 0 =
              let x : rows i (own i) *ℤ r (own i) ≡ r (own i) *ℤ rows i (own i) =
              *ℤ_comm (rows i (own i)) (r (own i)) in
              subst (λ v. (rows i (own i) *ℤ r (own v)) -ℤ (r (own i) *ℤ rows i (own v)) ≡ pos 0) (sym e)
              (omega (arith, ints)) in
              let bu : own u < suc (P.n + P.m) = below u ul in
              mul_cancel_zero c.divisor (new (own u)) c.positive (c.entries (own u) (omega arith) ∙ f)
          | inr g ↦
              let bu : own u < suc (P.n + P.m) = below u ul in
              let apart : own u ≢ j =
              (λ e. g (own_apart (system_of (with_cost P d)) own rows b u i ul (omega arith) (e ∙ sym oi))) in
              let x : rows i (own i) *ℤ r (own u) ≡ pos 0 =
              ap (λ v. rows i (own i) *ℤ v) (half_zero P own j r h u (omega arith) (b.inside u (omega arith)) apart)
              ∙ mul-zero (rows i (own i)) in
              let y : r (own i) *ℤ rows i (own u) ≡ pos 0 =
              ap (λ v. r (own i) *ℤ v) (ri.zeros u ul g) ∙ mul-zero (r (own i)) in
              mul_cancel_zero c.divisor (new (own u)) c.positive (c.entries (own u) (omega arith) ∙ omega (arith, ints))
        ];
        spanned = spanned_combined (system_of (truncated P (suc j))) (rows i (own i)) (r (own i)) r (rows i) new
            (tags_in (system_of (truncated P (suc j))) (system_tagged (truncated P (suc j))))
            (half_spanned P own j r jl h) ri.spanned c;
      };
      positive =
          let bm : own P.m < suc (P.n + P.m) = below P.m (omega arith) in
          let p : pos 0 <ℤ (rows i (own i) *ℤ r (own P.m)) =
          mul-pos_z (rows i (own i)) (r (own P.m)) ri.positive (half_positive P own j r jl b.last h) in
          let y : r (own i) *ℤ rows i (own P.m) ≡ pos 0 =
          ap (λ v. r (own i) *ℤ v) (ri.zeros P.m (omega arith) (omega arith)) ∙ mul-zero (r (own i)) in
          let e : c.divisor *ℤ new (own P.m) ≡ (rows i (own i) *ℤ r (own P.m)) -ℤ (r (own i) *ℤ rows i (own P.m)) =
          c.entries (own P.m) (omega arith) in
          mul_cancel_lt c.divisor (pos 0) (new (own P.m)) c.positive
          (subst (λ v. v <ℤ (c.divisor *ℤ new (own P.m))) (sym (mul-zero c.divisor)) (omega (arith, ints)));
      primitive = c.primitive;
    }

-- ---- a new cost on a basis that stands
pub new_cost_basis : (P : Program) (own : ℕ → ℕ) (rows : ℕ → ℕ → ℤ) (c : ℕ → ℤ) (r : ℕ → ℤ)
    → IsBasis (system_of P) own rows → RowOf (system_of (with_cost P c)) own P.m r
    → IsBasis (system_of (with_cost P c)) own (with_objective P.m rows r)
new_cost_basis P own rows c r b h =
    basis_restarted (system_of P) (starting_row (with_cost P c)) own rows r refl
    (λ t k tl kl. row_same P P.c c t k tl) b h

pub new_cost_stands : (P : Program) (basis : ℕ → ℕ) (rows : ℕ → ℕ → ℤ) (c : ℕ → ℤ) (r : ℕ → ℤ)
    → StandsWith (system_of P) basis rows → RowOf (system_of (with_cost P c)) (own_of (system_of P) basis) P.m r
    → StandsWith (system_of (with_cost P c)) basis (with_objective P.m rows r)
new_cost_stands P basis rows c r s h = record {
  is_basis = new_cost_basis P (own_of (system_of P) basis) rows c r s.is_basis h;
  feasible = λ i l. subst (λ v. IsLexPositive (suc P.m) (key (system_of P) v))
      (sym (with_objective_low P.m rows r i l)) (s.feasible i l);
}
