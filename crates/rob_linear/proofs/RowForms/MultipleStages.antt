-- A new cost on rows up to factors: each stage is a multiple of the stage.
use Rattle.std.proofs.Common.{◌≡◌, ◌≢◌, ℕ, zero, suc, ◌+◌, ◌<◌, ◌≤◌, sym, refl, ap, ◌∙◌, subst, arith, inl, inr}
use Rattle.std.proofs.lemmas.Int.{ints}
use Rattle.std.proofs.lemmas.Bool.{cases_eq}
use lib.IntN.{ℤ, pos, ◌-ℤ◌, ◌*ℤ◌}
use lib.Signed.{◌<ℤ◌}
use Rattle.rob_algebra.specs.Integer.{ring, mul_assoc, mul_left_comm, mul-zero, one-mul}
use Rattle.rob_algebra.specs.IntegerOrder.{mul_cancel_zero, mul_cancel_lt, mul-pos_z}
use Rattle.rob_linear.specs.Systems.{right, IsSpanned, IsPrimitive, IsBasis}
use Rattle.rob_linear.specs.Programs.{Program, with_cost, starting_row, system_of}
use Rattle.rob_linear.specs.Turns.{own_of}
use Rattle.rob_linear.specs.Stages.{cost_before, truncated, IsStage, unit_row, IsHalfStage}
use Rattle.rob_linear.specs.WideRows.{HasWideEntry, IsWideStage}
use Rattle.rob_linear.specs.Multiples.{IsParallel, IsMultipleRow, HasMultipleRows, IsClearedBy, StandsMultiple}
use Rattle.rob_linear.specs.MultipleStages.{IsMultipleStage, IsMultipleHalf}
use Rattle.rob_linear.proofs.Bases.Solutions.{tags_in}
use Rattle.rob_linear.proofs.Bases.Primitive.{primitive_part}
use Rattle.rob_linear.proofs.Bases.Exact.{primitive_same}
use Rattle.rob_linear.proofs.Bases.Unique.{own_apart}
use Rattle.rob_linear.proofs.BasisPaths.Starts.{system_tagged}
use Rattle.rob_linear.proofs.BasisPaths.Costs.{spanned_restarted}
use Rattle.rob_linear.proofs.CostChange.Stages.{row_same, unit_zero, first_stage, spanned_all, half_spanned, half_zero, half_positive, half_is_next}
use Rattle.rob_linear.proofs.RowForms.Multiples.{parallel_sym, parallel_trans, multiple_parallel, multiples_in, primitive_row, multiple_rows_exist, spanned_cleared, lex_parallel}

-- the stage itself
pub stage_of_multiple : (P : Program) (own : ℕ → ℕ) (j : ℕ) (r : ℕ → ℤ) → ((i : ℕ) → i ≤ P.m → own i ≤ suc (P.n + P.m))
    → IsMultipleStage P own j r → (st : ℕ → ℤ) × IsStage P own j st × IsParallel (suc (suc (P.n + P.m))) r st
stage_of_multiple P own j r inside h =
    let o : own P.m ≤ suc (P.n + P.m) = inside P.m (omega arith) in
    let w : (f : ℤ) × (new : ℕ → ℤ) × (pos 0 <ℤ f) × ((k : ℕ) → k < suc (suc (P.n + P.m)) → f *ℤ new k ≡ r k)
    × IsPrimitive (suc (suc (P.n + P.m))) new =
    primitive_part (suc (suc (P.n + P.m))) r (own P.m) (omega arith) h.positive in
    let e : IsParallel (suc (suc (P.n + P.m))) r w.1 = record {
      p = pos 1;
      q = w.0;
      p_positive = omega (arith, ints);
      q_positive = w.2;
      same = λ k kl. one-mul (r k) ∙ sym (w.3 k kl);
    } in (
      w.1,
      primitive_row (system_of (truncated P j)) own P.m r w.1 (system_tagged (truncated P j)) inside
          (omega arith) h e w.4,
      e,
    )

into : (a p c o s u : ℤ) → a *ℤ (p *ℤ (s -ℤ ((c *ℤ o) *ℤ u))) ≡ p *ℤ ((a *ℤ s) -ℤ ((c *ℤ (a *ℤ o)) *ℤ u))
into a p c o s u =
    let x : a *ℤ (p *ℤ (s -ℤ ((c *ℤ o) *ℤ u))) ≡ p *ℤ (a *ℤ (s -ℤ ((c *ℤ o) *ℤ u))) =
    mul_left_comm a p (s -ℤ ((c *ℤ o) *ℤ u)) in
    let y : a *ℤ (s -ℤ ((c *ℤ o) *ℤ u)) ≡ (a *ℤ s) -ℤ ((c *ℤ (a *ℤ o)) *ℤ u) = simp ring in
    x ∙ ap (λ v. p *ℤ v) y

out_of : (p q c o s u : ℤ) → p *ℤ ((q *ℤ s) -ℤ ((c *ℤ (q *ℤ o)) *ℤ u)) ≡ (p *ℤ q) *ℤ ((pos 1 *ℤ s) -ℤ ((c *ℤ o) *ℤ u))
out_of p q c o s u =
    let y : (q *ℤ s) -ℤ ((c *ℤ (q *ℤ o)) *ℤ u) ≡ q *ℤ ((pos 1 *ℤ s) -ℤ ((c *ℤ o) *ℤ u)) = simp ring in
    ap (λ v. p *ℤ v) y ∙ sym (mul_assoc p q ((pos 1 *ℤ s) -ℤ ((c *ℤ o) *ℤ u)))

half_scaled : (d p a b g c r s o u t y n : ℤ) → d *ℤ r ≡ p *ℤ (s -ℤ ((c *ℤ o) *ℤ u)) → a *ℤ s ≡ b *ℤ t → a *ℤ o ≡ b *ℤ y
    → g *ℤ n ≡ (pos 1 *ℤ t) -ℤ ((c *ℤ y) *ℤ u) → (a *ℤ d) *ℤ r ≡ ((p *ℤ b) *ℤ g) *ℤ n
half_scaled d p a b g c r s o u t y n e es eo en =
    mul_assoc a d r ∙ ap (λ v. a *ℤ v) e ∙ into a p c o s u
    ∙ ap (λ v. p *ℤ (v -ℤ ((c *ℤ (a *ℤ o)) *ℤ u))) es ∙ ap (λ v. p *ℤ ((b *ℤ t) -ℤ ((c *ℤ v) *ℤ u))) eo
    ∙ out_of p b c y t u ∙ ap (λ v. (p *ℤ b) *ℤ v) (sym en) ∙ sym (mul_assoc (p *ℤ b) g n)

-- what stands between, of the stage itself
pub half_of_multiple : (P : Program) (own : ℕ → ℕ) (j : ℕ) (r : ℕ → ℤ) → ((i : ℕ) → i ≤ P.m → own i ≤ suc (P.n + P.m))
    → own P.m ≡ P.n + P.m → j < P.n → IsMultipleHalf P own j r → (half : ℕ → ℤ) × IsHalfStage P own j half
    × IsParallel (suc (suc (P.n + P.m))) r half
half_of_multiple P own j r inside last jl h =
    let s : (st : ℕ → ℤ) × IsStage P own j st × IsParallel (suc (suc (P.n + P.m))) h.stage st =
    stage_of_multiple P own j h.stage inside h.is_stage in
    let sp : pos 0 <ℤ s.0 (P.n + P.m) = subst (λ v. pos 0 <ℤ s.0 v) last s.1.positive in
    let vp : pos 0 <ℤ ((pos 1 *ℤ s.0 (P.n + P.m)) -ℤ ((P.c j *ℤ s.0 (P.n + P.m)) *ℤ unit_row j (P.n + P.m))) =
    let z : (P.c j *ℤ s.0 (P.n + P.m)) *ℤ unit_row j (P.n + P.m) ≡ pos 0 =
    ap (λ v. (P.c j *ℤ s.0 (P.n + P.m)) *ℤ v) (unit_zero j (P.n + P.m) (omega arith))
    ∙ mul-zero (P.c j *ℤ s.0 (P.n + P.m)) in
    omega (arith, ints) in
    let w : (f : ℤ) × (new : ℕ → ℤ) × (pos 0 <ℤ f)
    × ((k : ℕ) → k < suc (suc (P.n + P.m))
    → f *ℤ new k ≡ (pos 1 *ℤ s.0 k) -ℤ ((P.c j *ℤ s.0 (P.n + P.m)) *ℤ unit_row j k))
    × IsPrimitive (suc (suc (P.n + P.m))) new =
    primitive_part (suc (suc (P.n + P.m))) (λ k. (pos 1 *ℤ s.0 k) -ℤ ((P.c j *ℤ s.0 (P.n + P.m)) *ℤ unit_row j k))
    (P.n + P.m) (omega arith) vp in
    let g : IsParallel (suc (suc (P.n + P.m))) h.stage s.0 = s.2 in (
      w.1,
      record {
        stage = s.0;
        is_stage = s.1;
        put_in = record {
          divisor = w.0;
          positive = w.2;
          entries = w.3;
          primitive = w.4;
        };
      },
      record {
        p = g.p *ℤ h.divisor;
        q = (h.p *ℤ g.q) *ℤ w.0;
        p_positive = mul-pos_z g.p h.divisor g.p_positive h.divides;
        q_positive = mul-pos_z (h.p *ℤ g.q) w.0 (mul-pos_z h.p g.q h.positive g.q_positive) w.2;
        same = λ k kl. half_scaled h.divisor h.p g.p g.q w.0 (P.c j) (r k) (h.stage k) (h.stage (P.n + P.m))
            (unit_row j k) (s.0 k) (s.0 (P.n + P.m)) (w.1 k) (h.entries k kl) (g.same k kl)
            (g.same (P.n + P.m) (omega arith)) (w.3 k kl);
      },
    )

-- ---- the stages
pub multiple_first : (P : Program) (own : ℕ → ℕ) (rows : ℕ → ℕ → ℤ) (d : ℕ → ℤ)
    → HasMultipleRows (system_of (with_cost P d)) own rows → IsMultipleStage P own zero (unit_row (P.n + P.m))
multiple_first P own rows d h =
    let b : (prim : ℕ → ℕ → ℤ) × IsBasis (system_of (with_cost P d)) own prim =
    multiple_rows_exist (system_of (with_cost P d)) own rows (system_tagged (with_cost P d)) h in
    let s : IsStage P own zero (unit_row (P.n + P.m)) = first_stage P own b.0 d b.1 in
    record { along = s.along; positive = s.positive }

pub multiple_last : (P : Program) (own : ℕ → ℕ) (r : ℕ → ℤ) → IsMultipleStage P own P.n r
    → IsMultipleRow (system_of P) own P.m r
multiple_last P own r h =
    record { along = record { zeros = h.zeros; spanned = spanned_all P r h.spanned }; positive = h.positive }

-- the column isn't basic
pub multiple_next : (P : Program) (own : ℕ → ℕ) (rows : ℕ → ℕ → ℤ) (d : ℕ → ℤ) (j : ℕ) (r : ℕ → ℤ)
    → HasMultipleRows (system_of (with_cost P d)) own rows → j < P.n → ((i : ℕ) → i < P.m → j ≢ own i)
    → IsMultipleHalf P own j r → IsMultipleStage P own (suc j) r
multiple_next P own rows d j r h jl out f =
    let inside : (i : ℕ) → i ≤ P.m → own i ≤ suc (P.n + P.m) = multiples_in (system_of (with_cost P d)) own rows h in
    let b : (prim : ℕ → ℕ → ℤ) × IsBasis (system_of (with_cost P d)) own prim =
    multiple_rows_exist (system_of (with_cost P d)) own rows (system_tagged (with_cost P d)) h in
    let w : (half : ℕ → ℤ) × IsHalfStage P own j half × IsParallel (suc (suc (P.n + P.m))) r half =
    half_of_multiple P own j r inside h.last jl f in
    let s : IsStage P own (suc j) w.0 = half_is_next P own b.0 d j w.0 b.1 jl out w.1 in
    multiple_parallel (system_of (truncated P (suc j))) own P.m w.0 r
    (tags_in (system_of (truncated P (suc j))) (system_tagged (truncated P (suc j)))) inside (omega arith)
    (parallel_sym (suc (suc (P.n + P.m))) r w.0 w.2) record { along = s.along; positive = s.positive }

-- the column is basic, and its position's row clears it
pub multiple_cleared : (P : Program) (own : ℕ → ℕ) (rows : ℕ → ℕ → ℤ) (d : ℕ → ℤ) (j i : ℕ) (r new : ℕ → ℤ)
    → HasMultipleRows (system_of (with_cost P d)) own rows → j < P.n → i < P.m → own i ≡ j → IsMultipleHalf P own j r
    → IsClearedBy (suc (suc (P.n + P.m))) j r (rows i) new → IsMultipleStage P own (suc j) new
multiple_cleared P own rows d j i r new h jl il oi f c =
    let inside : (i : ℕ) → i ≤ P.m → own i ≤ suc (P.n + P.m) = multiples_in (system_of (with_cost P d)) own rows h in
    let b : (prim : ℕ → ℕ → ℤ) × IsBasis (system_of (with_cost P d)) own prim =
    multiple_rows_exist (system_of (with_cost P d)) own rows (system_tagged (with_cost P d)) h in
    let w : (half : ℕ → ℤ) × IsHalfStage P own j half × IsParallel (suc (suc (P.n + P.m))) r half =
    half_of_multiple P own j r inside h.last jl f in
    let par : IsParallel (suc (suc (P.n + P.m))) r w.0 = w.2 in
    let ri : IsMultipleRow (system_of (with_cost P d)) own i (rows i) = h.rows_of i (omega arith) in
    let top : IsSpanned (system_of (truncated P (suc j))) (rows i) =
    spanned_restarted (system_of (with_cost P d)) (starting_row (truncated P (suc j))) (rows i) refl
    (ap (rows i) (sym h.last) ∙ ri.zeros P.m (omega arith) (omega arith))
    (λ t k tl kl. row_same P d (cost_before P (suc j)) t k tl) ri.spanned in
    let entries : (k : ℕ) → k < suc (suc (P.n + P.m))
    → (par.p *ℤ c.divisor) *ℤ new k ≡ ((c.p *ℤ par.q) *ℤ w.0 k) -ℤ ((c.q *ℤ par.p) *ℤ rows i k) =
    (λ k kl.
    let a : (par.p *ℤ c.divisor) *ℤ new k ≡ par.p *ℤ (c.divisor *ℤ new k) = simp ring in
    let e : par.p *ℤ ((c.p *ℤ r k) -ℤ (c.q *ℤ rows i k)) ≡ (c.p *ℤ (par.p *ℤ r k)) -ℤ ((c.q *ℤ par.p) *ℤ rows i k) =
    simp ring in
    let g : c.p *ℤ (par.q *ℤ w.0 k) ≡ (c.p *ℤ par.q) *ℤ w.0 k = simp ring in
    a ∙ ap (λ v. par.p *ℤ v) (c.entries k kl) ∙ e ∙ ap (λ v. (c.p *ℤ v) -ℤ ((c.q *ℤ par.p) *ℤ rows i k)) (par.same k kl)
    ∙ ap (λ v. v -ℤ ((c.q *ℤ par.p) *ℤ rows i k)) g) in
    let dp : pos 0 <ℤ (par.p *ℤ c.divisor) = mul-pos_z par.p c.divisor par.p_positive c.divides in
    let pp : pos 0 <ℤ (c.p *ℤ par.q) = mul-pos_z c.p par.q c.positive par.q_positive in
    record {
      along = record {
        zeros = λ u ul du. elim (cases_eq u i) [
          | inl e ↦ ap new (ap own e ∙ oi) ∙ c.cleared
          | inr g ↦
              let ub : own u < P.n + P.m = h.inside u (omega arith) in
              let apart : own u ≢ j =
              (λ e. g (own_apart (system_of (with_cost P d)) own b.0 b.1 u i ul (omega arith) (e ∙ sym oi))) in
              let x : (c.p *ℤ par.q) *ℤ w.0 (own u) ≡ pos 0 =
              ap (λ v. (c.p *ℤ par.q) *ℤ v) (half_zero P own j w.0 w.1 u (omega arith) ub apart)
              ∙ mul-zero (c.p *ℤ par.q) in
              let y : (c.q *ℤ par.p) *ℤ rows i (own u) ≡ pos 0 =
              ap (λ v. (c.q *ℤ par.p) *ℤ v) (ri.zeros u ul g) ∙ mul-zero (c.q *ℤ par.p) in
              mul_cancel_zero (par.p *ℤ c.divisor) (new (own u)) dp
              (entries (own u) (omega arith) ∙ omega (arith, ints))
        ];
        spanned = spanned_cleared (system_of (truncated P (suc j))) (par.p *ℤ c.divisor) (c.p *ℤ par.q) (c.q *ℤ par.p)
            w.0 (rows i) new (tags_in (system_of (truncated P (suc j))) (system_tagged (truncated P (suc j)))) dp
            entries (half_spanned P own j w.0 jl w.1) top;
      };
      positive =
          let mb : own P.m ≤ suc (P.n + P.m) = inside P.m (omega arith) in
          let x : pos 0 <ℤ ((c.p *ℤ par.q) *ℤ w.0 (own P.m)) =
          mul-pos_z (c.p *ℤ par.q) (w.0 (own P.m)) pp (half_positive P own j w.0 jl h.last w.1) in
          let y : (c.q *ℤ par.p) *ℤ rows i (own P.m) ≡ pos 0 =
          ap (λ v. (c.q *ℤ par.p) *ℤ v) (ri.zeros P.m (omega arith) (omega arith)) ∙ mul-zero (c.q *ℤ par.p) in
          let e : (par.p *ℤ c.divisor) *ℤ new (own P.m)
          ≡ ((c.p *ℤ par.q) *ℤ w.0 (own P.m)) -ℤ ((c.q *ℤ par.p) *ℤ rows i (own P.m)) =
          entries (own P.m) (omega arith) in
          mul_cancel_lt (par.p *ℤ c.divisor) (pos 0) (new (own P.m)) dp
          (subst (λ v. v <ℤ ((par.p *ℤ c.divisor) *ℤ new (own P.m)))
          (sym (mul-zero (par.p *ℤ c.divisor))) (omega (arith, ints)));
    }

-- ---- wide stages
pub multiple_stage_wide : (limit : ℕ) (P : Program) (basis : ℕ → ℕ) (rows : ℕ → ℕ → ℤ) (d : ℕ → ℤ) (j : ℕ) (r s : ℕ → ℤ)
    → HasMultipleRows (system_of (with_cost P d)) (own_of (system_of P) basis) rows → j < P.n
    → IsMultipleStage P (own_of (system_of P) basis) j r → IsParallel (suc (suc (P.n + P.m))) r s
    → IsPrimitive (suc (suc (P.n + P.m))) s → HasWideEntry limit (system_of P) s → IsWideStage limit P basis
multiple_stage_wide limit P basis rows d j r s h jl st e p w = (
  j,
  s,
  jl,
  inl
      (primitive_row (system_of (truncated P j)) (own_of (system_of P) basis) P.m r s (system_tagged (truncated P j))
      (multiples_in (system_of (with_cost P d)) (own_of (system_of P) basis) rows h) (omega arith) st e p),
  w,
)

pub multiple_half_wide : (limit : ℕ) (P : Program) (basis : ℕ → ℕ) (rows : ℕ → ℕ → ℤ) (d : ℕ → ℤ) (j : ℕ) (r s : ℕ → ℤ)
    → HasMultipleRows (system_of (with_cost P d)) (own_of (system_of P) basis) rows → j < P.n
    → IsMultipleHalf P (own_of (system_of P) basis) j r → IsParallel (suc (suc (P.n + P.m))) r s
    → IsPrimitive (suc (suc (P.n + P.m))) s → HasWideEntry limit (system_of P) s → IsWideStage limit P basis
multiple_half_wide limit P basis rows d j r s h jl f e p w =
    let w0 : (half : ℕ → ℤ) × IsHalfStage P (own_of (system_of P) basis) j half
    × IsParallel (suc (suc (P.n + P.m))) r half =
    half_of_multiple P (own_of (system_of P) basis) j r
    (multiples_in (system_of (with_cost P d)) (own_of (system_of P) basis) rows h) h.last jl f in
    let a : IsHalfStage P (own_of (system_of P) basis) j w0.0 = w0.1 in
    let g : IsParallel (suc (suc (P.n + P.m))) s w0.0 =
    parallel_trans (suc (suc (P.n + P.m))) s r w0.0 (parallel_sym (suc (suc (P.n + P.m))) r s e) w0.2 in
    let same : (k : ℕ) → k < suc (suc (P.n + P.m)) → s k ≡ w0.0 k =
    primitive_same (suc (suc (P.n + P.m))) g.p g.q s w0.0 g.p_positive g.q_positive p a.put_in.primitive g.same in
    let is_half : IsHalfStage P (own_of (system_of P) basis) j s = record {
      stage = a.stage;
      is_stage = a.is_stage;
      put_in = record {
        divisor = a.put_in.divisor;
        positive = a.put_in.positive;
        entries = λ k kl. ap (λ v. a.put_in.divisor *ℤ v) (same k kl) ∙ a.put_in.entries k kl;
        primitive = p;
      };
    } in
    (j, s, jl, inr is_half, w)

-- ---- the new cost stands
pub multiple_new_cost : (P : Program) (basis : ℕ → ℕ) (rows rows' : ℕ → ℕ → ℤ) (c : ℕ → ℤ)
    → StandsMultiple (system_of P) basis rows
    → ((i : ℕ) → i < P.m → IsParallel (suc (right (system_of P))) (rows i) (rows' i))
    → IsMultipleRow (system_of (with_cost P c)) (own_of (system_of P) basis) P.m (rows' P.m)
    → StandsMultiple (system_of (with_cost P c)) basis rows'
multiple_new_cost P basis rows rows' c s e r = record {
  multiples = record {
    inside = s.multiples.inside;
    last = s.multiples.last;
    rows_of = λ i il. elim (cases_eq i P.m) [
      | inl g ↦ subst (λ v. IsMultipleRow (system_of (with_cost P c)) (own_of (system_of P) basis) v (rows' v)) (sym g)
          r
      | inr g ↦
          let m : IsMultipleRow (system_of P) (own_of (system_of P) basis) i (rows' i) =
          multiple_parallel (system_of P) (own_of (system_of P) basis) i (rows i) (rows' i)
          (tags_in (system_of P) (system_tagged P))
          (multiples_in (system_of P) (own_of (system_of P) basis) rows s.multiples) il (e i (omega arith))
          (s.multiples.rows_of i il) in
          record {
            along = record {
              zeros = m.zeros;
              spanned = spanned_restarted (system_of P) (starting_row (with_cost P c)) (rows' i) refl
                  (ap (rows' i) (sym s.multiples.last) ∙ m.zeros P.m (omega arith) (omega arith))
                  (λ t k tl kl. row_same P P.c c t k tl) m.spanned;
            };
            positive = m.positive;
          }
    ];
  };
  feasible = λ i il. lex_parallel (system_of P) (rows i) (rows' i) (system_tagged P) (e i il) (s.feasible i il);
}
