-- The explicit form of the first phase on rows up to factors: the kept row, the change of phase, and the ending.
use Rattle.std.proofs.Common.{◌≡◌, ◌≢◌, ℕ, suc, ◌+◌, ◌<◌, ◌≤◌, sym, ap, ◌∙◌, subst, arith, inl, inr}
use Rattle.std.proofs.lemmas.Int.{ints}
use Rattle.std.proofs.lemmas.Bool.{cases_eq}
use lib.IntN.{ℤ, pos, ◌*ℤ◌}
use lib.Signed.{◌<ℤ◌}
use Rattle.rob_algebra.specs.Integer.{ring, one-mul}
use Rattle.rob_algebra.specs.IntegerOrder.{mul-pos_z}
use Rattle.rob_linear.specs.Systems.{right, IsPrimitive, LiesAlong, RowOf, IsBasis, IsNonnegative, with_objective}
use Rattle.rob_linear.specs.Programs.{Program, system_of, auxiliary_of, auxiliary_place, without_auxiliary, kept_row, kept_of}
use Rattle.rob_linear.specs.Turns.{own_of, StandsWith}
use Rattle.rob_linear.specs.Paths.{HasAuxiliary, EndsInFirstPhase}
use Rattle.rob_linear.specs.Multiples.{IsParallel, AreParallel, IsMultipleRow, HasMultipleRows, IsClearedBy, StandsMultiple}
use Rattle.rob_linear.proofs.Bases.Solutions.{tags_in}
use Rattle.rob_linear.proofs.Bases.Exact.{primitive_same}
use Rattle.rob_linear.proofs.Bases.Primitive.{primitive_part}
use Rattle.rob_linear.proofs.BasisPaths.Costs.{spanned_restarted, with_objective_low, with_objective_at}
use Rattle.rob_linear.proofs.BasisPaths.Starts.{system_tagged, auxiliary_tagged}
use Rattle.rob_linear.proofs.BasisPaths.Auxiliary.{farkas_primitive}
use Rattle.rob_linear.proofs.BasisPaths.LastBases.{never_at_zero}
use Rattle.rob_linear.proofs.BasisPaths.Phases.{place_in}
use Rattle.rob_linear.proofs.BasisPaths.TwoPhases.{kept_is, kept_tagged, phase_change}
use Rattle.rob_linear.proofs.Bases.Turns.{own_low}
use Rattle.rob_linear.proofs.RowForms.Multiples.{parallel_sym, multiple_parallel, multiples_in, primitive_row, multiple_rows_exist, rows_parallel, basis_multiples, cleared_row, order_parallel, none_improves_parallel}

-- a pivot turns the kept row as the others
pub kept_multiple : (P : Program) (own own' : ℕ → ℕ) (rows : ℕ → ℕ → ℤ) (kept new : ℕ → ℤ) (e col : ℕ)
    → HasMultipleRows (auxiliary_of P) own rows → IsMultipleRow (kept_of P) own P.m kept → e < P.m → own' e ≡ col
    → ((j : ℕ) → j ≢ e → own' j ≡ own j) → IsClearedBy (suc (right (kept_of P))) col kept (rows e) new
    → IsMultipleRow (kept_of P) own' P.m new
kept_multiple P own own' rows kept new e col h k el at other c =
    let r : IsMultipleRow (auxiliary_of P) own e (rows e) = h.rows_of e (omega arith) in
    let along : LiesAlong (kept_of P) own e (rows e) = record {
      zeros = r.zeros;
      spanned = spanned_restarted (auxiliary_of P) (kept_row P) (rows e) (auxiliary_tagged P).last
          (ap (rows e) (sym h.last) ∙ r.zeros P.m (omega arith) (omega arith))
          (λ t k tl kl. sym (kept_is P t k tl)) r.spanned;
    } in
    cleared_row (kept_of P) own own' kept (rows e) new e col P.m (tags_in (kept_of P) (kept_tagged P))
    (multiples_in (auxiliary_of P) own rows h) at other (omega arith) (omega arith) k along c

-- the auxiliary column has left
pub change_multiple : (P : Program) (basis : ℕ → ℕ) (rows : ℕ → ℕ → ℤ) (kept : ℕ → ℤ)
    → StandsMultiple (auxiliary_of P) basis rows → IsMultipleRow (kept_of P) (own_of (kept_of P) basis) P.m kept
    → ¬ (HasAuxiliary P basis) → StandsMultiple (system_of P) basis (without_auxiliary P rows kept)
change_multiple P basis rows kept s k no_aux =
    let own : ℕ → ℕ = own_of (kept_of P) basis in
    let bound : (j : ℕ) → j ≤ P.m → own_of (kept_of P) basis j ≤ suc (suc (P.n + P.m)) =
    multiples_in (auxiliary_of P) (own_of (auxiliary_of P) basis) rows s.multiples in
    let b : (prim : ℕ → ℕ → ℤ) × IsBasis (auxiliary_of P) (own_of (auxiliary_of P) basis) prim =
    multiple_rows_exist (auxiliary_of P) (own_of (auxiliary_of P) basis) rows (auxiliary_tagged P) s.multiples in
    let par : AreParallel (auxiliary_of P) rows b.0 =
    rows_parallel (auxiliary_of P) (own_of (auxiliary_of P) basis) b.0 rows b.1 s.multiples in
    let om : own_of (kept_of P) basis P.m ≤ suc (suc (P.n + P.m)) = bound P.m (omega arith) in
    let w : (f : ℤ) × (new : ℕ → ℤ) × (pos 0 <ℤ f) × ((j : ℕ) → j < suc (suc (suc (P.n + P.m))) → f *ℤ new j ≡ kept j)
    × IsPrimitive (suc (suc (suc (P.n + P.m)))) new =
    primitive_part (suc (suc (suc (P.n + P.m)))) kept (own_of (kept_of P) basis P.m) (omega arith) k.positive in
    let e : IsParallel (suc (suc (suc (P.n + P.m)))) kept w.1 = record {
      p = pos 1;
      q = w.0;
      p_positive = omega (arith, ints);
      q_positive = w.2;
      same = λ j jl. one-mul (kept j) ∙ sym (w.3 j jl);
    } in
    let kr : RowOf (kept_of P) (own_of (kept_of P) basis) P.m w.1 =
    primitive_row (kept_of P) (own_of (kept_of P) basis) P.m kept w.1 (kept_tagged P) bound (omega arith) k e w.4 in
    let sw : StandsWith (auxiliary_of P) basis b.0 = record {
      is_basis = b.1;
      feasible = order_parallel (auxiliary_of P) rows b.0 (auxiliary_tagged P) par s.feasible;
    } in
    let z : StandsWith (system_of P) basis (without_auxiliary P b.0 w.1) = phase_change P basis b.0 w.1 sw kr no_aux in
    let m : HasMultipleRows (system_of P) (own_of (system_of P) basis) (without_auxiliary P b.0 w.1) =
    basis_multiples (system_of P) (own_of (system_of P) basis) (without_auxiliary P b.0 w.1) z.is_basis in
    let placed : (r s : ℕ → ℤ) → IsParallel (suc (suc (suc (P.n + P.m)))) r s
    → IsParallel (suc (suc (P.n + P.m))) (λ j. r (auxiliary_place P j)) (λ j. s (auxiliary_place P j)) =
    (λ r s h. record {
      p = h.p;
      q = h.q;
      p_positive = h.p_positive;
      q_positive = h.q_positive;
      same = λ j jl. let g : auxiliary_place P j ≤ suc (suc (P.n + P.m)) = place_in P j (omega arith) in
          h.same (auxiliary_place P j) (omega arith);
    }) in
    let all : AreParallel (system_of P) (without_auxiliary P b.0 w.1) (without_auxiliary P rows kept) =
    (λ i il.
    placed (with_objective P.m b.0 w.1 i) (with_objective P.m rows kept i) (elim (cases_eq i P.m) [
      | inl c ↦
          subst (λ v. IsParallel (suc (suc (suc (P.n + P.m)))) (with_objective P.m b.0 w.1 v)
          (with_objective P.m rows kept v)) (sym c)
          (subst (λ v. IsParallel (suc (suc (suc (P.n + P.m)))) v (with_objective P.m rows kept P.m))
          (sym (with_objective_at P.m b.0 w.1))
          (subst (λ v. IsParallel (suc (suc (suc (P.n + P.m)))) w.1 v) (sym (with_objective_at P.m rows kept))
          (parallel_sym (suc (suc (suc (P.n + P.m)))) kept w.1 e)))
      | inr d ↦
          subst (λ v. IsParallel (suc (suc (suc (P.n + P.m)))) v (with_objective P.m rows kept i))
          (sym (with_objective_low P.m b.0 w.1 i (omega arith)))
          (subst (λ v. IsParallel (suc (suc (suc (P.n + P.m)))) (b.0 i) v)
          (sym (with_objective_low P.m rows kept i (omega arith)))
          (parallel_sym (suc (suc (suc (P.n + P.m)))) (rows i) (b.0 i) (par i il)))
    ])) in
    record {
      multiples = record {
        inside = m.inside;
        last = m.last;
        rows_of = λ i il. multiple_parallel (system_of P) (own_of (system_of P) basis) i (without_auxiliary P b.0 w.1 i)
            (without_auxiliary P rows kept i) (tags_in (system_of P) (system_tagged P))
            (multiples_in (system_of P) (own_of (system_of P) basis) (without_auxiliary P b.0 w.1) m) il
            (all i il) (m.rows_of i il);
      };
      feasible = order_parallel (system_of P) (without_auxiliary P b.0 w.1) (without_auxiliary P rows kept)
          (system_tagged P) all z.feasible;
    }

-- no column improves the auxiliary objective
pub ends_multiple : (P : Program) (basis : ℕ → ℕ) (rows : ℕ → ℕ → ℤ) → StandsMultiple (auxiliary_of P) basis rows
    → HasAuxiliary P basis → IsNonnegative (suc (P.n + P.m)) (rows P.m) → EndsInFirstPhase P basis
ends_multiple P basis rows s h n =
    let b : (prim : ℕ → ℕ → ℤ) × IsBasis (auxiliary_of P) (own_of (auxiliary_of P) basis) prim =
    multiple_rows_exist (auxiliary_of P) (own_of (auxiliary_of P) basis) rows (auxiliary_tagged P) s.multiples in
    let par : AreParallel (auxiliary_of P) rows b.0 =
    rows_parallel (auxiliary_of P) (own_of (auxiliary_of P) basis) b.0 rows b.1 s.multiples in
    let sw : StandsWith (auxiliary_of P) basis b.0 = record {
      is_basis = b.1;
      feasible = order_parallel (auxiliary_of P) rows b.0 (auxiliary_tagged P) par s.feasible;
    } in
    (b.0, h, b.1, never_at_zero P basis b.0 sw h (none_improves_parallel (auxiliary_of P) rows b.0 par n))

-- the weights: the objective's slack entries in lowest terms
pub weights_multiple : (P : Program) (basis : ℕ → ℕ) (rows prim : ℕ → ℕ → ℤ) (d : ℤ) (w : ℕ → ℤ)
    → HasMultipleRows (auxiliary_of P) (own_of (auxiliary_of P) basis) rows → HasAuxiliary P basis
    → IsBasis (auxiliary_of P) (own_of (auxiliary_of P) basis) prim → pos 0 <ℤ d
    → ((i : ℕ) → i < P.m → d *ℤ w i ≡ rows P.m (P.n + i)) → IsPrimitive P.m w → (i : ℕ) → i < P.m
    → prim P.m (P.n + i) ≡ w i
weights_multiple P basis rows prim d w s h b dp e pw i il =
    let par : IsParallel (suc (suc (suc (P.n + P.m)))) (rows P.m) (prim P.m) =
    rows_parallel (auxiliary_of P) (own_of (auxiliary_of P) basis) prim rows b s P.m (omega arith) in
    let same : (t : ℕ) → t < P.m → (par.p *ℤ d) *ℤ w t ≡ par.q *ℤ prim P.m (P.n + t) =
    (λ t tl.
    let a : (par.p *ℤ d) *ℤ w t ≡ par.p *ℤ (d *ℤ w t) = simp ring in
    a ∙ ap (λ v. par.p *ℤ v) (e t tl) ∙ par.same (P.n + t) (omega arith)) in
    sym (primitive_same P.m (par.p *ℤ d) par.q w (λ t. prim P.m (P.n + t))
    (mul-pos_z par.p d par.p_positive dp) par.q_positive pw
    (farkas_primitive P (own_of (auxiliary_of P) basis) prim h.0 b h.1
    (own_low (auxiliary_of P) basis h.0 h.1 ∙ sym h.2)) same i il)
