-- Programs with the same numbers have the same path of bases, the same endings and the same wide rows.
use Rattle.std.proofs.Common.{◌≡◌, ℕ, zero, suc, ◌+◌, ◌<◌, ◌≤◌, sym, ap, ap₂, ◌∙◌, subst, arith, inl, inr, ◌⊎◌, cond, ltb, eqb}
use Rattle.std.proofs.Math.Path.{fun_ext}
use Rattle.std.proofs.lemmas.Bool.{cases_lt}
use Rattle.std.proofs.lemmas.Bool.Decides.{nat_tests}
use lib.IntN.{ℤ, pos, ◌*ℤ◌, neg_ℤ}
use lib.Signed.{◌<ℤ◌, ◌≤ℤ◌}
use Rattle.rob_linear.specs.Vectors.{Columns, Vector, Matrix}
use Rattle.rob_linear.specs.Systems.{System, right, RowOf, IsBasis, IsCombined, IsNonnegative, Feasible, EndsOptimal, EndsUnbounded}
use Rattle.rob_linear.specs.Optimality.{IsScaled, IsBasicPoint, IsBasicMove}
use Rattle.rob_linear.specs.Programs.{Program, system_of, auxiliary_tag, auxiliary_of, kept_row, kept_of}
use Rattle.rob_linear.specs.Turns.{ComesBefore, own_of, StandsWith, TurnsTo, TurnsFrom}
use Rattle.rob_linear.specs.Stages.{truncated, IsStage, unit_row, IsHalfStage}
use Rattle.rob_linear.specs.Paths.{StartsAtSlacks, StartsAtAuxiliary, HasAuxiliary, Steps, Turned, Reached, Last, ReachedFrom, LastFrom}
use Rattle.rob_linear.specs.WideRows.{HasWideEntry, IsWideIn, IsWideStage, NeedsAuxiliary, IsWideAt, HasWideRow, IsOwnWideAt, HasWideRowFrom}
use Rattle.rob_algebra.specs.Fraction.{Fraction}
use Rattle.rob_counterpart.specs.Endings.{OptimalEnding, InfeasibleEnding, UnboundedEnding}
use Rattle.rob_counterpart.specs.SamePrograms.{AreSame}
use Rattle.rob_counterpart.proofs.Positions.SameSystems.{systems_same, auxiliaries_same}
use Rattle.rob_linear.proofs.BasisPaths.TwoPhases.{kept_is}

pub same_back : (P Q : Program) → AreSame P Q → AreSame Q P
same_back P Q h =
    let m : P.m ≡ Q.m = h.height in
    let n : P.n ≡ Q.n = h.width in
    record {
      height = sym h.height;
      width = sym h.width;
      rows = λ t k tl kl. sym (h.rows t k (omega arith) (omega arith));
      rights = λ t tl. sym (h.rights t (omega arith));
      costs = λ k kl. sym (h.costs k (omega arith));
    }

-- ---- the kept row and the truncated costs
kept_left : (P : Program) (t k : ℕ) → P.m ≤ t → k < P.n → kept_row P t k ≡ neg_ℤ (P.c k)
kept_left P t k l h = grind (arith, nat_tests)

kept_behind : (P : Program) (t k : ℕ) → P.m ≤ t → P.n ≤ k
    → kept_row P t k ≡ cond (eqb k (suc (P.n + P.m))) (pos 1) (pos 0)
kept_behind P t k l h = grind (arith, nat_tests)

kept_same : (P Q : Program) (t k : ℕ) → AreSame P Q → kept_row P t k ≡ kept_row Q t k
kept_same P Q t k h =
    let m : P.m ≡ Q.m = h.height in
    let n : P.n ≡ Q.n = h.width in
    elim (cases_lt t P.m) [
      | inl l ↦ kept_is P t k l ∙ ap (λ (S : System). S.start t k) (auxiliaries_same P Q h)
          ∙ sym (kept_is Q t k (omega arith))
      | inr l ↦ elim (cases_lt k P.n) [
        | inl b ↦ kept_left P t k l b ∙ ap neg_ℤ (h.costs k b) ∙ sym (kept_left Q t k (omega arith) (omega arith))
        | inr b ↦
            kept_behind P t k l b
            ∙ ap (λ v. cond (eqb k v) (pos 1) (pos 0))
            (let e : suc (P.n + P.m) ≡ suc (Q.n + Q.m) = omega arith in e)
            ∙ sym (kept_behind Q t k (omega arith) (omega arith))
      ]
    ]

kept_systems : (P Q : Program) → AreSame P Q → kept_of P ≡ kept_of Q
kept_systems P Q h =
    let start : kept_row P ≡ kept_row Q = fun_ext (λ t. fun_ext (λ k. kept_same P Q t k h)) in
    let tags : auxiliary_tag P ≡ auxiliary_tag Q = ap (λ (S : System). S.tag) (auxiliaries_same P Q h) in
    λ i. record { m = h.height i; columns = suc (h.width i + h.height i); tag = tags i; start = start i }

truncated_same : (P Q : Program) (j : ℕ) → AreSame P Q → AreSame (truncated P j) (truncated Q j)
truncated_same P Q j h = record {
  height = h.height;
  width = h.width;
  rows = h.rows;
  rights = h.rights;
  costs = λ k kl. ap (λ v. cond (ltb k j) v (pos 0)) (h.costs k kl);
}

module _ (P Q : Program) (h : AreSame P Q) where
  -- the basic columns of a basis, with the objective's
  pub own_same : (basis : Columns) → own_of (system_of P) basis ≡ own_of (system_of Q) basis
  own_same basis = ap (λ (S : System). own_of S basis) (systems_same P Q h)

  pub own_auxiliary_same : (basis : Columns) → own_of (auxiliary_of P) basis ≡ own_of (auxiliary_of Q) basis
  own_auxiliary_same basis = ap (λ (S : System). own_of S basis) (auxiliaries_same P Q h)

  -- ---- the path
  has_auxiliary : (basis : Columns) → HasAuxiliary P basis → HasAuxiliary Q basis
  has_auxiliary basis a =
      let m : P.m ≡ Q.m = h.height in
      let n : P.n ≡ Q.n = h.width in
      let l : a.0 < P.m = a.1 in
      let e : P.n + P.m ≡ basis a.0 = a.2 in
      (a.0, omega arith, omega arith)

  starts : (basis : Columns) → StartsAtSlacks P basis ⊎ StartsAtAuxiliary P basis
      → StartsAtSlacks Q basis ⊎ StartsAtAuxiliary Q basis
  starts basis (inl s) =
      let m : P.m ≡ Q.m = h.height in
      inl (record {
        nonnegative = λ i l. subst (λ v. pos 0 ≤ℤ v) (h.rights i (omega arith)) (s.nonnegative i (omega arith));
        slacks = λ i l. s.slacks i (omega arith) ∙ ap (λ v. v + i) h.width;
      })
  starts basis (inr s) =
      let m : P.m ≡ Q.m = h.height in
      let n : P.n ≡ Q.n = h.width in
      let l : s.row < P.m = s.inside in
      inr (record {
        row = s.row;
        inside = omega arith;
        negative = subst (λ v. v <ℤ pos 0) (h.rights s.row l) s.negative;
        first = λ i il. subst (λ (S : System). ¬ (ComesBefore S (S.start i) (pos 1) (S.start s.row) (pos 1)))
            (auxiliaries_same P Q h) (s.first i (omega arith));
        exchanged =
            λ i il. s.exchanged i (omega arith)
            ∙ ap₂ (λ a b. cond (eqb i s.row) a b) (let e : P.n + P.m ≡ Q.n + Q.m = omega arith in e)
            (ap (λ v. v + i) h.width);
      })

module _ (P Q : Program) (h : AreSame P Q) where
  steps : (basis next : Columns) → Steps P basis next → Steps Q basis next
  steps basis next (inl s) =
      inl (has_auxiliary P Q h basis s.0, subst (λ S. TurnsTo S basis next) (auxiliaries_same P Q h) s.1)
  steps basis next (inr s) =
      inr (
        (λ a. s.0 (has_auxiliary Q P (same_back P Q h) basis a)),
        subst (λ S. TurnsTo S basis next) (systems_same P Q h) s.1,
      )

  turned : (k : ℕ) (basis : Columns) → Turned P k basis → Turned Q k basis
  turned zero basis t = starts P Q h basis t
  turned (suc k) basis t = (t.0, turned k t.0 t.1, steps t.0 basis t.2)

  pub reached_same : (basis : Columns) → Reached P basis → Reached Q basis
  reached_same basis r = (r.0, turned r.0 basis r.1)

  -- ---- endings
  pub optimal_same : (own : Columns) (rows : Matrix) (x y : ℕ → Fraction) → OptimalEnding P own rows x y
      → OptimalEnding Q own rows x y
  optimal_same own rows x y en =
      let e : system_of P ≡ system_of Q = systems_same P Q h in
      record {
        basis = subst (λ S. IsBasis S own rows) e en.basis;
        ends = subst (λ S. EndsOptimal S rows) e en.ends;
        point = subst (λ S. IsBasicPoint S own rows x) e en.point;
        duals = subst (λ (S : System). IsScaled S.m y (rows S.m S.columns) (λ t. rows S.m (S.tag t))) e en.duals;
      }

  pub infeasible_same : (own : Columns) (rows : Matrix) → InfeasibleEnding P own rows → InfeasibleEnding Q own rows
  infeasible_same own rows en =
      let e : auxiliary_of P ≡ auxiliary_of Q = auxiliaries_same P Q h in
      record {
        basis = subst (λ S. IsBasis S own rows) e en.basis;
        ends = record {
          feasible = subst (λ S. Feasible S rows) e en.ends.feasible;
          no_improving = subst (λ (S : System). IsNonnegative S.columns (rows S.m)) e en.ends.no_improving;
          below = subst (λ (S : System). rows S.m (right S) <ℤ pos 0) e en.ends.below;
        };
      }

  pub unbounded_same : (own : Columns) (rows : Matrix) (column : ℕ) (x r : ℕ → Fraction)
      → UnboundedEnding P own rows column x r
      → UnboundedEnding Q own rows column x r
  unbounded_same own rows column x r en =
      let e : system_of P ≡ system_of Q = systems_same P Q h in
      record {
        basis = subst (λ S. IsBasis S own rows) e en.basis;
        ends = subst (λ S. EndsUnbounded S own rows column) e en.ends;
        point = subst (λ S. IsBasicPoint S own rows x) e en.point;
        move = subst (λ S. IsBasicMove S own rows column r) e en.move;
      }

  -- ---- wide rows
  stage_same : (own : Columns) (j : ℕ) (r : Vector) → IsStage P own j r → IsStage Q own j r
  stage_same own j r s =
      subst (λ v. RowOf (system_of (truncated Q j)) own v r) h.height
      (subst (λ S. RowOf S own P.m r) (systems_same (truncated P j) (truncated Q j) (truncated_same P Q j h)) s)

  half_same : (own : Columns) (j : ℕ) (r : Vector) → j < P.n → IsHalfStage P own j r → IsHalfStage Q own j r
  half_same own j r l s = record {
    stage = s.stage;
    is_stage = stage_same own j s.stage s.is_stage;
    put_in =
        let columns : P.n + P.m ≡ Q.n + Q.m = ap₂ ◌+◌ h.width h.height in
        subst (λ (v : ℕ). IsCombined (suc (suc v)) (pos 1) s.stage (Q.c j *ℤ s.stage v) (unit_row j) r) columns
        (subst (λ (v : ℤ). IsCombined (suc (suc (P.n + P.m))) (pos 1) s.stage (v *ℤ s.stage (P.n + P.m)) (unit_row j) r)
        (h.costs j l) s.put_in);
  }

  wide_stage : (limit : ℕ) (basis : Columns) → IsWideStage limit P basis → IsWideStage limit Q basis
  wide_stage limit basis w =
      let n : P.n ≡ Q.n = h.width in
      let l : w.0 < P.n = w.2 in
      (w.0, w.1, omega arith, by w.3, subst (λ S. HasWideEntry limit S w.1) (systems_same P Q h) w.4)
    where
      by : IsStage P (own_of (system_of P) basis) w.0 w.1 ⊎ IsHalfStage P (own_of (system_of P) basis) w.0 w.1
          → IsStage Q (own_of (system_of Q) basis) w.0 w.1 ⊎ IsHalfStage Q (own_of (system_of Q) basis) w.0 w.1
      by (inl s) =
          inl (subst (λ own. IsStage Q own w.0 w.1) (own_same P Q h basis)
          (stage_same (own_of (system_of P) basis) w.0 w.1 s))
      by (inr s) =
          inr (subst (λ own. IsHalfStage Q own w.0 w.1) (own_same P Q h basis)
          (half_same (own_of (system_of P) basis) w.0 w.1 w.2 s))

  needs_same : NeedsAuxiliary P → NeedsAuxiliary Q
  needs_same a =
      let m : P.m ≡ Q.m = h.height in
      let l : a.0 < P.m = a.1 in
      (a.0, omega arith, subst (λ v. v <ℤ pos 0) (h.rights a.0 l) a.2)

  wide_same : (limit : ℕ) (basis : Columns) (i : ℕ) → IsWideAt limit P basis i → IsWideAt limit Q basis i
  wide_same limit basis i (inl w) = inl (subst (λ S. IsWideIn limit S basis i) (systems_same P Q h) w)
  wide_same limit basis i (inr (inl w)) = inr (inl (w.0 ∙ h.height, wide_stage limit basis w.1))
  wide_same limit basis i (inr (inr w)) = inr (inr (needs_same w.0, by w.1))
    where
      by : IsWideIn limit (auxiliary_of P) basis i ⊎ IsWideIn limit (kept_of P) basis i
          → IsWideIn limit (auxiliary_of Q) basis i ⊎ IsWideIn limit (kept_of Q) basis i
      by (inl v) = inl (subst (λ S. IsWideIn limit S basis i) (auxiliaries_same P Q h) v)
      by (inr v) = inr (subst (λ S. IsWideIn limit S basis i) (kept_systems P Q h) v)

  pub own_wide_same : (limit : ℕ) (basis : Columns) (i : ℕ) → IsOwnWideAt limit P basis i → IsOwnWideAt limit Q basis i
  own_wide_same limit basis i (inl w) = inl (subst (λ S. IsWideIn limit S basis i) (systems_same P Q h) w)
  own_wide_same limit basis i (inr w) = inr (w.0 ∙ h.height, wide_stage limit basis w.1)

  pub wide_row_same : (limit : ℕ) (basis : Columns) (i : ℕ) → HasWideRow limit P basis i → HasWideRow limit Q basis i
  wide_row_same limit basis i w =
      record { reached = reached_same basis w.reached; wide = wide_same limit basis i w.wide }

module _ (P Q : Program) (h : AreSame P Q) where
  pub last_same : (basis : Columns) → Last P basis → Last Q basis
  last_same basis l = record {
    reached = reached_same P Q h basis l.reached;
    ends = λ next s. l.ends next (steps Q P (same_back P Q h) basis next s);
  }

  -- the same on the path from a given basis
  reached_from : (start basis : Columns) → ReachedFrom P start basis → ReachedFrom Q start basis
  reached_from start basis r = record {
    feasible = record {
      rows = r.feasible.rows;
      stands = subst (λ S. StandsWith S start r.feasible.rows) (systems_same P Q h) r.feasible.stands;
    };
    turns = r.turns;
    turned = subst (λ S. TurnsFrom S start r.turns basis) (systems_same P Q h) r.turned;
  }

  pub last_from : (start basis : Columns) → LastFrom P start basis → LastFrom Q start basis
  last_from start basis l = record {
    reached = reached_from start basis l.reached;
    ends = λ next s. l.ends next (subst (λ S. TurnsTo S basis next) (sym (systems_same P Q h)) s);
  }

  pub wide_row_from : (limit : ℕ) (start basis : Columns) (i : ℕ) → HasWideRowFrom limit P start basis i
      → HasWideRowFrom limit Q start basis i
  wide_row_from limit start basis i w = record {
    reached = reached_from start basis w.reached;
    wide = own_wide_same P Q h limit basis i w.wide;
  }
