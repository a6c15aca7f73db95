-- A search that goes on from the solved program of the set: its path is the set's path, and then turns by its own cost.
use Rattle.std.proofs.Common.{◌≡◌, ℕ, zero, suc, ◌+◌, ◌<◌, ◌≤◌, refl, subst, arith, inl, inr, ◌⊎◌}
use Rattle.std.proofs.lemmas.Bool.{cases_lt}
use lib.IntN.{pos}
use Rattle.rob_linear.specs.Vectors.{Columns, Matrix, Vector}
use Rattle.rob_linear.specs.Systems.{IsBasis}
use Rattle.rob_linear.specs.Programs.{Program, with_cost, system_of}
use Rattle.rob_linear.specs.Turns.{own_of, IsSameBasis, TurnsFrom}
use Rattle.rob_linear.specs.Paths.{HasAuxiliary, Steps, Turned, Reached, Last, IsFeasibleBasis, ReachedFrom, LastFrom, EndsInFirstPhase}
use Rattle.rob_linear.specs.WideRows.{IsWideStage, HasWideRow, HasWideRowFrom}
use Rattle.rob_linear.proofs.Bases.Turns.{own_low}
use Rattle.rob_linear.proofs.BasisPaths.TwoPhases.{turned_standing}
use Rattle.rob_linear.proofs.BasisPaths.ProgramPaths.{turned_unique, steps_same, stays_out}
use Rattle.rob_linear.proofs.BasisPaths.LastBases.{first_phase_is_last}
use Rattle.rob_linear.proofs.CostChange.OtherCosts.{turned_same, free_turned, turned_on}
use Rattle.rob_linear.proofs.CostChange.WideRows.{own_wide}

-- a basis whose rows are the program's own is without the auxiliary column
pub own_without : (P : Program) (basis : Columns) (rows : Matrix)
    → IsBasis (system_of P) (own_of (system_of P) basis) rows
    → ¬ (HasAuxiliary P basis)
own_without P basis rows b h =
    let l : own_of (system_of P) basis h.0 < P.n + P.m = b.inside h.0 h.1 in
    let e : own_of (system_of P) basis h.0 ≡ basis h.0 = own_low (system_of P) basis h.0 h.1 in
    let f : P.n + P.m ≡ basis h.0 = h.2 in
    absurd (omega arith)

-- a path has a basis after each smaller number of turns, and one that comes next
left_before : (P : Program) (j k : ℕ) (basis : Columns) → j < k → Turned P k basis
    → (before : Columns) × (next : Columns) × Turned P j before × Steps P before next
left_before P j zero basis l t = absurd (omega arith)
left_before P j (suc k) basis l t =
    elim (cases_lt j k) [
      | inl h ↦ left_before P j k t.0 h t.1
      | inr h ↦ (t.0, basis, subst (λ v. Turned P v t.0) (let e : k ≡ j = omega arith in e) t.1, t.2)
    ]

difference : (a b : ℕ) → a ≤ b → (e : ℕ) × (b ≡ a + e)
difference zero b l = (b, omega arith)
difference (suc a) zero l = absurd (omega arith)
difference (suc a) (suc b) l =
    let w : (e : ℕ) × (b ≡ a + e) = difference a b (omega arith) in
    let e : b ≡ a + w.0 = w.1 in
    (w.0, omega arith)

module _ (P : Program) (d : Vector) (free : (j : ℕ) → j < P.n → d j ≡ pos 0) where
  module _ (start : Columns) (last : Last (with_cost P d) start) (without : ¬ (HasAuxiliary P start)) where
    start_on_path : Reached P start
    start_on_path = (last.reached.0, free_turned P d last.reached.0 start free last.reached.1)

    start_feasible : IsFeasibleBasis P start
    start_feasible =
        elim (turned_standing P start_on_path.0 start start_on_path.1) [
          | inl f ↦ absurd (without f.0)
          | inr f ↦ record { rows = f.1.0; stands = f.1.1 }
        ]

    -- what the path reaches after its turns with no cost, turns of its own cost reach from there
    after : (e k : ℕ) (basis : Columns) → k ≡ last.reached.0 + e → Turned P k basis
        → TurnsFrom (system_of P) start e basis
    after zero k basis h t =
        let same : k ≡ last.reached.0 = omega arith in
        turned_unique P last.reached.0 basis start (subst (λ v. Turned P v basis) same t)
        (free_turned P d last.reached.0 start free last.reached.1)
    after (suc e) zero basis h t = absurd (omega arith)
    after (suc e) (suc k) basis h t =
        let f : TurnsFrom (system_of P) start e t.0 = after e k t.0 (omega arith) t.1 in
        let no_aux : ¬ (HasAuxiliary P t.0) = (turned_on P e start t.0 start_on_path without f).1 in
        (t.0, f, elim t.2 [ inl a ↦ absurd (no_aux a.0) | inr a ↦ a.1 ])

    late : (k : ℕ) (basis : Columns) → last.reached.0 ≤ k → Turned P k basis → ReachedFrom P start basis
    late k basis l t =
        let w : (e : ℕ) × (k ≡ last.reached.0 + e) = difference last.reached.0 k l in
        record { feasible = start_feasible; turns = w.0; turned = after w.0 k basis w.1 t }

    -- each basis of the path is one without the cost, or is reached from where that path ends
    pub path_splits : (basis : Columns) → Reached P basis → Reached (with_cost P d) basis ⊎ ReachedFrom P start basis
    path_splits basis r =
        elim (cases_lt r.0 last.reached.0) [
          | inl l ↦
              let w : (before : Columns) × (next : Columns) × Turned (with_cost P d) r.0 before
              × Steps (with_cost P d) before next =
              left_before (with_cost P d) r.0 last.reached.0 start l last.reached.1 in
              let same : IsSameBasis P.m w.0 basis =
              turned_unique P r.0 w.0 basis (free_turned P d r.0 w.0 free w.2) r.1 in
              inl (r.0, turned_same (with_cost P d) r.0 w.0 basis same w.2)
          | inr l ↦ inr (late r.0 basis (omega arith) r.1)
        ]

    -- what resuming ends at is the last basis of the whole path
    pub resumed_is_last : (basis : Columns) → LastFrom P start basis → Last P basis
    resumed_is_last basis l =
        let w : Reached P basis × ¬ (HasAuxiliary P basis) =
        turned_on P l.reached.turns start basis start_on_path without l.reached.turned in
        record {
          reached = w.0;
          ends = λ next t. elim t [ inl a ↦ w.1 a.0 | inr a ↦ l.ends next a.1 ];
        }

    -- and the last basis of the whole path is what resuming ends at
    pub last_is_resumed : (basis : Columns) → Last P basis → LastFrom P start basis
    last_is_resumed basis l =
        let r : ReachedFrom P start basis =
        elim (cases_lt l.reached.0 last.reached.0) [
          | inl h ↦
              let w : (before : Columns) × (next : Columns) × Turned P l.reached.0 before × Steps P before next =
              left_before P l.reached.0 last.reached.0 start h
              (free_turned P d last.reached.0 start free last.reached.1) in
              absurd (l.ends w.1
              (steps_same P w.0 basis w.1 (turned_unique P l.reached.0 w.0 basis w.2 l.reached.1) w.3))
          | inr h ↦ late l.reached.0 basis (omega arith) l.reached.1
        ] in
        let no_aux : ¬ (HasAuxiliary P basis) = (turned_on P r.turns start basis start_on_path without r.turned).1 in
        record { reached = r; ends = λ next t. l.ends next (inr (no_aux, t)) }

    -- a row that is wide where resuming comes is wide on the whole path
    pub resumed_wide : (limit : ℕ) (basis : Columns) (i : ℕ) → HasWideRowFrom limit P start basis i
        → HasWideRow limit P basis i
    resumed_wide limit basis i h =
        record {
          reached = (turned_on P h.reached.turns start basis start_on_path without h.reached.turned).0;
          wide = own_wide limit P basis i h.wide;
        }

    -- and so is a stage of the objective's row that is made as the cost is put on
    pub stage_wide : (limit : ℕ) → IsWideStage limit P start → HasWideRow limit P start P.m
    stage_wide limit h = record { reached = start_on_path; wide = inr (inl (refl, h)) }

  -- ---- the first phase knows no cost
  free_starts : (k : ℕ) (basis : Columns) → Turned P k basis → HasAuxiliary P basis → Turned (with_cost P d) k basis
  free_starts zero basis t h =
      elim t [
        | inl s ↦ inl record { nonnegative = s.nonnegative; slacks = s.slacks }
        | inr s ↦ inr record {
          row = s.row;
          inside = s.inside;
          negative = s.negative;
          first = s.first;
          exchanged = s.exchanged;
        }
      ]
  free_starts (suc k) basis t h =
      elim t.2 [
        | inl a ↦ (t.0, free_starts k t.0 t.1 a.0, inl (a.0, a.1))
        | inr a ↦ absurd (stays_out P t.0 basis (turned_standing P k t.0 t.1) a.0 a.1 h)
      ]

  -- so where one ends infeasible the other does, at the same basis with the same rows
  pub infeasible_without_cost : (basis : Columns) → Last P basis → EndsInFirstPhase P basis
      → Last (with_cost P d) basis × EndsInFirstPhase (with_cost P d) basis
  infeasible_without_cost basis l f =
      let e : EndsInFirstPhase (with_cost P d) basis =
      (f.0, f.1, f.2, record { feasible = f.3.feasible; no_improving = f.3.no_improving; below = f.3.below }) in
      (first_phase_is_last (with_cost P d) basis (l.reached.0, free_starts l.reached.0 basis l.reached.1 f.1) e, e)

  pub infeasible_with_cost : (basis : Columns) → Last (with_cost P d) basis → EndsInFirstPhase (with_cost P d) basis
      → Last P basis × EndsInFirstPhase P basis
  infeasible_with_cost basis l f =
      let e : EndsInFirstPhase P basis =
      (f.0, f.1, f.2, record { feasible = f.3.feasible; no_improving = f.3.no_improving; below = f.3.below }) in
      (first_phase_is_last P basis (l.reached.0, free_turned P d l.reached.0 basis free l.reached.1) e, e)
