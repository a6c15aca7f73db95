-- Programs that differ in their cost alone share the first phase. So where a program with a cost of zeros ends,
-- the path of each other cost goes on, and a search may begin at a basis that was found once.
use Rattle.std.proofs.Common.{◌≡◌, ℕ, zero, suc, ◌+◌, ◌<◌, ◌≤◌, sym, ap, ◌∙◌, arith, inl, inr}
use Rattle.std.proofs.lemmas.Int.{ints}
use Rattle.std.proofs.lemmas.Bool.{cases_eq, cases_lt}
use Rattle.std.proofs.lemmas.Bool.Decides.{nat_tests}
use lib.IntN.{ℤ, pos, ◌*ℤ◌, neg_ℤ}
use lib.Signed.{◌<ℤ◌}
use Rattle.rob_linear.specs.Systems.{System, RowOf}
use Rattle.rob_linear.specs.Programs.{Program, with_cost, starting_row, system_of, auxiliary_of}
use Rattle.rob_linear.specs.Stages.{cost_before, truncated, IsStage, unit_row}
use Rattle.rob_linear.specs.Turns.{own_of, IsSameBasis, TurnsTo, TurnsFrom}
use Rattle.rob_linear.specs.Paths.{HasAuxiliary, Turned, Reached, ReachedFrom}
use Rattle.rob_linear.proofs.LinearPrograms.Sums.{sum_ext}
use Rattle.rob_linear.proofs.Bases.Unique.{row_equal}
use Rattle.rob_linear.proofs.CostChange.Stages.{row_same, unit_zero, first_stage}
use Rattle.rob_linear.proofs.BasisPaths.ProgramPaths.{stays_out}
use Rattle.rob_linear.proofs.BasisPaths.TwoPhases.{turned_standing}

-- ---- the same basis, written otherwise
same_turn : (S : System) (basis next next' : ℕ → ℕ) → IsSameBasis S.m next next'
    → TurnsTo S basis next → TurnsTo S basis next'
same_turn S basis next next' h t = record {
  rows = t.rows;
  position = t.position;
  column = t.column;
  is_basis = t.is_basis;
  enters = t.enters;
  leaves = t.leaves;
  exchanged = λ i l. sym (h i l) ∙ t.exchanged i l;
}

pub turned_same : (P : Program) (k : ℕ) (basis basis' : ℕ → ℕ) → IsSameBasis P.m basis basis'
    → Turned P k basis → Turned P k basis'
turned_same P zero basis basis' h t =
    elim t [
      | inl s ↦ inl record { nonnegative = s.nonnegative; slacks = λ i l. sym (h i l) ∙ s.slacks i l }
      | inr s ↦ inr record {
        row = s.row;
        inside = s.inside;
        negative = s.negative;
        first = s.first;
        exchanged = λ i l. sym (h i l) ∙ s.exchanged i l;
      }
    ]
turned_same P (suc k) basis basis' h t = (
  t.0,
  t.1,
  elim t.2 [
    | inl a ↦ inl (a.0, same_turn (auxiliary_of P) t.0 basis basis' h a.1)
    | inr a ↦ inr (a.0, same_turn (system_of P) t.0 basis basis' h a.1)
  ],
)

-- ---- a cost of zeros
free_row : (P : Program) (d : ℕ → ℤ) (t k : ℕ) → ((j : ℕ) → j < P.n → d j ≡ pos 0) → t ≤ P.m
    → starting_row (truncated P zero) t k ≡ starting_row (with_cost P d) t k
free_row P d t k h l =
    elim (cases_eq t P.m) [
      | inr e ↦ row_same P (cost_before P zero) d t k (omega arith)
      | inl e ↦ elim (cases_lt k P.n) [
        | inl a ↦
            let z : d k ≡ pos 0 = h k a in
            let x : starting_row (truncated P zero) t k ≡ pos 0 = grind (arith, nat_tests) in
            let y : starting_row (with_cost P d) t k ≡ neg_ℤ (d k) = grind (arith, nat_tests) in
            x ∙ sym (y ∙ ap neg_ℤ z)
        | inr a ↦ elim (cases_eq k (P.n + P.m)) [ inl b ↦ grind (arith, nat_tests) | inr b ↦ grind (arith, nat_tests) ]
      ]
    ]

-- no column improves on a cost of zeros, so there is no turn
no_turn : (P : Program) (d : ℕ → ℤ) (basis next : ℕ → ℕ) → ((j : ℕ) → j < P.n → d j ≡ pos 0)
    → ¬ (TurnsTo (system_of (with_cost P d)) basis next)
no_turn P d basis next h t =
    let cl : t.column < P.n + P.m = t.enters.inside in
    let u : IsStage P (own_of (system_of (with_cost P d)) basis) zero (unit_row (P.n + P.m)) =
    first_stage P (own_of (system_of (with_cost P d)) basis) t.rows d t.is_basis in
    let v : RowOf (system_of (with_cost P d)) (own_of (system_of (with_cost P d)) basis) P.m (unit_row (P.n + P.m)) =
    record {
      along = record {
        zeros = u.zeros;
        spanned = λ k kl.
            u.spanned k kl
            ∙ sum_ext (suc P.m) (λ t. unit_row (P.n + P.m) (P.n + t) *ℤ starting_row (truncated P zero) t k)
            (λ t. unit_row (P.n + P.m) (P.n + t) *ℤ starting_row (with_cost P d) t k) (λ t tl.
            ap (λ w. unit_row (P.n + P.m) (P.n + t) *ℤ w) (free_row P d t k h (omega arith)));
      };
      positive = u.positive;
      primitive = u.primitive;
    } in
    let e : t.rows P.m t.column ≡ unit_row (P.n + P.m) t.column =
    row_equal (system_of (with_cost P d)) (own_of (system_of (with_cost P d)) basis) t.rows P.m (unit_row (P.n + P.m))
    t.is_basis (omega arith) v t.column (omega arith) in
    let z : t.rows P.m t.column ≡ pos 0 = e ∙ unit_zero (P.n + P.m) t.column (omega arith) in
    let i : t.rows P.m t.column <ℤ pos 0 = t.enters.improving in
    omega (arith, ints)

-- the path of a cost of zeros is the beginning of the path of every cost
pub free_turned : (P : Program) (d : ℕ → ℤ) (k : ℕ) (basis : ℕ → ℕ) → ((j : ℕ) → j < P.n → d j ≡ pos 0)
    → Turned (with_cost P d) k basis → Turned P k basis
free_turned P d zero basis h t =
    elim t [
      | inl s ↦ inl record { nonnegative = s.nonnegative; slacks = s.slacks }
      | inr s ↦ inr record {
        row = s.row;
        inside = s.inside;
        negative = s.negative;
        first = s.first;
        exchanged = s.exchanged;
      }
    ]
free_turned P d (suc k) basis h t = (
  t.0,
  free_turned P d k t.0 h t.1,
  elim t.2 [
    | inl a ↦ inl (a.0, a.1)
    | inr a ↦ absurd (no_turn P d t.0 basis h a.1)
  ],
)

-- a path of the program from a basis that is on its path is on it
pub turned_on : (P : Program) (d : ℕ) (start basis : ℕ → ℕ) → Reached P start → ¬ (HasAuxiliary P start)
    → TurnsFrom (system_of P) start d basis → Reached P basis × ¬ (HasAuxiliary P basis)
turned_on P zero start basis r no_aux f = (
  (r.0, turned_same P r.0 start basis (λ i l. sym (f i l)) r.1),
  (λ h. no_aux (h.0, h.1, h.2 ∙ f h.0 h.1)),
)
turned_on P (suc d) start basis r no_aux f =
    let w : Reached P f.0 × ¬ (HasAuxiliary P f.0) = turned_on P d start f.0 r no_aux f.1 in (
      (suc w.0.0, (f.0, w.0.1, inr (w.1, f.2))),
      stays_out P f.0 basis (turned_standing P w.0.0 f.0 w.0.1) w.1 f.2,
    )

pub reached_on : (P : Program) (d : ℕ → ℤ) (start basis : ℕ → ℕ) → ((j : ℕ) → j < P.n → d j ≡ pos 0)
    → Reached (with_cost P d) start → ¬ (HasAuxiliary P start) → ReachedFrom P start basis → Reached P basis
reached_on P d start basis h r no_aux f =
    (turned_on P f.turns start basis (r.0, free_turned P d r.0 start h r.1) no_aux f.turned).0
