-- The first phase with the auxiliary column kept out, told by the columns of the table's own basis.
use Rattle.std.proofs.Common.{◌≡◌, ◌≢◌, ℕ, suc, ◌+◌, ◌<◌, ◌≤◌, sym, ap, ◌∙◌, subst, arith, inl, inr}
use Rattle.std.proofs.lemmas.Bool.{cases_eq, cases_lt}
use lib.IntN.{ℤ, pos}
use lib.Signed.{◌<ℤ◌}
use Rattle.rob_linear.specs.Systems.{System}
use Rattle.rob_linear.specs.Programs.{Program, system_of, auxiliary_of, kept_of}
use Rattle.rob_linear.specs.Turns.{own_of, IsSameBasis}
use Rattle.rob_linear.specs.Paths.{HasAuxiliary, Turned}
use Rattle.rob_linear.specs.Multiples.{HasMultipleRows, StandsMultiple, put_at}
use Rattle.rob_linear.specs.Beside.{AreStarting, StandsBeside, HoldsBeside, path_basis, turned_columns, EntersBeside, IsBesidePivot, IsLeast, HasNoLeast, exchanged, swapped, without_column}
use Rattle.rob_linear.proofs.Bases.Turns.{own_low, own_high, own_same}
use Rattle.rob_linear.proofs.CostChange.OtherCosts.{turned_same}
use Rattle.rob_linear.proofs.KeptOut.Beside.{put_same, put_other, own_put_same, own_put_other}
use Rattle.rob_linear.proofs.KeptOut.BesideTurns.{least_is_other}
use Rattle.rob_linear.proofs.KeptOut.BesidePaths.{beside_turn, beside_leaves, beside_pivoted, multiples_swapped, exchanged_q, exchanged_p, exchanged_other, exchanged_low}
use Rattle.rob_linear.proofs.KeptOut.BesideLoops.{start_stands}

-- rows of the same columns
pub multiples_same : (S : System) (own own' : ℕ → ℕ) (rows : ℕ → ℕ → ℤ) → ((i : ℕ) → i ≤ S.m → own' i ≡ own i)
    → HasMultipleRows S own' rows → HasMultipleRows S own rows
multiples_same S own own' rows e h = record {
  inside = λ i l. subst (λ v. v < S.columns) (e i (omega arith)) (h.inside i l);
  last = sym (e S.m (omega arith)) ∙ h.last;
  rows_of = λ i l. record {
    along = record {
      zeros = λ j jl d. subst (λ v. rows i v ≡ pos 0) (e j jl) ((h.rows_of i l).zeros j jl d);
      spanned = (h.rows_of i l).spanned;
    };
    positive = subst (λ v. pos 0 <ℤ rows i v) (e i l) (h.rows_of i l).positive;
  };
}

pub stands_multiple_same : (S : System) (basis basis' : ℕ → ℕ) (rows : ℕ → ℕ → ℤ) → IsSameBasis S.m basis basis'
    → StandsMultiple S basis rows → StandsMultiple S basis' rows
stands_multiple_same S basis basis' rows h s = record {
  multiples = multiples_same S (own_of S basis') (own_of S basis) rows (λ i l. own_same S basis basis' h i) s.multiples;
  feasible = s.feasible;
}

-- the columns beside, put together again
together : (S : System) (columns : ℕ → ℕ) (q a : ℕ) → q < S.m → (i : ℕ)
    → own_of S (put_at (put_at columns q a) q (columns q)) i ≡ own_of S columns i
together S columns q a ql i = elim (cases_eq i q) [
  | inl c ↦
      ap (own_of S (put_at (put_at columns q a) q (columns q))) c ∙ own_put_same S (put_at columns q a) q (columns q) ql
      ∙ sym (own_low S columns q ql) ∙ ap (own_of S columns) (sym c)
  | inr d ↦ own_put_other S (put_at columns q a) q (columns q) i d ∙ own_put_other S columns q a i d
]

pub holds_stands : (P : Program) (columns : ℕ → ℕ) (q : ℕ) (rows : ℕ → ℕ → ℤ) → HoldsBeside P columns q rows
    → StandsBeside P (path_basis P columns q) q (columns q) rows
holds_stands P columns q rows h = record {
  inside = h.inside;
  auxiliary = put_same columns q (P.n + P.m);
  multiples =
      multiples_same (kept_of P) (own_of (kept_of P) (put_at (put_at columns q (P.n + P.m)) q (columns q)))
      (own_of (kept_of P) columns) rows
      (λ i il. sym (together (kept_of P) columns q (P.n + P.m) h.inside i)) h.multiples;
  below = h.below;
}

-- ---- a turn
stays_columns : (P : Program) (columns : ℕ → ℕ) (q p col : ℕ) → q < P.m → p ≢ q
    → IsSameBasis P.m (put_at (path_basis P columns q) p col) (path_basis P (turned_columns columns q p col) q)
stays_columns P columns q p col ql d i il = elim (cases_eq i q) [
  | inl c ↦
      ap (put_at (path_basis P columns q) p col) c ∙ put_other (path_basis P columns q) p col q (λ e. d (sym e))
      ∙ put_same columns q (P.n + P.m)
      ∙ sym (ap (path_basis P (turned_columns columns q p col) q) c
      ∙ put_same (turned_columns columns q p col) q (P.n + P.m))
  | inr e ↦ elim (cases_eq i p) [
    | inl c ↦
        ap (put_at (path_basis P columns q) p col) c ∙ put_same (path_basis P columns q) p col
        ∙ sym (put_other (turned_columns columns q p col) q (P.n + P.m) i e
        ∙ ap (put_at columns q col) (ap (exchanged q p) c ∙ exchanged_p q p) ∙ put_same columns q col)
    | inr g ↦
        put_other (path_basis P columns q) p col i g ∙ put_other columns q (P.n + P.m) i e
        ∙ sym (put_other (turned_columns columns q p col) q (P.n + P.m) i e
        ∙ ap (put_at columns q col) (exchanged_other q p i e g) ∙ put_other columns q col i e)
  ]
]

-- the pivot's columns, whatever stood at q
put_over : (S : System) (columns : ℕ → ℕ) (q a col : ℕ) → q < S.m → (i : ℕ)
    → own_of S (put_at (put_at columns q a) q col) i ≡ own_of S (put_at columns q col) i
put_over S columns q a col ql i = elim (cases_eq i q) [
  | inl c ↦
      ap (own_of S (put_at (put_at columns q a) q col)) c ∙ own_put_same S (put_at columns q a) q col ql
      ∙ sym (own_put_same S columns q col ql) ∙ ap (own_of S (put_at columns q col)) (sym c)
  | inr d ↦ own_put_other S (put_at columns q a) q col i d ∙ own_put_other S columns q a i d
      ∙ sym (own_put_other S columns q col i d)
]

own_turned : (S : System) (columns : ℕ → ℕ) (q p col : ℕ) → q < S.m → p < S.m → (i : ℕ) → i ≤ S.m
    → own_of S (turned_columns columns q p col) i ≡ own_of S (put_at columns q col) (exchanged q p i)
own_turned S columns q p col ql pl i il = elim (cases_lt i S.m) [
  | inl l ↦ own_low S (turned_columns columns q p col) i l
      ∙ sym (own_low S (put_at columns q col) (exchanged q p i) (exchanged_low q p i S.m ql pl l))
  | inr l ↦
      own_high S (turned_columns columns q p col) i (omega arith)
      ∙ sym (ap (own_of S (put_at columns q col)) (exchanged_other q p i (omega arith) (omega arith))
      ∙ own_high S (put_at columns q col) i (omega arith))
]

pub holds_turn : (P : Program) (k : ℕ) (columns : ℕ → ℕ) (q col p : ℕ) (rows rows' : ℕ → ℕ → ℤ)
    → Turned P k (path_basis P columns q) → HoldsBeside P columns q rows → EntersBeside P q rows col
    → IsBesidePivot P q col rows rows' → IsLeast (auxiliary_of P) (P.n + P.m) rows' p
    → Turned P (suc k) (path_basis P (turned_columns columns q p col) q)
    × HoldsBeside P (turned_columns columns q p col) q (swapped q p rows')
holds_turn P k columns q col p rows rows' t h v w l =
    let s : StandsBeside P (path_basis P columns q) q (columns q) rows = holds_stands P columns q rows h in
    let d : p ≢ q = least_is_other P q col rows rows' s.inside s.below v.inside v.improving w p l in
    let x = beside_turn P (path_basis P columns q) q (columns q) col p rows rows' s (k, t) v w l in
    let m : HasMultipleRows (kept_of P) (own_of (kept_of P) (put_at (path_basis P columns q) q col)) rows' =
    beside_pivoted P (path_basis P columns q) q (columns q) col rows rows' s v w in
    let m' : HasMultipleRows (kept_of P) (own_of (kept_of P) (put_at columns q col)) rows' =
    multiples_same (kept_of P) (own_of (kept_of P) (put_at columns q col))
    (own_of (kept_of P) (put_at (path_basis P columns q) q col)) rows'
    (λ i il. put_over (kept_of P) columns q (P.n + P.m) col h.inside i) m in (
      turned_same P (suc k) (put_at (path_basis P columns q) p col) (path_basis P (turned_columns columns q p col) q)
          (stays_columns P columns q p col h.inside d) (path_basis P columns q, t, x.0),
      record {
        inside = h.inside;
        multiples =
            multiples_swapped (kept_of P) (own_of (kept_of P) (put_at columns q col))
            (own_of (kept_of P) (turned_columns columns q p col)) q p rows' h.inside l.inside
            (own_turned (kept_of P) columns q p col h.inside l.inside) m';
        below = subst (λ i. rows' i (P.n + P.m) <ℤ pos 0) (sym (exchanged_q q p)) l.below;
      },
    )

over_same : (P : Program) (columns : ℕ → ℕ) (q col : ℕ)
    → IsSameBasis P.m (put_at (path_basis P columns q) q col) (put_at columns q col)
over_same P columns q col i il = elim (cases_eq i q) [
  | inl c ↦ ap (put_at (path_basis P columns q) q col) c ∙ put_same (path_basis P columns q) q col
      ∙ sym (ap (put_at columns q col) c ∙ put_same columns q col)
  | inr d ↦ put_other (path_basis P columns q) q col i d ∙ put_other columns q (P.n + P.m) i d
      ∙ sym (put_other columns q col i d)
]

pub holds_leaves : (P : Program) (k : ℕ) (columns : ℕ → ℕ) (q col : ℕ) (rows rows' : ℕ → ℕ → ℤ)
    → Turned P k (path_basis P columns q) → HoldsBeside P columns q rows → EntersBeside P q rows col
    → IsBesidePivot P q col rows rows' → HasNoLeast (auxiliary_of P) (P.n + P.m) rows'
    → Turned P (suc k) (put_at columns q col) × ¬ (HasAuxiliary P (put_at columns q col))
    × StandsMultiple (system_of P) (put_at columns q col) (without_column P rows')
holds_leaves P k columns q col rows rows' t h v w n =
    let s : StandsBeside P (path_basis P columns q) q (columns q) rows = holds_stands P columns q rows h in
    let x = beside_leaves P (path_basis P columns q) q (columns q) col rows rows' s (k, t) v w n in
    let e : IsSameBasis P.m (put_at (path_basis P columns q) q col) (put_at columns q col) =
    over_same P columns q col in (
      turned_same P (suc k) (put_at (path_basis P columns q) q col) (put_at columns q col) e
          (path_basis P columns q, t, x.0),
      (λ a. x.1 (a.0, a.1, a.2 ∙ sym (e a.0 a.1))),
      stands_multiple_same (system_of P) (put_at (path_basis P columns q) q col) (put_at columns q col)
          (without_column P rows') e x.2,
    )

-- ---- the start
pub holds_start : (P : Program) (slacks : ℕ → ℕ) (rows : ℕ → ℕ → ℤ) (e : ℕ) → e < P.m
    → ((i : ℕ) → i < P.m → slacks i ≡ P.n + i) → AreStarting P rows → HoldsBeside P slacks e rows
holds_start P slacks rows e el sl h =
    let s : StandsBeside P (put_at slacks e (P.n + P.m)) e (P.n + e) rows = start_stands P slacks rows e el sl h in
    record {
      inside = el;
      multiples =
          multiples_same (kept_of P) (own_of (kept_of P) slacks)
          (own_of (kept_of P) (put_at (put_at slacks e (P.n + P.m)) e (P.n + e))) rows
          (λ i il. elim (cases_eq i e) [
            | inl c ↦
                ap (own_of (kept_of P) (put_at (put_at slacks e (P.n + P.m)) e (P.n + e))) c
                ∙ own_put_same (kept_of P) (put_at slacks e (P.n + P.m)) e (P.n + e) el
                ∙ sym (ap (own_of (kept_of P) slacks) c ∙ own_low (kept_of P) slacks e el ∙ sl e el)
            | inr d ↦ own_put_other (kept_of P) (put_at slacks e (P.n + P.m)) e (P.n + e) i d
                ∙ own_put_other (kept_of P) slacks e (P.n + P.m) i d
          ]) s.multiples;
      below = s.below;
    }
