-- Each basis on a program's path has its rows: those of the auxiliary form, with the kept row of the cost,
-- while the auxiliary column is basic, and then those of the program.
use Rattle.std.proofs.Common.{◌≡◌, ◌≢◌, ℕ, zero, suc, ◌+◌, ◌<◌, ◌≤◌, sym, refl, ap, ◌∙◌, subst, arith, inl, inr, ◌⊎◌, cond, eqb}
use Rattle.std.proofs.lemmas.Int.{ints}
use Rattle.std.proofs.lemmas.Bool.{cases_eq, cases_lt}
use Rattle.std.proofs.lemmas.Bool.Decides.{nat_tests}
use lib.IntN.{ℤ, pos, negsuc, neg_ℤ}
use lib.Signed.{◌<ℤ◌}
use Rattle.rob_linear.specs.Systems.{with_objective, IsTagged, right, RowOf, IsBasis, IsCombined}
use Rattle.rob_linear.specs.Programs.{Program, starting_row, system_of, auxiliary_tag, auxiliary_row, auxiliary_of, without_auxiliary, kept_row, kept_of}
use Rattle.rob_linear.specs.Turns.{key, IsLexPositive, IsLexFeasible, IsExchange, IsPivot, Rises, own_of, StandsWith, TurnsTo}
use Rattle.rob_linear.specs.Paths.{StartsAtSlacks, StartsAtAuxiliary, HasAuxiliary, Steps, Turned}
use Rattle.rob_linear.proofs.Bases.Solutions.{tags_in, start_along, start_primitive, start_is_basis, basic_or_not}
use Rattle.rob_linear.proofs.Bases.Pivots.{basis_pivotable, pivot_is_basis, row_of_other}
use Rattle.rob_linear.proofs.Bases.Primitive.{pivot_exists}
use Rattle.rob_linear.proofs.BasisPaths.Costs.{with_objective_low, with_objective_at, basis_restarted}
use Rattle.rob_linear.proofs.BasisPaths.Starts.{system_tagged, auxiliary_tagged, start_feasible, negated_start, negated_at, negated_pivotable, auxiliary_feasible}
use Rattle.rob_linear.proofs.BasisPaths.Phases.{phase_basis, phase_order}
use Rattle.rob_linear.proofs.Bases.Turns.{own_low, own_high, basis_same, turn_exchange, turn_stands}
use Rattle.rob_linear.proofs.LinearPrograms.Programs.{auxiliary_entry, auxiliary_tag-beyond, auxiliary_tag-slack}

-- ---- the auxiliary form with the program's own cost
pub kept_one : (P : Program) (t : ℕ) → t ≤ P.m → kept_row P t (auxiliary_tag P t) ≡ pos 1
kept_one P t l = elim (cases_eq t P.m) [ inl e ↦ grind (arith, nat_tests) | inr d ↦ grind (arith, nat_tests) ]

pub kept_zero : (P : Program) (t u : ℕ) → t ≤ P.m → u ≤ P.m → u ≢ t → kept_row P t (auxiliary_tag P u) ≡ pos 0
kept_zero P t u tl ul d = elim (cases_eq u P.m) [
  | inl e ↦ grind (arith, nat_tests)
  | inr f ↦ elim (cases_eq t P.m) [
    | inl g ↦ grind (arith, nat_tests)
    | inr g ↦ grind (arith, nat_tests)
  ]
]

pub kept_tagged : (P : Program) → IsTagged (kept_of P)
kept_tagged P =
    record {
      inside = (auxiliary_tagged P).inside;
      last = (auxiliary_tagged P).last;
      one = kept_one P;
      zero = kept_zero P;
    }

pub kept_is : (P : Program) (t k : ℕ) → t < P.m → kept_row P t k ≡ auxiliary_row P t k
kept_is P t k l = grind (arith, nat_tests)

pub kept_auxiliary : (P : Program) → kept_row P P.m (P.n + P.m) ≡ pos 0
kept_auxiliary P = grind (arith, nat_tests)

-- the rows of a basis of the auxiliary form, with the kept row of the cost
pub kept_basis : (P : Program) (own : ℕ → ℕ) (rows : ℕ → ℕ → ℤ) (kept : ℕ → ℤ) → IsBasis (auxiliary_of P) own rows
    → RowOf (kept_of P) own P.m kept → IsBasis (kept_of P) own (with_objective P.m rows kept)
kept_basis P own rows kept b h =
    basis_restarted (auxiliary_of P) (kept_row P) own rows kept (auxiliary_tagged P).last
    (λ t k tl kl. sym (kept_is P t k tl)) b h

-- a pivot turns the kept row as it turns the others
pub kept_turned : (P : Program) (own own' : ℕ → ℕ) (rows : ℕ → ℕ → ℤ) (kept new : ℕ → ℤ) (e col : ℕ)
    → IsBasis (auxiliary_of P) own rows → RowOf (kept_of P) own P.m kept
    → IsExchange (auxiliary_of P) own own' rows e col
    → IsCombined (suc (right (kept_of P))) (rows e col) kept (kept col) (rows e) new → RowOf (kept_of P) own' P.m new
kept_turned P own own' rows kept new e col b h v c =
    let el : e < P.m = v.row_in in
    let k : IsBasis (kept_of P) own (with_objective P.m rows kept) = kept_basis P own rows kept b h in
    let re : with_objective P.m rows kept e ≡ rows e = with_objective_low P.m rows kept e el in
    let rm : with_objective P.m rows kept P.m ≡ kept = with_objective_at P.m rows kept in
    row_of_other (kept_of P) own own' (with_objective P.m rows kept) new e col P.m (tags_in (kept_of P) (kept_tagged P))
    (basis_pivotable (kept_of P) own (with_objective P.m rows kept) e (omega arith) k)
    record {
      row_in = v.row_in;
      col_in = v.col_in;
      entry = subst (λ r. pos 0 <ℤ r col) (sym re) v.entry;
      own_at = v.own_at;
      own_other = v.own_other;
    }
    (omega arith) (omega arith)
    (subst (λ r. IsCombined (suc (right (kept_of P))) (r col) (with_objective P.m rows kept P.m)
    (with_objective P.m rows kept P.m col) r new) (sym re)
    (subst (λ r. IsCombined (suc (right (kept_of P))) (rows e col) r (r col) (rows e) new) (sym rm) c))

-- ---- the first phase
pub record InFirst (P : Program) (basis : ℕ → ℕ) : Type 0 where
  pub rows : ℕ → ℕ → ℤ
  pub kept : ℕ → ℤ
  pub stands : StandsWith (auxiliary_of P) basis rows
  pub kept_row_of : RowOf (kept_of P) (own_of (kept_of P) basis) P.m kept

pub start_exchange : (P : Program) (basis : ℕ → ℕ) → (s : StartsAtAuxiliary P basis)
    → IsExchange (auxiliary_of P) (auxiliary_tag P) (own_of (auxiliary_of P) basis)
    (negated_start (auxiliary_of P) s.row) s.row (P.n + P.m)
start_exchange P basis s =
    let el : s.row < P.m = s.inside in
    record {
      row_in = el;
      col_in = omega arith;
      entry =
          let a : negated_start (auxiliary_of P) s.row s.row (P.n + P.m) ≡ neg_ℤ (auxiliary_row P s.row (P.n + P.m)) =
          negated_at (auxiliary_of P) s.row (P.n + P.m) in
          let b : auxiliary_row P s.row (P.n + P.m) ≡ negsuc 0 = auxiliary_entry P s.row el in
          omega (arith, ints);
      own_at =
          let e : cond (eqb s.row s.row) (P.n + P.m) (P.n + s.row) ≡ P.n + P.m = grind (arith, nat_tests) in
          own_low (auxiliary_of P) basis s.row el ∙ s.exchanged s.row el ∙ e;
      own_other = λ i d. elim (cases_lt i P.m) [
        | inl l ↦
            let e : cond (eqb i s.row) (P.n + P.m) (P.n + i) ≡ P.n + i = grind (arith, nat_tests) in
            own_low (auxiliary_of P) basis i l ∙ s.exchanged i l ∙ e ∙ sym (auxiliary_tag-slack P i l)
        | inr l ↦ own_high (auxiliary_of P) basis i (omega arith) ∙ sym (auxiliary_tag-beyond P i (omega arith))
      ];
    }

-- at the start the kept row is that of the cost itself: the auxiliary column does not stand in it
pub kept_start : (P : Program) (basis : ℕ → ℕ) → StartsAtAuxiliary P basis
    → RowOf (kept_of P) (own_of (kept_of P) basis) P.m (kept_row P P.m)
kept_start P basis s =
    let v : IsExchange (auxiliary_of P) (auxiliary_tag P) (own_of (auxiliary_of P) basis)
    (negated_start (auxiliary_of P) s.row) s.row (P.n + P.m) = start_exchange P basis s in
    let g : IsTagged (kept_of P) = kept_tagged P in
    let om : own_of (kept_of P) basis P.m ≡ auxiliary_tag P P.m =
    own_high (kept_of P) basis P.m (omega arith) ∙ sym g.last in
    record {
      along = record {
        zeros = λ j jl d. elim (cases_eq j s.row) [
          | inl c ↦ ap (kept_row P P.m) (ap (own_of (kept_of P) basis) c ∙ v.own_at) ∙ kept_auxiliary P
          | inr c ↦ ap (kept_row P P.m) (v.own_other j c) ∙ kept_zero P P.m j (omega arith) jl d
        ];
        spanned = (start_along (kept_of P) g P.m (omega arith)).spanned;
      };
      positive = subst (λ u. pos 0 <ℤ u)
          (sym (ap (kept_row P P.m) om ∙ kept_one P P.m (omega arith))) (omega (arith, ints));
      primitive = start_primitive (kept_of P) g P.m (omega arith);
    }

-- the rows that the first pivot makes, of the starting rows with the row that comes first negated
pub auxiliary_start : (P : Program) (basis : ℕ → ℕ) (rows : ℕ → ℕ → ℤ) → (s : StartsAtAuxiliary P basis)
    → IsPivot (auxiliary_of P) (auxiliary_tag P) (own_of (auxiliary_of P) basis) (negated_start (auxiliary_of P) s.row)
    rows s.row (P.n + P.m) → StandsWith (auxiliary_of P) basis rows
auxiliary_start P basis rows s v =
    let g : IsTagged (auxiliary_of P) = auxiliary_tagged P in
    record {
      is_basis = pivot_is_basis (auxiliary_of P) (auxiliary_tag P) (own_of (auxiliary_of P) basis)
          (negated_start (auxiliary_of P) s.row) rows s.row (P.n + P.m) (tags_in (auxiliary_of P) g)
          (negated_pivotable (auxiliary_of P) s.row g s.inside) v;
      feasible = auxiliary_feasible P (own_of (auxiliary_of P) basis) rows s.row s.negative s.first v;
    }

pub first_start : (P : Program) (basis : ℕ → ℕ) → StartsAtAuxiliary P basis → InFirst P basis
first_start P basis s =
    let v : (rows' : ℕ → ℕ → ℤ)
    × IsPivot (auxiliary_of P) (auxiliary_tag P) (own_of (auxiliary_of P) basis)
    (negated_start (auxiliary_of P) s.row) rows' s.row (P.n + P.m) =
    pivot_exists (auxiliary_of P) (auxiliary_tag P) (own_of (auxiliary_of P) basis)
    (negated_start (auxiliary_of P) s.row) s.row (P.n + P.m)
    (negated_pivotable (auxiliary_of P) s.row (auxiliary_tagged P) s.inside) (start_exchange P basis s) in
    record {
      rows = v.0;
      kept = kept_row P P.m;
      stands = auxiliary_start P basis v.0 s v.1;
      kept_row_of = kept_start P basis s;
    }

pub first_turn : (P : Program) (basis next : ℕ → ℕ) → InFirst P basis
    → TurnsTo (auxiliary_of P) basis next → InFirst P next
first_turn P basis next f t =
    let w : (rows' : ℕ → ℕ → ℤ) × StandsWith (auxiliary_of P) next rows'
    × Rises (auxiliary_of P) (f.rows P.m) (rows' P.m) =
    turn_stands (auxiliary_of P) basis next f.rows (auxiliary_tagged P) f.stands t in
    let own : ℕ → ℕ = own_of (auxiliary_of P) basis in
    let el : t.position < P.m = t.leaves.inside in
    let cl : t.column < suc (P.n + P.m) = t.enters.inside in
    let kb : IsBasis (kept_of P) (own_of (kept_of P) basis) (with_objective P.m t.rows f.kept) =
    kept_basis P (own_of (kept_of P) basis) t.rows f.kept t.is_basis f.kept_row_of in
    let v : IsExchange (auxiliary_of P) (own_of (auxiliary_of P) basis) (own_of (auxiliary_of P) next) t.rows t.position
    t.column = turn_exchange (auxiliary_of P) basis next t in
    let x : IsExchange (kept_of P) (own_of (kept_of P) basis) (own_of (kept_of P) next)
    (with_objective P.m t.rows f.kept) t.position t.column =
    record {
      row_in = v.row_in;
      col_in = v.col_in;
      entry = subst (λ r. pos 0 <ℤ r t.column) (sym (with_objective_low P.m t.rows f.kept t.position el)) v.entry;
      own_at = v.own_at;
      own_other = v.own_other;
    } in
    let p : (rows' : ℕ → ℕ → ℤ)
    × IsPivot (kept_of P) (own_of (kept_of P) basis) (own_of (kept_of P) next) (with_objective P.m t.rows f.kept)
    rows' t.position t.column =
    pivot_exists (kept_of P) (own_of (kept_of P) basis) (own_of (kept_of P) next) (with_objective P.m t.rows f.kept)
    t.position t.column
    (basis_pivotable (kept_of P) (own_of (kept_of P) basis) (with_objective P.m t.rows f.kept)
    t.position (omega arith) kb) x in
    record {
      rows = w.0;
      kept = p.0 P.m;
      stands = w.1;
      kept_row_of =
          (pivot_is_basis (kept_of P) (own_of (kept_of P) basis) (own_of (kept_of P) next)
          (with_objective P.m t.rows f.kept) p.0 t.position t.column (tags_in (kept_of P) (kept_tagged P))
          (basis_pivotable (kept_of P) (own_of (kept_of P) basis) (with_objective P.m t.rows f.kept) t.position
          (omega arith) kb) p.1).rows_of P.m (omega arith);
    }

-- ---- the change of phase
pub phase_change : (P : Program) (basis : ℕ → ℕ) (rows : ℕ → ℕ → ℤ) (kept : ℕ → ℤ)
    → StandsWith (auxiliary_of P) basis rows → RowOf (kept_of P) (own_of (kept_of P) basis) P.m kept
    → ¬ (HasAuxiliary P basis) → StandsWith (system_of P) basis (without_auxiliary P rows kept)
phase_change P basis rows kept s h no_aux =
    let kb : IsBasis (kept_of P) (own_of (kept_of P) basis) (with_objective P.m rows kept) =
    kept_basis P (own_of (kept_of P) basis) rows kept s.is_basis h in
    let out : (i : ℕ) → i < P.m → own_of (kept_of P) basis i ≢ P.n + P.m =
    (λ i l e. no_aux (i, l, sym e ∙ own_low (kept_of P) basis i l)) in
    let low : (i : ℕ) → i < P.m → own_of (system_of P) basis i ≡ own_of (kept_of P) basis i =
    (λ i l. own_low (system_of P) basis i l ∙ sym (own_low (kept_of P) basis i l)) in
    let last : own_of (system_of P) basis P.m ≡ P.n + P.m = own_high (system_of P) basis P.m (omega arith) in
    let lex : IsLexFeasible (kept_of P) (with_objective P.m rows kept) =
    (λ i l. subst (λ r. IsLexPositive (suc P.m) (key (kept_of P) r))
    (sym (with_objective_low P.m rows kept i l)) (s.feasible i l)) in
    record {
      is_basis = phase_basis P (own_of (kept_of P) basis) (own_of (system_of P) basis) (with_objective P.m rows kept)
          (without_auxiliary P rows kept) kb out low last (λ i l k kl. refl);
      feasible = phase_order P (own_of (kept_of P) basis) (own_of (system_of P) basis) (with_objective P.m rows kept)
          (without_auxiliary P rows kept) kb out low last (λ i l k kl. refl) lex;
    }

-- ---- both phases
pub slacks_stand : (P : Program) (basis : ℕ → ℕ) → StartsAtSlacks P basis
    → StandsWith (system_of P) basis (starting_row P)
slacks_stand P basis s = record {
  is_basis =
      basis_same (system_of P) (own_of (system_of P) basis) (λ t. P.n + t) (starting_row P)
      (λ i l. elim (cases_eq i P.m) [
        | inl e ↦ ap (λ v. P.n + v) e ∙ sym (own_high (system_of P) basis i (omega arith))
        | inr d ↦ sym (own_low (system_of P) basis i (omega arith) ∙ s.slacks i (omega arith))
      ]) (start_is_basis (system_of P) (system_tagged P));
  feasible = start_feasible P s.nonnegative;
}

-- what is known of a basis on the path
abbrev pub Standing : Program → (ℕ → ℕ) → Type 0
Standing P basis =
    (HasAuxiliary P basis × InFirst P basis)
    ⊎ (¬ (HasAuxiliary P basis) × ((rows : ℕ → ℕ → ℤ) × StandsWith (system_of P) basis rows))

pub auxiliary_or_not : (P : Program) (basis : ℕ → ℕ) → HasAuxiliary P basis ⊎ ¬ (HasAuxiliary P basis)
auxiliary_or_not P basis = elim (basic_or_not P.m basis (P.n + P.m)) [
  | inl h ↦ inl h
  | inr n ↦ inr (λ h. n h.0 h.1 h.2)
]

-- a basis of the program itself does not have the auxiliary column
pub stands_without : (P : Program) (basis : ℕ → ℕ) (rows : ℕ → ℕ → ℤ) → StandsWith (system_of P) basis rows
    → ¬ (HasAuxiliary P basis)
stands_without P basis rows s h =
    let l : own_of (system_of P) basis h.0 < P.n + P.m = s.is_basis.inside h.0 h.1 in
    let e : own_of (system_of P) basis h.0 ≡ basis h.0 = own_low (system_of P) basis h.0 h.1 in
    let f : P.n + P.m ≡ basis h.0 = h.2 in
    absurd (omega arith)

first_standing : (P : Program) (basis : ℕ → ℕ) → InFirst P basis → Standing P basis
first_standing P basis f =
    elim (auxiliary_or_not P basis) [
      | inl h ↦ inl (h, f)
      | inr n ↦ inr
          (n, (without_auxiliary P f.rows f.kept, phase_change P basis f.rows f.kept f.stands f.kept_row_of n))
    ]

pub steps_standing : (P : Program) (basis next : ℕ → ℕ) → Standing P basis → Steps P basis next → Standing P next
steps_standing P basis next s t =
    elim t [
      | inl h ↦ elim s [
        | inl f ↦ first_standing P next (first_turn P basis next f.1 h.1)
        | inr f ↦ absurd (f.0 h.0)
      ]
      | inr h ↦ elim s [
        | inl f ↦ absurd (h.0 f.0)
        | inr f ↦
            let w : (rows' : ℕ → ℕ → ℤ) × StandsWith (system_of P) next rows'
            × Rises (system_of P) (f.1.0 P.m) (rows' P.m) =
            turn_stands (system_of P) basis next f.1.0 (system_tagged P) f.1.1 h.1 in
            inr (stands_without P next w.0 w.1, (w.0, w.1))
      ]
    ]

pub turned_standing : (P : Program) (k : ℕ) (basis : ℕ → ℕ) → Turned P k basis → Standing P basis
turned_standing P zero basis t =
    elim t [
      | inl s ↦ inr (
        stands_without P basis (starting_row P) (slacks_stand P basis s),
        (starting_row P, slacks_stand P basis s),
      )
      | inr s ↦ first_standing P basis (first_start P basis s)
    ]
turned_standing P (suc k) basis t = steps_standing P t.0 basis (turned_standing P k t.0 t.1) t.2
