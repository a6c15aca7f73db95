-- With the auxiliary column kept out, turns are steps of the path, and the endings of the first phase are the path's.
use Rattle.std.proofs.Common.{◌≡◌, ◌≢◌, ℕ, suc, ◌+◌, ◌<◌, ◌≤◌, sym, refl, ap, ◌∙◌, subst, arith, inl, inr}
use Rattle.std.proofs.lemmas.Int.{ints}
use Rattle.std.proofs.lemmas.Bool.{cases_eq}
use Rattle.std.proofs.lemmas.Bool.Decides.{nat_tests}
use lib.IntN.{ℤ, pos, ◌*ℤ◌, neg_ℤ}
use lib.Signed.{◌<ℤ◌, ◌≤ℤ◌}
use Rattle.rob_algebra.specs.Integer.{ring}
use Rattle.rob_algebra.specs.IntegerOrder.{mul-pos_z}
use Rattle.rob_linear.specs.Systems.{System, right, IsPrimitive, LiesAlong, IsBasis, IsNonnegative}
use Rattle.rob_linear.specs.Programs.{Program, system_of, auxiliary_of, auxiliary_place, kept_of}
use Rattle.rob_linear.specs.Turns.{Enters, Leaves, own_of, StandsWith, TurnsTo}
use Rattle.rob_linear.specs.Paths.{HasAuxiliary, Steps, Reached, EndsInFirstPhase}
use Rattle.rob_linear.specs.Multiples.{IsParallel, AreParallel, IsMultipleRow, HasMultipleRows, StandsMultiple, put_at}
use Rattle.rob_linear.specs.Beside.{StandsBeside, EntersBeside, IsBesidePivot, IsLeast, HasNoLeast, exchanged, swapped, without_column}
use Rattle.rob_linear.proofs.Bases.Solutions.{own_in, tags_in}
use Rattle.rob_linear.proofs.Bases.Exact.{primitive_same}
use Rattle.rob_linear.proofs.BasisPaths.Starts.{system_tagged, auxiliary_tagged}
use Rattle.rob_linear.proofs.BasisPaths.Auxiliary.{farkas_primitive}
use Rattle.rob_linear.proofs.BasisPaths.LastBases.{never_at_zero}
use Rattle.rob_linear.proofs.BasisPaths.Phases.{phase_basis, place_in}
use Rattle.rob_linear.proofs.BasisPaths.TwoPhases.{InFirst, kept_tagged, turned_standing}
use Rattle.rob_linear.proofs.Bases.Turns.{own_low, own_high}
use Rattle.rob_linear.proofs.RowForms.Multiples.{parallel_sym, multiple_parallel, multiples_in, multiple_rows_exist, rows_parallel, are_sym, basis_multiples, multiples_basis, cleared_row, pivot_row, enters_parallel, leaves_parallel, order_parallel, none_improves_parallel}
use Rattle.rob_linear.proofs.KeptOut.Beside.{neg_along, put_other, own_put_same, own_put_other, back_rows, back_last, back_multiples, objective_other, not_auxiliary}
use Rattle.rob_linear.proofs.KeptOut.BesideTurns.{in_first, enters_back, none_enters_back, leaves_other, leaves_q, least_is_other}

-- ---- the table after the pivot, and after its rows are exchanged
pub beside_pivoted : (P : Program) (basis : ℕ → ℕ) (q f col : ℕ) (rows rows' : ℕ → ℕ → ℤ)
    → StandsBeside P basis q f rows → EntersBeside P q rows col → IsBesidePivot P q col rows rows'
    → HasMultipleRows (kept_of P) (own_of (kept_of P) (put_at basis q col)) rows'
beside_pivoted P basis q f col rows rows' s v w =
    let ql : q < P.m = s.inside in
    let cl : col < P.n + P.m = v.inside in
    let im : rows q col <ℤ pos 0 = v.improving in
    let own : ℕ → ℕ = own_of (kept_of P) (put_at basis q f) in
    let own' : ℕ → ℕ = own_of (kept_of P) (put_at basis q col) in
    let at : own_of (kept_of P) (put_at basis q col) q ≡ col = own_put_same (kept_of P) basis q col ql in
    let other : (j : ℕ) → j ≢ q → own_of (kept_of P) (put_at basis q col) j ≡ own_of (kept_of P) (put_at basis q f) j =
    (λ j d. own_put_other (kept_of P) basis q col j d ∙ sym (own_put_other (kept_of P) basis q f j d)) in
    let inside' : (i : ℕ) → i < P.m → own_of (kept_of P) (put_at basis q col) i < suc (P.n + P.m) =
    (λ i l. elim (cases_eq i q) [
      | inl c ↦ let e : own_of (kept_of P) (put_at basis q col) i ≡ col =
          ap (own_of (kept_of P) (put_at basis q col)) c ∙ at in omega arith
      | inr d ↦ subst (λ u. u < suc (P.n + P.m)) (sym (other i d)) (s.multiples.inside i l)
    ]) in
    let last' : own_of (kept_of P) (put_at basis q col) P.m ≡ suc (P.n + P.m) =
    own_high (kept_of P) (put_at basis q col) P.m (omega arith) in
    let bound' : (j : ℕ) → j ≤ P.m → own_of (kept_of P) (put_at basis q col) j ≤ suc (suc (P.n + P.m)) =
    (λ j jl. let o : own_of (kept_of P) (put_at basis q col) j < suc (suc (P.n + P.m)) =
    own_in (kept_of P) (own_of (kept_of P) (put_at basis q col)) inside' last' j jl in omega arith) in
    let bound : (j : ℕ) → j ≤ P.m → own_of (kept_of P) (put_at basis q f) j ≤ suc (suc (P.n + P.m)) =
    multiples_in (kept_of P) (own_of (kept_of P) (put_at basis q f)) rows s.multiples in
    let along : LiesAlong (kept_of P) (own_of (kept_of P) (put_at basis q f)) q (rows q) =
    (s.multiples.rows_of q (omega arith)).along in
    record {
      inside = inside';
      last = last';
      rows_of = λ i il. elim (cases_eq i q) [
        | inl c ↦
            subst (λ t. IsMultipleRow (kept_of P) (own_of (kept_of P) (put_at basis q col)) t (rows' t)) (sym c)
            (multiple_parallel (kept_of P) (own_of (kept_of P) (put_at basis q col)) q (λ k. neg_ℤ (rows q k)) (rows' q)
            (tags_in (kept_of P) (kept_tagged P)) bound' (omega arith)
            (parallel_sym (suc (suc (suc (P.n + P.m)))) (rows' q) (λ k. neg_ℤ (rows q k)) w.row_at)
            (pivot_row (kept_of P) (own_of (kept_of P) (put_at basis q f)) (own_of (kept_of P) (put_at basis q col))
            (λ k. neg_ℤ (rows q k)) q col at other
            (neg_along (kept_of P) (own_of (kept_of P) (put_at basis q f)) q (rows q) along) (omega (arith, ints))))
        | inr d ↦
            cleared_row (kept_of P) (own_of (kept_of P) (put_at basis q f)) (own_of (kept_of P) (put_at basis q col))
            (rows i) (rows q) (rows' i) q col i (tags_in (kept_of P) (kept_tagged P)) bound at other il d
            (s.multiples.rows_of i il) along (w.row_other i il d)
      ];
    }

pub exchanged_q : (q p : ℕ) → exchanged q p q ≡ p
exchanged_q q p = grind (arith, nat_tests)

pub exchanged_p : (q p : ℕ) → exchanged q p p ≡ q
exchanged_p q p = elim (cases_eq p q) [ inl c ↦ grind (arith, nat_tests) | inr d ↦ grind (arith, nat_tests) ]

pub exchanged_other : (q p i : ℕ) → i ≢ q → i ≢ p → exchanged q p i ≡ i
exchanged_other q p i d e = grind (arith, nat_tests)

pub exchanged_in : (q p i m : ℕ) → q ≤ m → p ≤ m → i ≤ m → exchanged q p i ≤ m
exchanged_in q p i m ql pl il = elim (cases_eq i q) [
  | inl c ↦ let e : exchanged q p i ≡ p = ap (exchanged q p) c ∙ exchanged_q q p in omega arith
  | inr d ↦ elim (cases_eq i p) [
    | inl c ↦ let e : exchanged q p i ≡ q = ap (exchanged q p) c ∙ exchanged_p q p in omega arith
    | inr e ↦ let g : exchanged q p i ≡ i = exchanged_other q p i d e in omega arith
  ]
]

pub exchanged_low : (q p i m : ℕ) → q < m → p < m → i < m → exchanged q p i < m
exchanged_low q p i m ql pl il = elim (cases_eq i q) [
  | inl c ↦ let e : exchanged q p i ≡ p = ap (exchanged q p) c ∙ exchanged_q q p in omega arith
  | inr d ↦ elim (cases_eq i p) [
    | inl c ↦ let e : exchanged q p i ≡ q = ap (exchanged q p) c ∙ exchanged_p q p in omega arith
    | inr e ↦ let g : exchanged q p i ≡ i = exchanged_other q p i d e in omega arith
  ]
]

pub exchanged_twice : (q p i : ℕ) → exchanged q p (exchanged q p i) ≡ i
exchanged_twice q p i = elim (cases_eq i q) [
  | inl c ↦ ap (λ v. exchanged q p (exchanged q p v)) c ∙ ap (exchanged q p) (exchanged_q q p) ∙ exchanged_p q p ∙ sym c
  | inr d ↦ elim (cases_eq i p) [
    | inl c ↦ ap (λ v. exchanged q p (exchanged q p v)) c ∙ ap (exchanged q p) (exchanged_p q p)
        ∙ exchanged_q q p ∙ sym c
    | inr e ↦ ap (exchanged q p) (exchanged_other q p i d e) ∙ exchanged_other q p i d e
  ]
]

exchanged_apart : (q p i j : ℕ) → j ≢ i → exchanged q p j ≢ exchanged q p i
exchanged_apart q p i j d e = d (sym (exchanged_twice q p j) ∙ ap (exchanged q p) e ∙ exchanged_twice q p i)

-- rows and columns exchanged together
pub multiples_swapped : (S : System) (own own' : ℕ → ℕ) (q p : ℕ) (rows : ℕ → ℕ → ℤ) → q < S.m → p < S.m
    → ((i : ℕ) → i ≤ S.m → own' i ≡ own (exchanged q p i)) → HasMultipleRows S own rows
    → HasMultipleRows S own' (swapped q p rows)
multiples_swapped S own own' q p rows ql pl e h = record {
  inside = λ i l. subst (λ v. v < S.columns) (sym (e i (omega arith)))
      (h.inside (exchanged q p i) (exchanged_low q p i S.m ql pl l));
  last = e S.m (omega arith) ∙ ap own (exchanged_other q p S.m (omega arith) (omega arith)) ∙ h.last;
  rows_of = λ i il.
      let r : IsMultipleRow S own (exchanged q p i) (rows (exchanged q p i)) =
      h.rows_of (exchanged q p i) (exchanged_in q p i S.m (omega arith) (omega arith) il) in
      record {
        along = record {
          zeros = λ j jl d. ap (rows (exchanged q p i)) (e j jl)
              ∙ r.zeros (exchanged q p j) (exchanged_in q p j S.m (omega arith) (omega arith) jl)
              (exchanged_apart q p i j d);
          spanned = r.spanned;
        };
        positive = subst (λ v. pos 0 <ℤ rows (exchanged q p i) v) (sym (e i il)) r.positive;
      };
}

-- the columns beside the next basis: column col has come to position p, and the column that stood there to position q
swapped_columns : (S : System) (basis : ℕ → ℕ) (q p col : ℕ) → q < S.m → p < S.m → p ≢ q → (i : ℕ) → i ≤ S.m
    → own_of S (put_at (put_at basis p col) q (basis p)) i ≡ own_of S (put_at basis q col) (exchanged q p i)
swapped_columns S basis q p col ql pl d i il = elim (cases_eq i q) [
  | inl c ↦
      ap (own_of S (put_at (put_at basis p col) q (basis p))) c ∙ own_put_same S (put_at basis p col) q (basis p) ql
      ∙ sym (own_low S basis p pl) ∙ sym (own_put_other S basis q col p d)
      ∙ ap (own_of S (put_at basis q col)) (sym (exchanged_q q p) ∙ ap (exchanged q p) (sym c))
  | inr e ↦ elim (cases_eq i p) [
    | inl c ↦
        own_put_other S (put_at basis p col) q (basis p) i e ∙ ap (own_of S (put_at basis p col)) c
        ∙ own_put_same S basis p col pl
        ∙ sym (own_put_same S basis q col ql)
        ∙ ap (own_of S (put_at basis q col)) (sym (exchanged_p q p) ∙ ap (exchanged q p) (sym c))
    | inr g ↦
        own_put_other S (put_at basis p col) q (basis p) i e ∙ own_put_other S basis p col i g
        ∙ sym (own_put_other S basis q col i e)
        ∙ ap (own_of S (put_at basis q col)) (sym (exchanged_other q p i e g))
  ]
]

-- ---- a turn
-- the next basis of the path, from the choices
pub beside_turned : (P : Program) (basis : ℕ → ℕ) (q f col p : ℕ) (rows : ℕ → ℕ → ℤ) → StandsBeside P basis q f rows
    → (x : InFirst P basis) → Enters (auxiliary_of P) (back_rows P q rows) col
    → Leaves (auxiliary_of P) (back_rows P q rows) col p → TurnsTo (auxiliary_of P) basis (put_at basis p col)
beside_turned P basis q f col p rows s x en le =
    let par : AreParallel (auxiliary_of P) (back_rows P q rows) x.rows =
    rows_parallel (auxiliary_of P) (own_of (auxiliary_of P) basis) x.rows (back_rows P q rows) x.stands.is_basis
    (back_multiples P basis q f rows s) in
    record {
      rows = x.rows;
      position = p;
      column = col;
      is_basis = x.stands.is_basis;
      enters = enters_parallel (auxiliary_of P) (back_rows P q rows) x.rows col par en;
      leaves = leaves_parallel (auxiliary_of P) (back_rows P q rows) x.rows col p (auxiliary_tagged P) en.inside par le;
      exchanged = λ i l. refl;
    }

-- the auxiliary column stays
pub beside_turn : (P : Program) (basis : ℕ → ℕ) (q f col p : ℕ) (rows rows' : ℕ → ℕ → ℤ) → StandsBeside P basis q f rows
    → Reached P basis → EntersBeside P q rows col → IsBesidePivot P q col rows rows'
    → IsLeast (auxiliary_of P) (P.n + P.m) rows' p → Steps P basis (put_at basis p col)
    × StandsBeside P (put_at basis p col) q (basis p) (swapped q p rows')
beside_turn P basis q f col p rows rows' s r v w l =
    let d : p ≢ q = least_is_other P q col rows rows' s.inside s.below v.inside v.improving w p l in
    let x : InFirst P basis = in_first P basis q f rows s r in
    let t : TurnsTo (auxiliary_of P) basis (put_at basis p col) =
    beside_turned P basis q f col p rows s x (enters_back P q rows col s.inside v)
    (leaves_other P q col rows rows' s.inside s.below v.inside v.improving w p l d) in (
      inl ((q, s.inside, sym s.auxiliary), t),
      record {
        inside = s.inside;
        auxiliary = put_other basis p col q (λ e. d (sym e)) ∙ s.auxiliary;
        multiples =
            multiples_swapped (kept_of P) (own_of (kept_of P) (put_at basis q col))
            (own_of (kept_of P) (put_at (put_at basis p col) q (basis p))) q p rows' s.inside l.inside
            (swapped_columns (kept_of P) basis q p col s.inside l.inside d)
            (beside_pivoted P basis q f col rows rows' s v w);
        below = subst (λ i. rows' i (P.n + P.m) <ℤ pos 0) (sym (exchanged_q q p)) l.below;
      },
    )

-- the auxiliary column leaves
pub beside_leaves : (P : Program) (basis : ℕ → ℕ) (q f col : ℕ) (rows rows' : ℕ → ℕ → ℤ) → StandsBeside P basis q f rows
    → Reached P basis → EntersBeside P q rows col → IsBesidePivot P q col rows rows'
    → HasNoLeast (auxiliary_of P) (P.n + P.m) rows' → Steps P basis (put_at basis q col)
    × ¬ (HasAuxiliary P (put_at basis q col))
    × StandsMultiple (system_of P) (put_at basis q col) (without_column P rows')
beside_leaves P basis q f col rows rows' s r v w n =
    let ql : q < P.m = s.inside in
    let cl : col < P.n + P.m = v.inside in
    let next : ℕ → ℕ = put_at basis q col in
    let x : InFirst P basis = in_first P basis q f rows s r in
    let t : TurnsTo (auxiliary_of P) basis (put_at basis q col) =
    beside_turned P basis q f col q rows s x (enters_back P q rows col s.inside v)
    (leaves_q P q col rows rows' s.inside s.below v.inside v.improving w n) in
    let st : Steps P basis (put_at basis q col) = inl ((q, s.inside, sym s.auxiliary), t) in
    let m : HasMultipleRows (kept_of P) (own_of (kept_of P) (put_at basis q col)) rows' =
    beside_pivoted P basis q f col rows rows' s v w in
    let out : (i : ℕ) → i < P.m → own_of (kept_of P) (put_at basis q col) i ≢ P.n + P.m =
    (λ i l e. elim (cases_eq i q) [
      | inl c ↦ let g : own_of (kept_of P) (put_at basis q col) i ≡ col =
          ap (own_of (kept_of P) (put_at basis q col)) c
          ∙ own_put_same (kept_of P) basis q col ql in absurd (omega arith)
      | inr d ↦ not_auxiliary P basis q f rows s i (omega arith)
          (own_put_other (kept_of P) basis q f i d ∙ sym (own_put_other (kept_of P) basis q col i d) ∙ e)
    ]) in
    let no_aux : ¬ (HasAuxiliary P (put_at basis q col)) =
    (λ h. out h.0 h.1 (own_low (kept_of P) (put_at basis q col) h.0 h.1 ∙ sym h.2)) in
    let b : (prim : ℕ → ℕ → ℤ) × IsBasis (kept_of P) (own_of (kept_of P) (put_at basis q col)) prim =
    multiple_rows_exist (kept_of P) (own_of (kept_of P) (put_at basis q col)) rows' (kept_tagged P) m in
    let par : AreParallel (kept_of P) rows' b.0 =
    rows_parallel (kept_of P) (own_of (kept_of P) (put_at basis q col)) b.0 rows' b.1 m in
    let low : (i : ℕ) → i < P.m → own_of (system_of P) (put_at basis q col) i
    ≡ own_of (kept_of P) (put_at basis q col) i =
    (λ i l. own_low (system_of P) (put_at basis q col) i l ∙ sym (own_low (kept_of P) (put_at basis q col) i l)) in
    let last : own_of (system_of P) (put_at basis q col) P.m ≡ P.n + P.m =
    own_high (system_of P) (put_at basis q col) P.m (omega arith) in
    let pb : IsBasis (system_of P) (own_of (system_of P) (put_at basis q col)) (without_column P b.0) =
    phase_basis P (own_of (kept_of P) (put_at basis q col)) (own_of (system_of P) (put_at basis q col)) b.0
    (without_column P b.0) b.1 out low last (λ i l k kl. refl) in
    let pm : HasMultipleRows (system_of P) (own_of (system_of P) (put_at basis q col)) (without_column P b.0) =
    basis_multiples (system_of P) (own_of (system_of P) (put_at basis q col)) (without_column P b.0) pb in
    let hm : HasMultipleRows (system_of P) (own_of (system_of P) (put_at basis q col)) (without_column P rows') =
    record {
      inside = pm.inside;
      last = pm.last;
      rows_of = λ i il.
          multiple_parallel (system_of P) (own_of (system_of P) (put_at basis q col)) i (without_column P b.0 i)
          (without_column P rows' i) (tags_in (system_of P) (system_tagged P))
          (multiples_in (system_of P) (own_of (system_of P) (put_at basis q col)) (without_column P b.0) pm) il
          (let h : IsParallel (suc (suc (suc (P.n + P.m)))) (b.0 i) (rows' i) =
          parallel_sym (suc (suc (suc (P.n + P.m)))) (rows' i) (b.0 i) (par i il) in
          record {
            p = h.p;
            q = h.q;
            p_positive = h.p_positive;
            q_positive = h.q_positive;
            same = λ k kl. let g : auxiliary_place P k ≤ suc (suc (P.n + P.m)) = place_in P k (omega arith) in
                h.same (auxiliary_place P k) (omega arith);
          })
          (pm.rows_of i il);
    } in (
      st,
      no_aux,
      record {
        multiples = hm;
        feasible = elim (turned_standing P (suc r.0) (put_at basis q col) (basis, r.1, st)) [
          | inl h ↦ absurd (no_aux h.0)
          | inr h ↦
              order_parallel (system_of P) h.1.0 (without_column P rows') (system_tagged P)
              (are_sym (system_of P) (without_column P rows') h.1.0
              (rows_parallel (system_of P) (own_of (system_of P) (put_at basis q col)) h.1.0
              (without_column P rows') h.1.1.is_basis hm)) h.1.1.feasible
        ];
      },
    )

-- rows without a common divisor are then the program's own
pub beside_leaves_exact : (P : Program) (basis : ℕ → ℕ) (q f col : ℕ) (rows rows' : ℕ → ℕ → ℤ)
    → StandsBeside P basis q f rows → Reached P basis → EntersBeside P q rows col → IsBesidePivot P q col rows rows'
    → HasNoLeast (auxiliary_of P) (P.n + P.m) rows'
    → ((i : ℕ) → i ≤ P.m → IsPrimitive (suc (right (kept_of P))) (rows' i))
    → StandsWith (system_of P) (put_at basis q col) (without_column P rows')
beside_leaves_exact P basis q f col rows rows' s r v w n p =
    let x : Steps P basis (put_at basis q col) × ¬ (HasAuxiliary P (put_at basis q col))
    × StandsMultiple (system_of P) (put_at basis q col) (without_column P rows') =
    beside_leaves P basis q f col rows rows' s r v w n in
    let b : IsBasis (kept_of P) (own_of (kept_of P) (put_at basis q col)) rows' =
    multiples_basis (kept_of P) (own_of (kept_of P) (put_at basis q col)) rows'
    (beside_pivoted P basis q f col rows rows' s v w) p in
    record {
      is_basis =
          phase_basis P (own_of (kept_of P) (put_at basis q col)) (own_of (system_of P) (put_at basis q col)) rows'
          (without_column P rows') b
          (λ i l e. x.1 (i, l, sym e ∙ own_low (kept_of P) (put_at basis q col) i l))
          (λ i l. own_low (system_of P) (put_at basis q col) i l ∙ sym (own_low (kept_of P) (put_at basis q col) i l))
          (own_high (system_of P) (put_at basis q col) P.m (omega arith)) (λ i l k kl. refl);
      feasible = x.2.feasible;
    }

-- ---- no column enters
pub beside_ends : (P : Program) (basis : ℕ → ℕ) (q f : ℕ) (rows : ℕ → ℕ → ℤ) → StandsBeside P basis q f rows
    → Reached P basis → ((k : ℕ) → k < P.n + P.m → pos 0 ≤ℤ rows q k) → EndsInFirstPhase P basis
beside_ends P basis q f rows s r n =
    let x : InFirst P basis = in_first P basis q f rows s r in
    let par : AreParallel (auxiliary_of P) (back_rows P q rows) x.rows =
    rows_parallel (auxiliary_of P) (own_of (auxiliary_of P) basis) x.rows (back_rows P q rows) x.stands.is_basis
    (back_multiples P basis q f rows s) in
    let h : HasAuxiliary P basis = (q, s.inside, sym s.auxiliary) in
    let z : IsNonnegative (suc (P.n + P.m)) (x.rows P.m) =
    none_improves_parallel (auxiliary_of P) (back_rows P q rows) x.rows par
    (none_enters_back P q rows s.inside n) in
    (x.rows, h, x.stands.is_basis, never_at_zero P basis x.rows x.stands h z)

-- the weights: row q's slack entries, made primitive
pub beside_weights : (P : Program) (basis : ℕ → ℕ) (q f : ℕ) (rows prim : ℕ → ℕ → ℤ) (d : ℤ) (w : ℕ → ℤ)
    → StandsBeside P basis q f rows → IsBasis (auxiliary_of P) (own_of (auxiliary_of P) basis) prim → pos 0 <ℤ d
    → ((i : ℕ) → i < P.m → d *ℤ w i ≡ rows q (P.n + i)) → IsPrimitive P.m w → (i : ℕ) → i < P.m
    → prim P.m (P.n + i) ≡ w i
beside_weights P basis q f rows prim d w s b dp e pw i il =
    let par : IsParallel (suc (suc (suc (P.n + P.m)))) (back_rows P q rows P.m) (prim P.m) =
    rows_parallel (auxiliary_of P) (own_of (auxiliary_of P) basis) prim (back_rows P q rows) b
    (back_multiples P basis q f rows s) P.m (omega arith) in
    let same : (t : ℕ) → t < P.m → (par.p *ℤ d) *ℤ w t ≡ par.q *ℤ prim P.m (P.n + t) =
    (λ t tl.
    let a : (par.p *ℤ d) *ℤ w t ≡ par.p *ℤ (d *ℤ w t) = simp ring in
    let o : back_rows P q rows P.m (P.n + t) ≡ rows q (P.n + t) =
    ap (λ v. v (P.n + t)) (back_last P q rows s.inside)
    ∙ objective_other P (rows q) (P.n + t) (omega arith) (omega arith) in
    a ∙ ap (λ v. par.p *ℤ v) (e t tl ∙ sym o) ∙ par.same (P.n + t) (omega arith)) in
    sym (primitive_same P.m (par.p *ℤ d) par.q w (λ t. prim P.m (P.n + t))
    (mul-pos_z par.p d par.p_positive dp) par.q_positive pw
    (farkas_primitive P (own_of (auxiliary_of P) basis) prim q b s.inside
    (own_low (auxiliary_of P) basis q s.inside ∙ s.auxiliary)) same i il)
