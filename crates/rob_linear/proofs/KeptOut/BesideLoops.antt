-- With the auxiliary column kept out: the start and the measure of the loop.
use Rattle.std.proofs.Common.{◌≡◌, ◌≢◌, ℕ, zero, suc, ◌+◌, ◌<◌, ◌≤◌, sym, ap, ◌∙◌, subst, arith, inl, inr, cond, eqb}
use Rattle.std.proofs.lemmas.Int.{ints, by_lt_z}
use Rattle.std.proofs.lemmas.Bool.{cases_eq}
use Rattle.std.proofs.lemmas.Bool.Decides.{nat_tests}
use Rattle.std.specs.Int.RustNames.{unsigned_abs}
use lib.IntN.{ℤ, pos, negsuc, ◌*ℤ◌, neg_ℤ}
use lib.Signed.{◌<ℤ◌}
use Rattle.rob_linear.specs.Systems.{System, IsBasis}
use Rattle.rob_linear.specs.Programs.{Program, auxiliary_tag, auxiliary_row, auxiliary_of, kept_row, kept_of}
use Rattle.rob_linear.specs.Turns.{key, ComesBefore, Rises, own_of, StandsWith, TurnsTo, TurnsFrom}
use Rattle.rob_linear.specs.Paths.{HasAuxiliary, Reached, StartsAtSlacks, StartsAtAuxiliary}
use Rattle.rob_linear.specs.Rank.{rank, IsWithin}
use Rattle.rob_linear.specs.WideRows.{NeedsAuxiliary}
use Rattle.rob_linear.specs.Multiples.{IsParallel, AreParallel, HasMultipleRows, put_at}
use Rattle.rob_linear.specs.Beside.{AreStarting, StandsBeside, EntersBeside, IsBesidePivot, IsLeast, HasNoLeast, swapped, beside_objective}
use Rattle.rob_linear.proofs.Bases.Solutions.{tags_in, start_is_basis}
use Rattle.rob_linear.proofs.BasisPaths.Starts.{auxiliary_tagged}
use Rattle.rob_linear.proofs.BasisPaths.Measure.{rank_rises}
use Rattle.rob_linear.proofs.BasisPaths.TwoPhases.{InFirst, kept_is, kept_tagged}
use Rattle.rob_linear.proofs.Bases.Turns.{own_low, own_high, basis_same, before_same, turn_stands}
use Rattle.rob_linear.proofs.BasisPaths.ProgramPaths.{first_path}
use Rattle.rob_linear.proofs.LinearPrograms.Programs.{auxiliary_tag-slack, auxiliary_tag-objective, auxiliary_entry, auxiliary_right, auxiliary_one, auxiliary_zero}
use Rattle.rob_linear.proofs.RowForms.Multiples.{parallel_sym, multiple_parallel, multiples_in, rows_parallel, basis_multiples, rises_parallel, parallel_negative}
use Rattle.rob_linear.proofs.KeptOut.Beside.{put_same, put_other, back_rows, back_last, back_multiples, objective_at, objective_other}
use Rattle.rob_linear.proofs.KeptOut.BesideTurns.{in_first, enters_back, leaves_other, least_is_other, before_negative}
use Rattle.rob_linear.proofs.KeptOut.BesidePaths.{beside_turned, beside_turn}

-- ---- the start
starting_is : (P : Program) (rows : ℕ → ℕ → ℤ) → AreStarting P rows → (i : ℕ) → i < P.m → (k : ℕ)
    → k ≤ suc (suc (P.n + P.m)) → rows i k ≡ auxiliary_row P i k
starting_is P rows h i l k kl = h i (omega arith) k kl ∙ kept_is P i k l

starting_entry : (P : Program) (rows : ℕ → ℕ → ℤ) → AreStarting P rows → (i : ℕ) → i < P.m
    → rows i (P.n + P.m) ≡ negsuc 0
starting_entry P rows h i l = starting_is P rows h i l (P.n + P.m) (omega arith) ∙ auxiliary_entry P i l

-- a lexicographically negative starting row has a negative right side
starting_negative : (P : Program) (rows : ℕ → ℕ → ℤ) → AreStarting P rows → (e : ℕ) → e < P.m → (k : ℕ) → k < suc P.m
    → pos 0 <ℤ neg_ℤ (key (auxiliary_of P) (rows e) k) → P.b e <ℤ pos 0
starting_negative P rows h e l zero kl p =
    let a : rows e (suc (suc (P.n + P.m))) ≡ P.b e =
    starting_is P rows h e l (suc (suc (P.n + P.m))) (omega arith) ∙ auxiliary_right P e l in
    omega (arith, ints)
starting_negative P rows h e l (suc k) kl p =
    let t : auxiliary_tag P k ≡ P.n + k = auxiliary_tag-slack P k (omega arith) in
    let a : rows e (auxiliary_tag P k) ≡ auxiliary_row P e (auxiliary_tag P k) =
    starting_is P rows h e l (auxiliary_tag P k) (omega arith) in
    elim (cases_eq k e) [
      | inl c ↦ let b : auxiliary_row P e (auxiliary_tag P k) ≡ pos 1 =
          ap (λ v. auxiliary_row P e (auxiliary_tag P v)) c ∙ auxiliary_one P e (omega arith) in
          absurd (omega (arith, ints))
      | inr d ↦ let b : auxiliary_row P e (auxiliary_tag P k) ≡ pos 0 =
          auxiliary_zero P e k (omega arith) (omega arith) d in absurd (omega (arith, ints))
    ]

pub beside_starts : (P : Program) (slacks : ℕ → ℕ) (rows : ℕ → ℕ → ℤ) (e : ℕ) → ((i : ℕ) → i < P.m → slacks i ≡ P.n + i)
    → AreStarting P rows → IsLeast (auxiliary_of P) (P.n + P.m) rows e
    → StartsAtAuxiliary P (put_at slacks e (P.n + P.m))
beside_starts P slacks rows e sl h l = record {
  row = e;
  inside = l.inside;
  negative = starting_negative P rows h e l.inside l.negative.0 l.negative.1 l.negative.3;
  first = λ i il c.
      let ei : rows i (P.n + P.m) ≡ negsuc 0 = starting_entry P rows h i il in
      let ee : rows e (P.n + P.m) ≡ negsuc 0 = starting_entry P rows h e l.inside in
      let ni : pos 1 ≡ neg_ℤ (rows i (P.n + P.m)) = omega (arith, ints) in
      let ne : pos 1 ≡ neg_ℤ (rows e (P.n + P.m)) = omega (arith, ints) in
      let b : ComesBefore (auxiliary_of P) (rows i) (neg_ℤ (rows i (P.n + P.m))) (rows e) (neg_ℤ (rows e (P.n + P.m))) =
      before_same (auxiliary_of P) (auxiliary_row P i) (rows i) (auxiliary_row P e) (rows e) (pos 1)
      (neg_ℤ (rows i (P.n + P.m))) (pos 1) (neg_ℤ (rows e (P.n + P.m))) (auxiliary_tagged P)
      (λ k kl. sym (starting_is P rows h i il k kl)) (λ k kl. sym (starting_is P rows h e l.inside k kl)) ni ne c in
      l.first i il (omega (arith, ints))
      (before_negative (auxiliary_of P) (rows i) (rows e) (neg_ℤ (rows i (P.n + P.m))) (neg_ℤ (rows e (P.n + P.m)))
      (omega (arith, ints)) (omega (arith, ints)) l.negative b) b;
  exchanged = λ i il. elim (cases_eq i e) [
    | inl c ↦ let a : cond (eqb i e) (P.n + P.m) (slacks i) ≡ P.n + P.m = grind (arith, nat_tests) in
        let b : cond (eqb i e) (P.n + P.m) (P.n + i) ≡ P.n + P.m = grind (arith, nat_tests) in a ∙ sym b
    | inr d ↦ let a : cond (eqb i e) (P.n + P.m) (slacks i) ≡ slacks i = grind (arith, nat_tests) in
        let b : cond (eqb i e) (P.n + P.m) (P.n + i) ≡ P.n + i = grind (arith, nat_tests) in a ∙ sl i il ∙ sym b
  ];
}

pub slacks_start : (P : Program) (slacks : ℕ → ℕ) (rows : ℕ → ℕ → ℤ) → ((i : ℕ) → i < P.m → slacks i ≡ P.n + i)
    → AreStarting P rows → HasNoLeast (auxiliary_of P) (P.n + P.m) rows → StartsAtSlacks P slacks
slacks_start P slacks rows sl h n = record {
  nonnegative = λ i il. by_lt_z (P.b i) (pos 0) (λ g.
      let e : rows i (P.n + P.m) ≡ negsuc 0 = starting_entry P rows h i il in
      let a : rows i (suc (suc (P.n + P.m))) ≡ P.b i =
      starting_is P rows h i il (suc (suc (P.n + P.m))) (omega arith) ∙ auxiliary_right P i il in
      absurd (n i il (omega (arith, ints)) (0, omega arith, (λ j jl. absurd (omega arith)), omega (arith, ints))))
      (λ g. omega (arith, ints));
  slacks = sl;
}

pub start_stands : (P : Program) (slacks : ℕ → ℕ) (rows : ℕ → ℕ → ℤ) (e : ℕ) → e < P.m
    → ((i : ℕ) → i < P.m → slacks i ≡ P.n + i) → AreStarting P rows
    → StandsBeside P (put_at slacks e (P.n + P.m)) e (P.n + e) rows
start_stands P slacks rows e el sl h =
    let own : ℕ → ℕ = own_of (kept_of P) (put_at (put_at slacks e (P.n + P.m)) e (P.n + e)) in
    let same : (i : ℕ) → i ≤ P.m → auxiliary_tag P i
    ≡ own_of (kept_of P) (put_at (put_at slacks e (P.n + P.m)) e (P.n + e)) i =
    (λ i il. elim (cases_eq i P.m) [
      | inl c ↦ ap (auxiliary_tag P) c ∙ auxiliary_tag-objective P
          ∙ sym (own_high (kept_of P) (put_at (put_at slacks e (P.n + P.m)) e (P.n + e)) i (omega arith))
      | inr d ↦ auxiliary_tag-slack P i (omega arith)
          ∙ sym (own_low (kept_of P) (put_at (put_at slacks e (P.n + P.m)) e (P.n + e)) i (omega arith)
          ∙ elim (cases_eq i e) [
            | inl c ↦ ap (put_at (put_at slacks e (P.n + P.m)) e (P.n + e)) c
                ∙ put_same (put_at slacks e (P.n + P.m)) e (P.n + e) ∙ ap (λ v. P.n + v) (sym c)
            | inr g ↦ put_other (put_at slacks e (P.n + P.m)) e (P.n + e) i g
                ∙ put_other slacks e (P.n + P.m) i g ∙ sl i (omega arith)
          ])
    ]) in
    let b : IsBasis (kept_of P) (own_of (kept_of P) (put_at (put_at slacks e (P.n + P.m)) e (P.n + e))) (kept_row P) =
    basis_same (kept_of P) (own_of (kept_of P) (put_at (put_at slacks e (P.n + P.m)) e (P.n + e))) (auxiliary_tag P)
    (kept_row P) same (start_is_basis (kept_of P) (kept_tagged P)) in
    let m : HasMultipleRows (kept_of P) (own_of (kept_of P) (put_at (put_at slacks e (P.n + P.m)) e (P.n + e)))
    (kept_row P) =
    basis_multiples (kept_of P)
    (own_of (kept_of P) (put_at (put_at slacks e (P.n + P.m)) e (P.n + e))) (kept_row P) b in
    record {
      inside = el;
      auxiliary = put_same slacks e (P.n + P.m);
      multiples = record {
        inside = m.inside;
        last = m.last;
        rows_of = λ i il. multiple_parallel (kept_of P)
            (own_of (kept_of P) (put_at (put_at slacks e (P.n + P.m)) e (P.n + e))) i (kept_row P i) (rows i)
            (tags_in (kept_of P) (kept_tagged P))
            (multiples_in (kept_of P)
            (own_of (kept_of P) (put_at (put_at slacks e (P.n + P.m)) e (P.n + e))) (kept_row P) m) il
            record {
              p = pos 1;
              q = pos 1;
              p_positive = omega (arith, ints);
              q_positive = omega (arith, ints);
              same = λ k kl. ap (λ v. pos 1 *ℤ v) (sym (h i il k (omega arith)));
            } (m.rows_of i il);
      };
      below = let a : rows e (P.n + P.m) ≡ negsuc 0 = starting_entry P rows h e el in omega (arith, ints);
    }

-- ---- the measure
key_of_objective : (P : Program) (r : ℕ → ℤ) (k : ℕ) → k < suc P.m
    → key (auxiliary_of P) (beside_objective P r) k ≡ key (auxiliary_of P) r k
key_of_objective P r zero l = objective_other P r (suc (suc (P.n + P.m))) (omega arith) (omega arith)
key_of_objective P r (suc k) l =
    let t : auxiliary_tag P k ≡ P.n + k = auxiliary_tag-slack P k (omega arith) in
    objective_other P r (auxiliary_tag P k) (omega arith) (omega arith)

key_within : (P : Program) (h : ℕ) (r : ℕ → ℤ) → ((k : ℕ) → k ≤ suc (suc (P.n + P.m)) → unsigned_abs (r k) ≤ h)
    → (k : ℕ) → k < suc P.m → unsigned_abs (key (auxiliary_of P) r k) ≤ h
key_within P h r w zero l = w (suc (suc (P.n + P.m))) (omega arith)
key_within P h r w (suc k) l =
    let t : auxiliary_tag P k ≡ P.n + k = auxiliary_tag-slack P k (omega arith) in w (auxiliary_tag P k) (omega arith)

pub beside_within : (P : Program) (h : ℕ) (r : ℕ → ℤ) → r (P.n + P.m) <ℤ pos 0
    → ((k : ℕ) → k ≤ suc (suc (P.n + P.m)) → unsigned_abs (r k) ≤ h)
    → IsWithin (auxiliary_of P) h (beside_objective P r)
beside_within P h r n w =
    let e : beside_objective P r (suc (P.n + P.m)) ≡ neg_ℤ (r (P.n + P.m)) = objective_at P r in
    let a : unsigned_abs (r (P.n + P.m)) ≤ h = w (P.n + P.m) (omega arith) in
    record {
      keys = λ k kl. subst (λ v. unsigned_abs v ≤ h) (sym (key_of_objective P r k kl)) (key_within P h r w k kl);
      positive = omega (arith, ints);
      objective_in = omega (arith, ints);
    }

pub beside_rises : (P : Program) (basis : ℕ → ℕ) (q f col p : ℕ) (rows rows' : ℕ → ℕ → ℤ)
    → StandsBeside P basis q f rows → Reached P basis → EntersBeside P q rows col → IsBesidePivot P q col rows rows'
    → IsLeast (auxiliary_of P) (P.n + P.m) rows' p
    → Rises (auxiliary_of P) (beside_objective P (rows q)) (beside_objective P (rows' p))
beside_rises P basis q f col p rows rows' s r v w l =
    let S : System = auxiliary_of P in
    let d : p ≢ q = least_is_other P q col rows rows' s.inside s.below v.inside v.improving w p l in
    let x : InFirst P basis = in_first P basis q f rows s r in
    let t : TurnsTo (auxiliary_of P) basis (put_at basis p col) =
    beside_turned P basis q f col p rows s x (enters_back P q rows col s.inside v)
    (leaves_other P q col rows rows' s.inside s.below v.inside v.improving w p l d) in
    let n : (new : ℕ → ℕ → ℤ) × StandsWith (auxiliary_of P) (put_at basis p col) new
    × Rises (auxiliary_of P) (x.rows P.m) (new P.m) =
    turn_stands (auxiliary_of P) basis (put_at basis p col) x.rows (auxiliary_tagged P) x.stands t in
    let s' : StandsBeside P (put_at basis p col) q (basis p) (swapped q p rows') =
    (beside_turn P basis q f col p rows rows' s r v w l).1 in
    let a : IsParallel (suc (suc (suc (P.n + P.m)))) (back_rows P q rows P.m) (x.rows P.m) =
    rows_parallel (auxiliary_of P) (own_of (auxiliary_of P) basis) x.rows (back_rows P q rows) x.stands.is_basis
    (back_multiples P basis q f rows s) P.m (omega arith) in
    let b : IsParallel (suc (suc (suc (P.n + P.m)))) (back_rows P q (swapped q p rows') P.m) (n.0 P.m) =
    rows_parallel (auxiliary_of P) (own_of (auxiliary_of P) (put_at basis p col)) n.0
    (back_rows P q (swapped q p rows')) n.1.is_basis
    (back_multiples P (put_at basis p col) q (basis p) (swapped q p rows') s') P.m (omega arith) in
    let at : swapped q p rows' q ≡ rows' p =
    let e : cond (eqb q q) p (cond (eqb q p) q q) ≡ p = grind (arith, nat_tests) in ap rows' e in
    rises_parallel (auxiliary_of P) (x.rows P.m) (beside_objective P (rows q)) (n.0 P.m)
    (beside_objective P (rows' p)) (auxiliary_tagged P)
    (parallel_sym (suc (suc (suc (P.n + P.m)))) (beside_objective P (rows q)) (x.rows P.m)
    (subst (λ u. IsParallel (suc (suc (suc (P.n + P.m)))) u (x.rows P.m)) (back_last P q rows s.inside) a))
    (parallel_sym (suc (suc (suc (P.n + P.m)))) (beside_objective P (rows' p)) (n.0 P.m)
    (subst (λ u. IsParallel (suc (suc (suc (P.n + P.m)))) u (n.0 P.m))
    (back_last P q (swapped q p rows') s.inside ∙ ap (beside_objective P) at) b)) n.2

pub beside_rank : (P : Program) (h : ℕ) (basis : ℕ → ℕ) (q f col p : ℕ) (rows rows' : ℕ → ℕ → ℤ)
    → StandsBeside P basis q f rows → Reached P basis → EntersBeside P q rows col → IsBesidePivot P q col rows rows'
    → IsLeast (auxiliary_of P) (P.n + P.m) rows' p → ((k : ℕ) → k ≤ suc (suc (P.n + P.m)) → unsigned_abs (rows q k) ≤ h)
    → ((k : ℕ) → k ≤ suc (suc (P.n + P.m)) → unsigned_abs (rows' p k) ≤ h)
    → rank (auxiliary_of P) h (beside_objective P (rows q)) < rank (auxiliary_of P) h (beside_objective P (rows' p))
beside_rank P h basis q f col p rows rows' s r v w l a b =
    rank_rises (auxiliary_of P) h (beside_objective P (rows q)) (beside_objective P (rows' p))
    (beside_within P h (rows q) s.below a) (beside_within P h (rows' p) l.below b)
    (beside_rises P basis q f col p rows rows' s r v w l)

-- ---- rows that are parallel stand too
pub beside_parallel : (P : Program) (basis : ℕ → ℕ) (q f : ℕ) (rows new : ℕ → ℕ → ℤ) → StandsBeside P basis q f rows
    → AreParallel (kept_of P) rows new → StandsBeside P basis q f new
beside_parallel P basis q f rows new s h =
    let ql : q < P.m = s.inside in
    record {
      inside = s.inside;
      auxiliary = s.auxiliary;
      multiples = record {
        inside = s.multiples.inside;
        last = s.multiples.last;
        rows_of = λ i il. multiple_parallel (kept_of P) (own_of (kept_of P) (put_at basis q f)) i (rows i) (new i)
            (tags_in (kept_of P) (kept_tagged P))
            (multiples_in (kept_of P) (own_of (kept_of P) (put_at basis q f)) rows s.multiples) il (h i il)
            (s.multiples.rows_of i il);
      };
      below = parallel_negative (suc (suc (suc (P.n + P.m)))) (rows q) (new q) (P.n + P.m)
          (h q (omega arith)) (omega arith) s.below;
    }

-- a right side is negative where the auxiliary column has been brought in
pub beside_needs : (P : Program) (basis : ℕ → ℕ) → Reached P basis → HasAuxiliary P basis → NeedsAuxiliary P
beside_needs P basis r h =
    let w : (start : ℕ → ℕ) × StartsAtAuxiliary P start × TurnsFrom (auxiliary_of P) start r.0 basis =
    first_path P r.0 basis r.1 h in
    (w.1.row, w.1.inside, w.1.negative)
