-- The auxiliary column at its optimum.
use Rattle.std.proofs.Common.{◌≡◌, ◌≢◌, ℕ, suc, ◌+◌, ◌-◌, ◌<◌, ◌≤◌, sym, ap, ◌∙◌, subst, arith, inl, inr}
use Rattle.std.proofs.lemmas.Int.{ints}
use Rattle.std.proofs.lemmas.Bool.{cases_eq}
use Rattle.std.specs.Int.RustNames.{unsigned_abs}
use Rattle.std.specs.Int.{◌∣◌}
use lib.IntN.{ℤ, pos, ◌+ℤ◌, ◌-ℤ◌, ◌*ℤ◌, neg_ℤ}
use lib.Signed.{◌<ℤ◌, ◌≤ℤ◌}
use Rattle.rob_linear.specs.Vectors.{sum_to}
use Rattle.rob_linear.specs.Systems.{System, right, IsSpanned, IsPrimitive, LiesAlong, RowOf, IsBasis, IsNonnegative}
use Rattle.rob_linear.specs.Programs.{Program, auxiliary_tag, auxiliary_row, auxiliary_of}
use Rattle.rob_linear.specs.Turns.{IsLexPositive, key, IsLexFeasible}
use Rattle.rob_algebra.specs.Integer.{ring, mul-zero, mul-one}
use Rattle.rob_algebra.specs.IntegerOrder.{mul-pos_z, mul_cancel_lt, mul_nonneg}
use Rattle.rob_linear.proofs.LinearPrograms.Sums.{dot_combine}
use Rattle.rob_linear.proofs.Bases.Solutions.{start_along}
use Rattle.rob_linear.proofs.Meaning.Endings.{own_positive}
use Rattle.rob_linear.proofs.Bases.Unique.{row_unique, own_apart}
use Rattle.rob_linear.proofs.BasisPaths.Starts.{auxiliary_tagged}
use Rattle.rob_linear.proofs.BasisPaths.Phases.{times, divides_times, sum_times, divides_spanned}
use Rattle.rob_linear.proofs.LinearPrograms.Programs.{auxiliary_cost_entry, auxiliary_cost_objective, auxiliary_cost_zero, auxiliary_tag-slack}

spanned_less : (S : System) (p q : ℤ) (a b : ℕ → ℤ) → IsSpanned S a → IsSpanned S b
    → IsSpanned S (λ k. (p *ℤ a k) -ℤ (q *ℤ b k))
spanned_less S p q a b ha hb k kl =
    ap (λ v. (p *ℤ v) -ℤ (q *ℤ b k)) (ha k kl)
    ∙ ap (λ v. (p *ℤ sum_to (suc S.m) (λ t. a (S.tag t) *ℤ S.start t k)) -ℤ (q *ℤ v)) (hb k kl)
    ∙ sym (dot_combine (suc S.m) p q (λ t. a (S.tag t)) (λ t. b (S.tag t)) (λ t. S.start t k))

-- row m is the difference of the auxiliary column's own starting row and of the row of its position
along_last : (P : Program) (own : ℕ → ℕ) (rows : ℕ → ℕ → ℤ) (e : ℕ) → IsBasis (auxiliary_of P) own rows → e < P.m
    → own e ≡ P.n + P.m
    → LiesAlong (auxiliary_of P) own P.m (λ k. (rows e (own e) *ℤ auxiliary_row P P.m k) -ℤ (pos 1 *ℤ rows e k))
along_last P own rows e b el oe = record {
  zeros = λ j jl d. elim (cases_eq j e) [
    | inl c ↦
        let a : auxiliary_row P P.m (own j) ≡ pos 1 =
        ap (auxiliary_row P P.m) (ap own c ∙ oe) ∙ auxiliary_cost_entry P in
        let x : rows e (own j) ≡ rows e (own e) = ap (λ v. rows e (own v)) c in
        let y : rows e (own e) *ℤ auxiliary_row P P.m (own j) ≡ rows e (own e) =
        ap (λ v. rows e (own e) *ℤ v) a ∙ mul-one (rows e (own e)) in
        omega (arith, ints)
    | inr c ↦
        let jb : own j < suc (P.n + P.m) = b.inside j (omega arith) in
        let f : own j ≢ P.n + P.m =
        (λ h. c (own_apart (auxiliary_of P) own rows b j e jl (omega arith) (h ∙ sym oe))) in
        let a : auxiliary_row P P.m (own j) ≡ pos 0 = auxiliary_cost_zero P (own j) f (omega arith) in
        let x : rows e (own j) ≡ pos 0 = (b.rows_of e (omega arith)).zeros j jl c in
        let y : rows e (own e) *ℤ auxiliary_row P P.m (own j) ≡ pos 0 =
        ap (λ v. rows e (own e) *ℤ v) a ∙ mul-zero (rows e (own e)) in
        omega (arith, ints)
  ];
  spanned = spanned_less (auxiliary_of P) (rows e (own e)) (pos 1) (auxiliary_row P P.m) (rows e)
      (start_along (auxiliary_of P) (auxiliary_tagged P) P.m (omega arith)).spanned (b.rows_of e (omega arith)).spanned;
}

-- the auxiliary column is basic at its optimum only where it is positive, and then the program admits nothing
pub auxiliary_positive : (P : Program) (own : ℕ → ℕ) (rows : ℕ → ℕ → ℤ) (e : ℕ) → IsBasis (auxiliary_of P) own rows
    → IsLexFeasible (auxiliary_of P) rows → IsNonnegative (suc (P.n + P.m)) (rows P.m) → e < P.m → own e ≡ P.n + P.m
    → rows P.m (right (auxiliary_of P)) <ℤ pos 0
auxiliary_positive P own rows e b lex n el oe =
    let o : ℤ = rows P.m (suc (P.n + P.m)) in
    let op : pos 0 <ℤ rows P.m (suc (P.n + P.m)) = own_positive (auxiliary_of P) own rows b in
    let pe : pos 0 <ℤ rows e (own e) = (b.rows_of e (omega arith)).positive in
    let eo : rows e (suc (P.n + P.m)) ≡ pos 0 =
    ap (rows e) (sym b.last) ∙ (b.rows_of e (omega arith)).zeros P.m (omega arith) (omega arith) in
    let at_objective : (rows e (own e) *ℤ auxiliary_row P P.m (own P.m))
    -ℤ (pos 1 *ℤ rows e (own P.m)) ≡ rows e (own e) =
    let a : auxiliary_row P P.m (own P.m) ≡ pos 1 = ap (auxiliary_row P P.m) b.last ∙ auxiliary_cost_objective P in
    let x : rows e (own P.m) ≡ pos 0 = ap (rows e) b.last ∙ eo in
    let y : rows e (own e) *ℤ auxiliary_row P P.m (own P.m) ≡ rows e (own e) =
    ap (λ v. rows e (own e) *ℤ v) a ∙ mul-one (rows e (own e)) in
    omega (arith, ints) in
    -- where the starting row is 0, row m is minus row e, up to factors
    let same : (k : ℕ) → k ≤ suc (suc (P.n + P.m)) → k ≢ P.n + P.m → k ≢ suc (P.n + P.m)
    → rows e (own e) *ℤ rows P.m k ≡ neg_ℤ (rows P.m (suc (P.n + P.m)) *ℤ rows e k) =
    (λ k kl d f.
    let u : ((rows e (own e) *ℤ auxiliary_row P P.m (own P.m)) -ℤ (pos 1 *ℤ rows e (own P.m))) *ℤ rows P.m k
    ≡ rows P.m (own P.m) *ℤ ((rows e (own e) *ℤ auxiliary_row P P.m k) -ℤ (pos 1 *ℤ rows e k)) =
    row_unique (auxiliary_of P) own rows P.m (λ k. (rows e (own e) *ℤ auxiliary_row P P.m k) -ℤ (pos 1 *ℤ rows e k)) b
    (omega arith) (along_last P own rows e b el oe) k kl in
    let z : rows e (own e) *ℤ auxiliary_row P P.m k ≡ pos 0 =
    ap (λ v. rows e (own e) *ℤ v) (auxiliary_cost_zero P k d f) ∙ mul-zero (rows e (own e)) in
    let w : (rows e (own e) *ℤ auxiliary_row P P.m k) -ℤ (pos 1 *ℤ rows e k) ≡ neg_ℤ (rows e k) = omega (arith, ints) in
    let x : rows P.m (suc (P.n + P.m)) *ℤ neg_ℤ (rows e k) ≡ neg_ℤ (rows P.m (suc (P.n + P.m)) *ℤ rows e k) =
    simp ring in
    ap (λ v. v *ℤ rows P.m k) (sym at_objective) ∙ u
    ∙ ap (λ v. rows P.m v *ℤ ((rows e (own e) *ℤ auxiliary_row P P.m k) -ℤ (pos 1 *ℤ rows e k))) b.last
    ∙ ap (λ v. rows P.m (suc (P.n + P.m)) *ℤ v) w ∙ x) in
    let h : IsLexPositive (suc P.m) (key (auxiliary_of P) (rows e)) = lex e el in
    elim (cases_eq h.0 0) [
      | inl c ↦
          let q : pos 0 <ℤ rows e (suc (suc (P.n + P.m))) =
          subst (λ v. pos 0 <ℤ key (auxiliary_of P) (rows e) v) c h.3 in
          let f : rows e (own e) *ℤ rows P.m (suc (suc (P.n + P.m)))
          ≡ neg_ℤ (rows P.m (suc (P.n + P.m)) *ℤ rows e (suc (suc (P.n + P.m)))) =
          same (suc (suc (P.n + P.m))) (omega arith) (omega arith) (omega arith) in
          let p : pos 0 <ℤ (rows P.m (suc (P.n + P.m)) *ℤ rows e (suc (suc (P.n + P.m)))) =
          mul-pos_z (rows P.m (suc (P.n + P.m))) (rows e (suc (suc (P.n + P.m)))) op q in
          let z : rows e (own e) *ℤ pos 0 ≡ pos 0 = mul-zero (rows e (own e)) in
          mul_cancel_lt (rows e (own e)) (rows P.m (suc (suc (P.n + P.m)))) (pos 0) pe (omega (arith, ints))
      | inr c ↦
          let hl : h.0 < suc P.m = h.1 in
          let s : suc (h.0 - 1) ≡ h.0 = omega arith in
          let tg : auxiliary_tag P (h.0 - 1) ≡ P.n + (h.0 - 1) = auxiliary_tag-slack P (h.0 - 1) (omega arith) in
          let q : pos 0 <ℤ rows e (P.n + (h.0 - 1)) =
          subst (λ v. pos 0 <ℤ rows e v) tg (subst (λ v. pos 0 <ℤ key (auxiliary_of P) (rows e) v) (sym s) h.3) in
          let f : rows e (own e) *ℤ rows P.m (P.n + (h.0 - 1))
          ≡ neg_ℤ (rows P.m (suc (P.n + P.m)) *ℤ rows e (P.n + (h.0 - 1))) =
          same (P.n + (h.0 - 1)) (omega arith) (omega arith) (omega arith) in
          let p : pos 0 <ℤ (rows P.m (suc (P.n + P.m)) *ℤ rows e (P.n + (h.0 - 1))) =
          mul-pos_z (rows P.m (suc (P.n + P.m))) (rows e (P.n + (h.0 - 1))) op q in
          let nn : pos 0 ≤ℤ (rows e (own e) *ℤ rows P.m (P.n + (h.0 - 1))) =
          mul_nonneg (rows e (own e)) (rows P.m (P.n + (h.0 - 1))) (omega (arith, ints))
          (n (P.n + (h.0 - 1)) (omega arith)) in
          absurd (omega (arith, ints))
    ]

-- ---- the weights have no common divisor

-- where the auxiliary column is basic the objective's entry is the sum of the
-- weights, so a common divisor of the weights divides all
pub farkas_primitive : (P : Program) (own : ℕ → ℕ) (rows : ℕ → ℕ → ℤ) (e : ℕ) → IsBasis (auxiliary_of P) own rows
    → e < P.m → own e ≡ P.n + P.m → IsPrimitive P.m (λ i. rows P.m (P.n + i))
farkas_primitive P own rows e b el oe d h =
    let r : RowOf (auxiliary_of P) own P.m (rows P.m) = b.rows_of P.m (omega arith) in
    let low : (t : ℕ) → t < P.m → d ∣ unsigned_abs (rows P.m (auxiliary_tag P t)) =
    (λ t tl. subst (λ v. d ∣ unsigned_abs (rows P.m v)) (sym (auxiliary_tag-slack P t tl)) (h t tl)) in
    let q : (q : ℤ) × (sum_to P.m (λ t. rows P.m (auxiliary_tag P t) *ℤ auxiliary_row P t (P.n + P.m)) ≡ pos d *ℤ q) =
    sum_times d P.m (λ t. rows P.m (auxiliary_tag P t) *ℤ auxiliary_row P t (P.n + P.m)) (λ t tl.
    let w : (q : ℤ) × (rows P.m (auxiliary_tag P t) ≡ pos d *ℤ q) = times d (rows P.m (auxiliary_tag P t)) (low t tl) in
    let x : (pos d *ℤ w.0) *ℤ auxiliary_row P t (P.n + P.m) ≡ pos d *ℤ (w.0 *ℤ auxiliary_row P t (P.n + P.m)) =
    simp ring in
    (w.0 *ℤ auxiliary_row P t (P.n + P.m), ap (λ v. v *ℤ auxiliary_row P t (P.n + P.m)) w.1 ∙ x)) in
    let z : rows P.m (P.n + P.m) ≡ pos 0 = ap (rows P.m) (sym oe) ∙ r.zeros e (omega arith) (omega arith) in
    let s : rows P.m (P.n + P.m) ≡ sum_to P.m (λ t. rows P.m (auxiliary_tag P t) *ℤ auxiliary_row P t (P.n + P.m))
    +ℤ (rows P.m (auxiliary_tag P P.m) *ℤ auxiliary_row P P.m (P.n + P.m)) = r.spanned (P.n + P.m) (omega arith) in
    let a : rows P.m (auxiliary_tag P P.m) *ℤ auxiliary_row P P.m (P.n + P.m) ≡ rows P.m (auxiliary_tag P P.m) =
    ap (λ v. rows P.m (auxiliary_tag P P.m) *ℤ v) (auxiliary_cost_entry P)
    ∙ mul-one (rows P.m (auxiliary_tag P P.m)) in
    let f : sum_to P.m (λ t. rows P.m (auxiliary_tag P t) *ℤ auxiliary_row P t (P.n + P.m)) ≡ pos d *ℤ q.0 = q.1 in
    let n : pos d *ℤ neg_ℤ q.0 ≡ neg_ℤ (pos d *ℤ q.0) = simp ring in
    let o : d ∣ unsigned_abs (rows P.m (auxiliary_tag P P.m)) =
    divides_times d (rows P.m (auxiliary_tag P P.m)) (neg_ℤ q.0) (omega (arith, ints)) in
    r.primitive d (λ k kl.
    divides_spanned (auxiliary_of P) (rows P.m) d r.spanned
    (λ t tl. elim (cases_eq t P.m) [
      | inl c ↦ subst (λ v. d ∣ unsigned_abs (rows P.m (auxiliary_tag P v))) (sym c) o
      | inr c ↦ low t (omega arith)
    ])
    k (omega arith))
