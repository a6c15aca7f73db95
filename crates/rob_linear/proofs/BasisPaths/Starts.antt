-- Where the path of bases begins.
use Rattle.std.proofs.Common.{◌≡◌, ◌≢◌, ℕ, zero, suc, ◌+◌, ◌-◌, ◌<◌, sym, refl, ap, ◌∙◌, subst, arith, inl, inr, cond, eqb}
use Rattle.std.proofs.lemmas.Int.{ints, by_lt_z}
use Rattle.std.proofs.lemmas.Bool.{cases_eq}
use Rattle.std.proofs.lemmas.Bool.Decides.{nat_tests}
use Rattle.std.specs.Int.RustNames.{unsigned_abs}
use Rattle.std.specs.Int.{◌∣◌}
use lib.IntN.{ℤ, pos, negsuc, ◌-ℤ◌, ◌*ℤ◌, neg_ℤ}
use lib.Signed.{◌<ℤ◌, ◌≤ℤ◌}
use Rattle.rob_linear.specs.Vectors.{sum_to}
use Rattle.rob_linear.specs.Systems.{System, IsTagged, right, RowOf, IsCombined}
use Rattle.rob_linear.specs.Programs.{Program, starting_row, system_of, auxiliary_tag, auxiliary_row, auxiliary_of}
use Rattle.rob_linear.specs.Turns.{IsLexPositive, key, ComesBefore, IsLexFeasible, IsPivotable, IsPivot}
use Rattle.rob_algebra.specs.Integer.{ring}
use Rattle.rob_linear.proofs.LinearPrograms.Sums.{sum_ext, sum_neg}
use Rattle.rob_linear.proofs.Bases.Solutions.{tags_in, start_along, start_primitive, start_is_basis}
use Rattle.rob_linear.proofs.Bases.Lexical.{lex_ext, lex_unscale, lex_cases, key_combined}
use Rattle.rob_linear.proofs.LinearPrograms.Programs.{row_right, row_zero, right_row, row_tag, auxiliary_entry, auxiliary_inside, auxiliary_one, auxiliary_right, auxiliary_tag-objective, auxiliary_zero}

pub system_tagged : (P : Program) → IsTagged (system_of P)
system_tagged P = record {
  inside = λ t l. omega arith;
  last = refl;
  one = λ t l. row_tag P t;
  zero = λ t u tl ul d. row_zero P t (P.n + u) (omega arith) (omega arith) (omega arith);
}

pub auxiliary_tagged : (P : Program) → IsTagged (auxiliary_of P)
auxiliary_tagged P =
    record {
      inside = auxiliary_inside P;
      last = auxiliary_tag-objective P;
      one = auxiliary_one P;
      zero = auxiliary_zero P;
    }

-- a starting row's key: its right side, and 1 in its own slack column
key_start : (S : System) → IsTagged S → (i : ℕ) → i < S.m → pos 0 ≤ℤ S.start i (right S)
    → IsLexPositive (suc S.m) (key S (S.start i))
key_start S g i l h =
    by_lt_z (pos 0) (S.start i (right S)) (λ p. (0, omega arith, (λ j jl. absurd (omega arith)), p)) (λ p. (
      suc i,
      omega arith,
      (λ j jl. elim (cases_eq j 0) [
        | inl e ↦ let z : S.start i (right S) ≡ pos 0 = omega (arith, ints) in ap (key S (S.start i)) e ∙ z
        | inr d ↦
            let f : suc (j - 1) ≡ j = omega arith in
            ap (key S (S.start i)) (sym f) ∙ g.zero i (j - 1) (omega arith) (omega arith) (omega arith)
      ]),
      subst (λ v. pos 0 <ℤ v) (sym (g.one i (omega arith))) (omega (arith, ints)),
    ))

-- the start where no right side is negative: the slack columns
pub start_feasible : (P : Program) → ((i : ℕ) → i < P.m → pos 0 ≤ℤ P.b i) → IsLexFeasible (system_of P) (starting_row P)
start_feasible P h i l =
    key_start (system_of P) (system_tagged P) i l
    (subst (λ v. pos 0 ≤ℤ v) (sym (row_right P i (omega arith) ∙ right_row P i l)) (h i l))

-- ---- the first pivot of the auxiliary form: the auxiliary column comes in for the row that comes first

-- the starting rows with row e negated
abbrev pub negated_start : System → ℕ → ℕ → ℕ → ℤ
negated_start S e t k = cond (eqb t e) (neg_ℤ (S.start t k)) (S.start t k)

pub negated_other : (S : System) (e t k : ℕ) → t ≢ e → negated_start S e t k ≡ S.start t k
negated_other S e t k d = grind (arith, nat_tests)

pub negated_at : (S : System) (e k : ℕ) → negated_start S e e k ≡ neg_ℤ (S.start e k)
negated_at S e k = grind (arith, nat_tests)

negated_same : (S : System) (e t : ℕ) → t ≢ e → negated_start S e t ≡ S.start t
negated_same S e t d = λ i k. negated_other S e t k d i

pub negated_pivotable : (S : System) (e : ℕ) → IsTagged S → e < S.m → IsPivotable S S.tag (negated_start S e) e
negated_pivotable S e g el = record {
  inside = g.inside;
  last = g.last;
  others = λ i il d. subst (λ r. RowOf S S.tag i r) (sym (negated_same S e i d)) ((start_is_basis S g).rows_of i il);
  along = record {
    zeros = λ j jl d. let z : S.start e (S.tag j) ≡ pos 0 = g.zero e j (omega arith) jl d in
        negated_at S e (S.tag j) ∙ ap neg_ℤ z;
    spanned = λ k kl.
        let a : S.start e k ≡ sum_to (suc S.m) (λ t. S.start e (S.tag t) *ℤ S.start t k) =
        (start_along S g e (omega arith)).spanned k kl in
        negated_at S e k ∙ ap neg_ℤ a
        ∙ sym (sum_neg (suc S.m) (λ t. S.start e (S.tag t) *ℤ S.start t k))
        ∙ sum_ext (suc S.m) (λ t. neg_ℤ (S.start e (S.tag t) *ℤ S.start t k))
        (λ t. negated_start S e e (S.tag t) *ℤ S.start t k) (λ t tl.
        let x : neg_ℤ (S.start e (S.tag t) *ℤ S.start t k) ≡ neg_ℤ (S.start e (S.tag t)) *ℤ S.start t k = simp ring in
        x ∙ ap (λ v. v *ℤ S.start t k) (sym (negated_at S e (S.tag t))));
  };
  primitive =
      λ d h. start_primitive S g e (omega arith) d
      (λ k kl. let n : unsigned_abs (neg_ℤ (S.start e k)) ≡ unsigned_abs (S.start e k) = omega (arith, ints) in
      subst (λ v. d ∣ v) (ap unsigned_abs (negated_at S e k) ∙ n) (h k kl));
}

key_negated : (S : System) (e k : ℕ) → k < suc S.m → key S (negated_start S e e) k ≡ neg_ℤ (key S (S.start e) k)
key_negated S e zero l = negated_at S e (right S)
key_negated S e (suc k) l = negated_at S e (S.tag k)

-- row i less row e
others_positive : (P : Program) (own' : ℕ → ℕ) (rows' : ℕ → ℕ → ℤ) (e i : ℕ) → e < P.m → i < P.m → i ≢ e
    → ((i : ℕ) → i < P.m → ¬ (ComesBefore (auxiliary_of P) (auxiliary_row P i) (pos 1) (auxiliary_row P e) (pos 1)))
    → IsPivot (auxiliary_of P) (auxiliary_tag P) own' (negated_start (auxiliary_of P) e) rows' e (P.n + P.m)
    → IsLexPositive (suc P.m) (key (auxiliary_of P) (rows' i))
others_positive P own' rows' e i el il d first v =
    let S : System = auxiliary_of P in
    let g : IsTagged (auxiliary_of P) = auxiliary_tagged P in
    let c : IsCombined (suc (right S)) (negated_start S e e (P.n + P.m)) (negated_start S e i)
    (negated_start S e i (P.n + P.m)) (negated_start S e e) (rows' i) = v.row_other i (omega arith) d in
    let pe : negated_start S e e (P.n + P.m) ≡ pos 1 = negated_at S e (P.n + P.m) ∙ ap neg_ℤ (auxiliary_entry P e el) in
    let qi : negated_start S e i (P.n + P.m) ≡ negsuc 0 = negated_other S e i (P.n + P.m) d ∙ auxiliary_entry P i il in
    let ke : (k : ℕ) → k < suc P.m → key S (negated_start S e e) k ≡ neg_ℤ (key S (S.start e) k) = key_negated S e in
    let ki : negated_start S e i ≡ S.start i = negated_same S e i d in
    let eq : (k : ℕ) → k < suc P.m → key S (S.start i) k -ℤ key S (S.start e) k ≡ c.divisor *ℤ key S (rows' i) k =
    (λ k kl.
    let a : c.divisor *ℤ key S (rows' i) k ≡ (negated_start S e e (P.n + P.m) *ℤ key S (negated_start S e i) k)
    -ℤ (negated_start S e i (P.n + P.m) *ℤ key S (negated_start S e e) k) =
    key_combined S (negated_start S e e (P.n + P.m)) (negated_start S e i (P.n + P.m)) (negated_start S e i)
    (negated_start S e e) (rows' i) (tags_in S g) c k kl in
    let b : (negated_start S e e (P.n + P.m) *ℤ key S (negated_start S e i) k)
    -ℤ (negated_start S e i (P.n + P.m) *ℤ key S (negated_start S e e) k)
    ≡ (pos 1 *ℤ key S (S.start i) k) -ℤ (negsuc 0 *ℤ neg_ℤ (key S (S.start e) k)) =
    ap (λ w. (w *ℤ key S (negated_start S e i) k) -ℤ (negated_start S e i (P.n + P.m) *ℤ key S (negated_start S e e) k))
    pe
    ∙ ap (λ w. (pos 1 *ℤ key S (negated_start S e i) k) -ℤ (w *ℤ key S (negated_start S e e) k)) qi
    ∙ ap (λ w. (pos 1 *ℤ key S w k) -ℤ (negsuc 0 *ℤ key S (negated_start S e e) k)) ki
    ∙ ap (λ w. (pos 1 *ℤ key S (S.start i) k) -ℤ (negsuc 0 *ℤ w)) (ke k kl) in
    let x : (pos 1 *ℤ key S (S.start i) k) -ℤ (negsuc 0 *ℤ neg_ℤ (key S (S.start e) k))
    ≡ key S (S.start i) k -ℤ key S (S.start e) k = omega (arith, ints) in
    sym (a ∙ b ∙ x)) in
    lex_unscale (suc P.m) c.divisor (key S (rows' i)) c.positive
    (lex_ext (suc P.m) (λ k. key S (S.start i) k -ℤ key S (S.start e) k) (λ k. c.divisor *ℤ key S (rows' i) k) eq
    (elim (lex_cases (suc P.m) (λ k. key S (S.start i) k -ℤ key S (S.start e) k)) [
      | inl h ↦ h
      | inr (inl h) ↦
          absurd (first i il
          (lex_ext (suc P.m) (λ k. neg_ℤ (key S (S.start i) k -ℤ key S (S.start e) k))
          (λ k. (pos 1 *ℤ key S (S.start e) k) -ℤ (pos 1 *ℤ key S (S.start i) k)) (λ k kl. omega (arith, ints)) h))
      | inr (inr z) ↦
          let a : S.start i (S.tag i) ≡ pos 1 = g.one i (omega arith) in
          let b : S.start e (S.tag i) ≡ pos 0 = g.zero e i (omega arith) (omega arith) d in
          let q : S.start i (S.tag i) -ℤ S.start e (S.tag i) ≡ pos 0 = z (suc i) (omega arith) in
          absurd (omega (arith, ints))
    ]))

-- the row that comes first has a negative right side; after the pivot all keys are positive
pub auxiliary_feasible : (P : Program) (own' : ℕ → ℕ) (rows' : ℕ → ℕ → ℤ) (e : ℕ) → P.b e <ℤ pos 0
    → ((i : ℕ) → i < P.m → ¬ (ComesBefore (auxiliary_of P) (auxiliary_row P i) (pos 1) (auxiliary_row P e) (pos 1)))
    → IsPivot (auxiliary_of P) (auxiliary_tag P) own' (negated_start (auxiliary_of P) e) rows' e (P.n + P.m)
    → IsLexFeasible (auxiliary_of P) rows'
auxiliary_feasible P own' rows' e neg first v i il =
    let el : e < P.m = v.row_in in
    elim (cases_eq i e) [
      | inl c ↦
          let r : rows' i (suc (suc (P.n + P.m))) ≡ neg_ℤ (P.b e) =
          ap (λ t. rows' t (suc (suc (P.n + P.m)))) c ∙ v.row_at (suc (suc (P.n + P.m))) (omega arith)
          ∙ negated_at (auxiliary_of P) e (suc (suc (P.n + P.m))) ∙ ap neg_ℤ (auxiliary_right P e el) in
          (0, omega arith, (λ j jl. absurd (omega arith)), omega (arith, ints))
      | inr d ↦ others_positive P own' rows' e i el il d first v
    ]
