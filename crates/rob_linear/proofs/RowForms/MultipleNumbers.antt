-- Rows up to factors show the same numbers: quotients of two entries of one row.
use Rattle.std.proofs.Common.{◌≡◌, ℕ, zero, suc, ◌+◌, ◌*◌, ◌<◌, ◌≤◌, sym, ap, ◌∙◌, arith}
use Rattle.std.proofs.lemmas.Int.{ints}
use Rattle.std.specs.Int.RustNames.{unsigned_abs}
use lib.IntN.{ℤ, pos, ◌*ℤ◌, neg_ℤ}
use lib.Signed.{◌<ℤ◌}
use Rattle.rob_algebra.specs.Integer.{ring}
use Rattle.rob_algebra.specs.Fraction.{Fraction, of_int, ◌*ℚ◌}
use Rattle.rob_algebra.specs.FractionLaws.{of_int-mul}
use Rattle.rob_algebra.specs.Polynomials.{◌:*◌, v0, v1, v2}
use Rattle.rob_algebra.specs.FractionLaws as Q
use Rattle.std.proofs.Common.{[], ◌∷◌, refl}
use Rattle.rob_linear.specs.Systems.{System, IsTagged, objective, right}
use Rattle.rob_linear.specs.Turns.{key}
use Rattle.rob_linear.specs.Rank.{shifted, row_place, rank, IsWithin}
use Rattle.rob_linear.proofs.Bases.Solutions.{tags_in}
use Rattle.rob_linear.proofs.BasisPaths.Measure.{place_same, joined_same, cross_same}
use Rattle.rob_linear.specs.Optimality.{IsScaled, IsBasicPoint, IsBasicMove}
use Rattle.rob_linear.specs.Multiples.{IsParallel, AreParallel, HasMultipleRows}
use Rattle.rob_linear.proofs.LinearPrograms.Scaling.{cancel_ℚ}
use Rattle.rob_linear.proofs.RowForms.Multiples.{parallel_quotient, multiples_in}

assoc : (r s : ℤ) (x : Fraction) → of_int r *ℚ (of_int s *ℚ x) ≡ (of_int r *ℚ of_int s) *ℚ x
assoc r s x = Q.ring (of_int r ∷ of_int s ∷ x ∷ []) (v0 :* (v1 :* v2)) ((v0 :* v1) :* v2) refl

same_solution : (p q a a' b b' : ℤ) (x : Fraction) → pos 0 <ℤ q → p *ℤ a ≡ q *ℤ a' → p *ℤ b ≡ q *ℤ b'
    → of_int a *ℚ x ≡ of_int b → of_int a' *ℚ x ≡ of_int b'
same_solution p q a a' b b' x qp ea eb h =
    let one : (r s : ℤ) → of_int r *ℚ (of_int s *ℚ x) ≡ of_int (r *ℤ s) *ℚ x =
    (λ r s. assoc r s x ∙ ap (λ v. v *ℚ x) (sym (of_int-mul r s))) in
    cancel_ℚ q (of_int a' *ℚ x) (of_int b') qp
    (one q a' ∙ ap (λ v. of_int v *ℚ x) (sym ea) ∙ sym (one p a) ∙ ap (λ v. of_int p *ℚ v) h ∙ sym (of_int-mul p b)
    ∙ ap of_int eb ∙ of_int-mul q b')

pub point_parallel : (S : System) (own : ℕ → ℕ) (rows rows' : ℕ → ℕ → ℤ) (x : ℕ → Fraction) → HasMultipleRows S own rows
    → AreParallel S rows rows' → IsBasicPoint S own rows x → IsBasicPoint S own rows' x
point_parallel S own rows rows' x m h b = record {
  basic = λ i il.
      let e : IsParallel (suc (right S)) (rows i) (rows' i) = h i (omega arith) in
      let o : own i ≤ right S = multiples_in S own rows m i (omega arith) in
      same_solution e.p e.q (rows i (own i)) (rows' i (own i)) (rows i (right S)) (rows' i (right S)) (x (own i))
      e.q_positive (e.same (own i) (omega arith)) (e.same (right S) (omega arith)) (b.basic i il);
  rest = b.rest;
}

pub move_parallel : (S : System) (own : ℕ → ℕ) (rows rows' : ℕ → ℕ → ℤ) (col : ℕ) (x : ℕ → Fraction)
    → HasMultipleRows S own rows → AreParallel S rows rows' → col < S.columns → IsBasicMove S own rows col x
    → IsBasicMove S own rows' col x
move_parallel S own rows rows' col x m h cl b = record {
  entering = b.entering;
  basic = λ i il.
      let e : IsParallel (suc (right S)) (rows i) (rows' i) = h i (omega arith) in
      let o : own i ≤ right S = multiples_in S own rows m i (omega arith) in
      let u : e.p *ℤ neg_ℤ (rows i col) ≡ neg_ℤ (e.p *ℤ rows i col) = simp ring in
      let v : e.q *ℤ neg_ℤ (rows' i col) ≡ neg_ℤ (e.q *ℤ rows' i col) = simp ring in
      same_solution e.p e.q (rows i (own i)) (rows' i (own i)) (neg_ℤ (rows i col)) (neg_ℤ (rows' i col)) (x (own i))
      e.q_positive (e.same (own i) (omega arith)) (u ∙ ap neg_ℤ (e.same col (omega arith)) ∙ sym v) (b.basic i il);
  rest = b.rest;
}

-- dual values and the like: the entries at some places over the entry at another
pub scaled_parallel : (n count : ℕ) (r s : ℕ → ℤ) (scale : ℕ) (place : ℕ → ℕ) (x : ℕ → Fraction) → IsParallel n r s
    → scale < n → ((j : ℕ) → j < count → place j < n) → IsScaled count x (r scale) (λ j. r (place j))
    → IsScaled count x (s scale) (λ j. s (place j))
scaled_parallel n count r s scale place x e sl pl h j jl =
    same_solution e.p e.q (r scale) (s scale) (r (place j)) (s (place j)) (x j) e.q_positive (e.same scale sl)
    (e.same (place j) (pl j jl)) (h j jl)

-- the measure does not see a factor either
pub rank_parallel : (S : System) (h : ℕ) (r s : ℕ → ℤ) → IsTagged S → IsWithin S h r → IsWithin S h s
    → IsParallel (suc (right S)) r s → rank S h r ≡ rank S h s
rank_parallel S h r s t w w' e =
    let o : pos 0 <ℤ r (objective S) = w.positive in
    let o' : pos 0 <ℤ s (objective S) = w'.positive in
    let on : 0 < unsigned_abs (r (objective S)) = omega (arith, ints) in
    let on' : 0 < unsigned_abs (s (objective S)) = omega (arith, ints) in
    joined_same (suc ((h + h) * (h * h))) (suc S.m) (row_place S h r) (row_place S h s) (λ k kl.
    place_same h (shifted h (key S r k) (r (objective S))) (unsigned_abs (r (objective S)))
    (shifted h (key S s k) (s (objective S))) (unsigned_abs (s (objective S))) on on'
    (cross_same h (key S r k) (r (objective S)) (key S s k) (s (objective S)) (w.keys k kl) w.positive (w'.keys k kl)
    w'.positive (cross_key k kl)))
  where
    cross_key : (k : ℕ) → k < suc S.m → s (objective S) *ℤ key S r k ≡ r (objective S) *ℤ key S s k
    cross_key zero l = sym (parallel_quotient (suc (right S)) r s (objective S) (right S) e (omega arith) (omega arith))
    cross_key (suc k) l = let g : S.tag k ≤ right S = tags_in S t k (omega arith) in
        sym (parallel_quotient (suc (right S)) r s (objective S) (S.tag k) e (omega arith) (omega arith))
