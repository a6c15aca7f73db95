-- Vectors and rows that are positive multiples of one another: their signs and
-- order, what the rule chooses of them, and their endings.
use Rattle.std.proofs.Common.{◌≡◌, ℕ, zero, suc, ◌<◌, ◌≤◌, sym, refl, ap, ◌∙◌, subst, arith}
use Rattle.std.proofs.lemmas.Int.{ints, by_lt_z}
use lib.IntN.{ℤ, pos, ◌-ℤ◌, ◌*ℤ◌}
use lib.Signed.{◌<ℤ◌, ◌≤ℤ◌}
use Rattle.rob_algebra.specs.Integer.{ring, mul-zero, one-mul}
use Rattle.rob_algebra.specs.IntegerOrder.{mul_cancel, mul_cancel_zero, mul_cancel_lt, mul_cancel_nonneg, mul-pos_z, mul_nonneg}
use Rattle.rob_linear.specs.Vectors.{sum_to}
use Rattle.rob_linear.specs.Systems.{System, IsTagged, objective, right, IsPrimitive, LiesAlong, RowOf, IsBasis, IsNonnegative, Feasible, EndsOptimal, EndsUnbounded}
use Rattle.rob_linear.specs.Turns.{IsLexPositive, key, ComesBefore, IsLexFeasible, Enters, Leaves, Rises}
use Rattle.rob_linear.specs.Multiples.{IsParallel, AreParallel, IsMultipleRow, HasMultipleRows}
use Rattle.rob_linear.proofs.LinearPrograms.Sums.{sum_ext, sum_scale}
use Rattle.rob_linear.proofs.Bases.Solutions.{own_in, tags_in}
use Rattle.rob_linear.proofs.Bases.Lexical.{lex_ext, lex_scale, lex_unscale}
use Rattle.rob_linear.proofs.Bases.Unique.{row_unique}
use Rattle.rob_linear.proofs.Bases.Primitive.{primitive_part, chosen}

-- ---- vectors that are positive multiples of one another
pub parallel_refl : (n : ℕ) (r : ℕ → ℤ) → IsParallel n r r
parallel_refl n r =
    record {
      p = pos 1;
      q = pos 1;
      p_positive = omega (arith, ints);
      q_positive = omega (arith, ints);
      same = λ k l. refl;
    }

pub parallel_sym : (n : ℕ) (r s : ℕ → ℤ) → IsParallel n r s → IsParallel n s r
parallel_sym n r s h =
    record { p = h.q; q = h.p; p_positive = h.q_positive; q_positive = h.p_positive; same = λ k l. sym (h.same k l) }

pub parallel_trans : (n : ℕ) (r s t : ℕ → ℤ) → IsParallel n r s → IsParallel n s t → IsParallel n r t
parallel_trans n r s t h g = record {
  p = g.p *ℤ h.p;
  q = h.q *ℤ g.q;
  p_positive = mul-pos_z g.p h.p g.p_positive h.p_positive;
  q_positive = mul-pos_z h.q g.q h.q_positive g.q_positive;
  same = λ k l.
      let a : (g.p *ℤ h.p) *ℤ r k ≡ g.p *ℤ (h.p *ℤ r k) = simp ring in
      let b : g.p *ℤ (h.q *ℤ s k) ≡ h.q *ℤ (g.p *ℤ s k) = simp ring in
      let c : h.q *ℤ (g.q *ℤ t k) ≡ (h.q *ℤ g.q) *ℤ t k = simp ring in
      a ∙ ap (λ v. g.p *ℤ v) (h.same k l) ∙ b ∙ ap (λ v. h.q *ℤ v) (g.same k l) ∙ c;
}

-- signs
pub parallel_zero : (n : ℕ) (r s : ℕ → ℤ) (k : ℕ) → IsParallel n r s → k < n → r k ≡ pos 0 → s k ≡ pos 0
parallel_zero n r s k h l z =
    mul_cancel_zero h.q (s k) h.q_positive (sym (h.same k l) ∙ ap (λ v. h.p *ℤ v) z ∙ mul-zero h.p)

pub parallel_positive : (n : ℕ) (r s : ℕ → ℤ) (k : ℕ) → IsParallel n r s → k < n → pos 0 <ℤ r k → pos 0 <ℤ s k
parallel_positive n r s k h l z =
    mul_cancel_lt h.q (pos 0) (s k) h.q_positive
    (subst (λ v. v <ℤ (h.q *ℤ s k)) (sym (mul-zero h.q))
    (subst (λ v. pos 0 <ℤ v) (h.same k l) (mul-pos_z h.p (r k) h.p_positive z)))

pub parallel_nonnegative : (n : ℕ) (r s : ℕ → ℤ) (k : ℕ) → IsParallel n r s → k < n → pos 0 ≤ℤ r k → pos 0 ≤ℤ s k
parallel_nonnegative n r s k h l z =
    let p : pos 0 <ℤ h.p = h.p_positive in
    mul_cancel_nonneg h.q (s k) h.q_positive
    (subst (λ v. pos 0 ≤ℤ v) (h.same k l) (mul_nonneg h.p (r k) (omega (arith, ints)) z))

pub parallel_negative : (n : ℕ) (r s : ℕ → ℤ) (k : ℕ) → IsParallel n r s → k < n → r k <ℤ pos 0 → s k <ℤ pos 0
parallel_negative n r s k h l z =
    by_lt_z (s k) (pos 0) (λ g. g) (λ g.
    let a : pos 0 ≤ℤ r k = parallel_nonnegative n s r k (parallel_sym n r s h) l (omega (arith, ints)) in
    absurd (omega (arith, ints)))

pub parallel_nonpositive : (n : ℕ) (r s : ℕ → ℤ) (k : ℕ) → IsParallel n r s → k < n → r k ≤ℤ pos 0 → s k ≤ℤ pos 0
parallel_nonpositive n r s k h l z =
    by_lt_z (pos 0) (s k) (λ g.
    let a : pos 0 <ℤ r k = parallel_positive n s r k (parallel_sym n r s h) l g in
    absurd (omega (arith, ints))) (λ g. omega (arith, ints))

-- quotients of two entries
pub parallel_quotient : (n : ℕ) (r s : ℕ → ℤ) (j k : ℕ) → IsParallel n r s → j < n → k < n → r j *ℤ s k ≡ s j *ℤ r k
parallel_quotient n r s j k h jl kl =
    let pq : pos 0 <ℤ h.p = h.p_positive in
    let a : h.p *ℤ (r j *ℤ s k) ≡ (h.p *ℤ r j) *ℤ s k = simp ring in
    let b : (h.q *ℤ s j) *ℤ s k ≡ s j *ℤ (h.q *ℤ s k) = simp ring in
    let c : s j *ℤ (h.p *ℤ r k) ≡ h.p *ℤ (s j *ℤ r k) = simp ring in
    mul_cancel h.p (r j *ℤ s k) (s j *ℤ r k) pq
    (a ∙ ap (λ v. v *ℤ s k) (h.same j jl) ∙ b ∙ ap (λ v. s j *ℤ v) (sym (h.same k kl)) ∙ c)

-- what spans and lies along a row
pub parallel_along : (S : System) (own : ℕ → ℕ) (i : ℕ) (r s : ℕ → ℤ) → ((t : ℕ) → t ≤ S.m → S.tag t ≤ right S)
    → ((j : ℕ) → j ≤ S.m → own j ≤ right S) → IsParallel (suc (right S)) r s → LiesAlong S own i r → LiesAlong S own i s
parallel_along S own i r s tags inside h a = record {
  zeros = λ j jl d. let l : own j ≤ right S = inside j jl in
      parallel_zero (suc (right S)) r s (own j) h (omega arith) (a.zeros j jl d);
  spanned = λ k kl.
      mul_cancel h.q (s k) (sum_to (suc S.m) (λ t. s (S.tag t) *ℤ S.start t k)) h.q_positive
      (sym (h.same k (omega arith)) ∙ ap (λ v. h.p *ℤ v) (a.spanned k kl)
      ∙ sym (sum_scale (suc S.m) h.p (λ t. r (S.tag t) *ℤ S.start t k))
      ∙ sum_ext (suc S.m) (λ t. h.p *ℤ (r (S.tag t) *ℤ S.start t k)) (λ t. h.q *ℤ (s (S.tag t) *ℤ S.start t k)) (λ t tl.
      let g : S.tag t ≤ right S = tags t (omega arith) in
      let x : h.p *ℤ (r (S.tag t) *ℤ S.start t k) ≡ (h.p *ℤ r (S.tag t)) *ℤ S.start t k = simp ring in
      let y : (h.q *ℤ s (S.tag t)) *ℤ S.start t k ≡ h.q *ℤ (s (S.tag t) *ℤ S.start t k) = simp ring in
      x ∙ ap (λ v. v *ℤ S.start t k) (h.same (S.tag t) (omega arith)) ∙ y)
      ∙ sum_scale (suc S.m) h.q (λ t. s (S.tag t) *ℤ S.start t k));
}

pub multiple_parallel : (S : System) (own : ℕ → ℕ) (i : ℕ) (r s : ℕ → ℤ) → ((t : ℕ) → t ≤ S.m → S.tag t ≤ right S)
    → ((j : ℕ) → j ≤ S.m → own j ≤ right S) → i ≤ S.m → IsParallel (suc (right S)) r s → IsMultipleRow S own i r
    → IsMultipleRow S own i s
multiple_parallel S own i r s tags inside il h a = record {
  along = parallel_along S own i r s tags inside h a.along;
  positive = let l : own i ≤ right S = inside i il in
      parallel_positive (suc (right S)) r s (own i) h (omega arith) a.positive;
}

pub multiples_in : (S : System) (own : ℕ → ℕ) (rows : ℕ → ℕ → ℤ) → HasMultipleRows S own rows → (i : ℕ)
    → i ≤ S.m → own i ≤ right S
multiples_in S own rows h i l = let g : own i < suc S.columns = own_in S own h.inside h.last i l in omega arith

-- ---- the rows of the basis
pub basis_multiples : (S : System) (own : ℕ → ℕ) (rows : ℕ → ℕ → ℤ) → IsBasis S own rows → HasMultipleRows S own rows
basis_multiples S own rows b =
    record {
      inside = b.inside;
      last = b.last;
      rows_of = λ i l. record {
        along = (b.rows_of i l).along;
        positive = (b.rows_of i l).positive;
      };
    }

pub multiples_basis : (S : System) (own : ℕ → ℕ) (rows : ℕ → ℕ → ℤ) → HasMultipleRows S own rows
    → ((i : ℕ) → i ≤ S.m → IsPrimitive (suc (right S)) (rows i)) → IsBasis S own rows
multiples_basis S own rows h p =
    record {
      inside = h.inside;
      last = h.last;
      rows_of = λ i l. record {
        along = (h.rows_of i l).along;
        positive = (h.rows_of i l).positive;
        primitive = p i l;
      };
    }

-- a row made primitive is that of the position
pub primitive_row : (S : System) (own : ℕ → ℕ) (i : ℕ) (r s : ℕ → ℤ) → IsTagged S
    → ((j : ℕ) → j ≤ S.m → own j ≤ right S) → i ≤ S.m → IsMultipleRow S own i r → IsParallel (suc (right S)) r s
    → IsPrimitive (suc (right S)) s → RowOf S own i s
primitive_row S own i r s g inside il h e p =
    let m : IsMultipleRow S own i s = multiple_parallel S own i r s (tags_in S g) inside il e h in
    record { along = m.along; positive = m.positive; primitive = p }

pub multiple_rows_exist : (S : System) (own : ℕ → ℕ) (rows : ℕ → ℕ → ℤ) → IsTagged S → HasMultipleRows S own rows
    → (prim : ℕ → ℕ → ℤ) × IsBasis S own prim
multiple_rows_exist S own rows g h =
    let t : (prim : ℕ → ℕ → ℤ) × ((i : ℕ) → i < suc S.m → RowOf S own i (prim i)) =
    chosen (suc S.m) (λ i r. RowOf S own i r) (λ i l.
    let il : i ≤ S.m = omega arith in
    let o : own i ≤ right S = multiples_in S own rows h i il in
    let w : (f : ℤ) × (new : ℕ → ℤ) × (pos 0 <ℤ f) × ((j : ℕ) → j < suc (right S) → f *ℤ new j ≡ rows i j)
    × IsPrimitive (suc (right S)) new =
    primitive_part (suc (right S)) (rows i) (own i) (omega arith) (h.rows_of i il).positive in (
      w.1,
      primitive_row S own i (rows i) w.1 g (multiples_in S own rows h) il (h.rows_of i il)
          (record {
            p = pos 1;
            q = w.0;
            p_positive = omega (arith, ints);
            q_positive = w.2;
            same = λ k kl. one-mul (rows i k) ∙ sym (w.3 k kl);
          }) w.4,
    )) in
    (t.0, record { inside = h.inside; last = h.last; rows_of = λ i il. t.1 i (omega arith) })

pub rows_parallel : (S : System) (own : ℕ → ℕ) (prim rows : ℕ → ℕ → ℤ) → IsBasis S own prim → HasMultipleRows S own rows
    → AreParallel S rows prim
rows_parallel S own prim rows b h i il = record {
  p = prim i (own i);
  q = rows i (own i);
  p_positive = (b.rows_of i il).positive;
  q_positive = (h.rows_of i il).positive;
  same = λ k kl. sym (row_unique S own prim i (rows i) b il (h.rows_of i il).along k (omega arith));
}

pub are_sym : (S : System) (rows rows' : ℕ → ℕ → ℤ) → AreParallel S rows rows' → AreParallel S rows' rows
are_sym S rows rows' h i il = parallel_sym (suc (right S)) (rows i) (rows' i) (h i il)

-- ---- choices
pub key_parallel : (S : System) (r s : ℕ → ℤ) → ((t : ℕ) → t ≤ S.m → S.tag t ≤ right S)
    → (h : IsParallel (suc (right S)) r s) → (k : ℕ) → k < suc S.m → h.p *ℤ key S r k ≡ h.q *ℤ key S s k
key_parallel S r s tags h zero l = h.same (right S) (omega arith)
key_parallel S r s tags h (suc k) l = let g : S.tag k ≤ right S = tags k (omega arith) in h.same (S.tag k) (omega arith)

-- the order of two ratios, where each divisor goes with its row
pub before_parallel : (S : System) (a a' b b' : ℕ → ℤ) (p p' q q' : ℤ) → IsTagged S
    → (h : IsParallel (suc (right S)) a a') → (g : IsParallel (suc (right S)) b b') → h.p *ℤ p ≡ h.q *ℤ p'
    → g.p *ℤ q ≡ g.q *ℤ q' → ComesBefore S a p b q → ComesBefore S a' p' b' q'
before_parallel S a a' b b' p p' q q' t h g hp gq c =
    lex_unscale (suc S.m) (h.q *ℤ g.q) (λ k. (p' *ℤ key S b' k) -ℤ (q' *ℤ key S a' k))
    (mul-pos_z h.q g.q h.q_positive g.q_positive)
    (lex_ext (suc S.m) (λ k. (h.p *ℤ g.p) *ℤ ((p *ℤ key S b k) -ℤ (q *ℤ key S a k)))
    (λ k. (h.q *ℤ g.q) *ℤ ((p' *ℤ key S b' k) -ℤ (q' *ℤ key S a' k)))
    (λ k kl.
    let x : (h.p *ℤ g.p) *ℤ ((p *ℤ key S b k) -ℤ (q *ℤ key S a k))
    ≡ ((h.p *ℤ p) *ℤ (g.p *ℤ key S b k)) -ℤ ((g.p *ℤ q) *ℤ (h.p *ℤ key S a k)) = simp ring in
    let y : ((h.q *ℤ p') *ℤ (g.q *ℤ key S b' k)) -ℤ ((g.q *ℤ q') *ℤ (h.q *ℤ key S a' k))
    ≡ (h.q *ℤ g.q) *ℤ ((p' *ℤ key S b' k) -ℤ (q' *ℤ key S a' k)) = simp ring in
    x
    ∙ ap (λ v. (v *ℤ (g.p *ℤ key S b k)) -ℤ ((g.p *ℤ q) *ℤ (h.p *ℤ key S a k))) hp
    ∙ ap (λ v. ((h.q *ℤ p') *ℤ v) -ℤ ((g.p *ℤ q) *ℤ (h.p *ℤ key S a k))) (key_parallel S b b' (tags_in S t) g k kl)
    ∙ ap (λ v. ((h.q *ℤ p') *ℤ (g.q *ℤ key S b' k)) -ℤ (v *ℤ (h.p *ℤ key S a k))) gq
    ∙ ap (λ v. ((h.q *ℤ p') *ℤ (g.q *ℤ key S b' k)) -ℤ ((g.q *ℤ q') *ℤ v)) (key_parallel S a a' (tags_in S t) h k kl)
    ∙ y)
    (lex_scale (suc S.m) (h.p *ℤ g.p) (λ k. (p *ℤ key S b k) -ℤ (q *ℤ key S a k))
    (mul-pos_z h.p g.p h.p_positive g.p_positive) c))

-- with the entries of one column as divisors
pub before_column : (S : System) (rows rows' : ℕ → ℕ → ℤ) (i j col : ℕ) → IsTagged S → AreParallel S rows rows'
    → i ≤ S.m → j ≤ S.m → col ≤ right S → ComesBefore S (rows i) (rows i col) (rows j) (rows j col)
    → ComesBefore S (rows' i) (rows' i col) (rows' j) (rows' j col)
before_column S rows rows' i j col t h il jl cl c =
    before_parallel S (rows i) (rows' i) (rows j) (rows' j) (rows i col) (rows' i col) (rows j col) (rows' j col) t
    (h i il) (h j jl) ((h i il).same col (omega arith)) ((h j jl).same col (omega arith)) c

pub lex_parallel : (S : System) (r s : ℕ → ℤ) → IsTagged S → IsParallel (suc (right S)) r s
    → IsLexPositive (suc S.m) (key S r) → IsLexPositive (suc S.m) (key S s)
lex_parallel S r s t h c =
    lex_unscale (suc S.m) h.q (key S s) h.q_positive
    (lex_ext (suc S.m) (λ k. h.p *ℤ key S r k) (λ k. h.q *ℤ key S s k) (λ k kl. key_parallel S r s (tags_in S t) h k kl)
    (lex_scale (suc S.m) h.p (key S r) h.p_positive c))

pub order_parallel : (S : System) (rows rows' : ℕ → ℕ → ℤ) → IsTagged S → AreParallel S rows rows'
    → IsLexFeasible S rows → IsLexFeasible S rows'
order_parallel S rows rows' t h f i il = lex_parallel S (rows i) (rows' i) t (h i (omega arith)) (f i il)

pub enters_parallel : (S : System) (rows rows' : ℕ → ℕ → ℤ) (col : ℕ) → AreParallel S rows rows'
    → Enters S rows col → Enters S rows' col
enters_parallel S rows rows' col h v =
    let ci : col < S.columns = v.inside in
    record {
      inside = v.inside;
      improving =
          parallel_negative (suc (right S)) (rows S.m) (rows' S.m) col (h S.m (omega arith)) (omega arith) v.improving;
      first = λ k kl. parallel_nonnegative (suc (right S)) (rows S.m) (rows' S.m) k (h S.m (omega arith))
          (omega arith) (v.first k kl);
    }

pub leaves_parallel : (S : System) (rows rows' : ℕ → ℕ → ℤ) (col e : ℕ) → IsTagged S → col < S.columns
    → AreParallel S rows rows' → Leaves S rows col e → Leaves S rows' col e
leaves_parallel S rows rows' col e t cl h v =
    let el : e < S.m = v.inside in
    record {
      inside = v.inside;
      positive = parallel_positive (suc (right S)) (rows e) (rows' e) col (h e (omega arith)) (omega arith) v.positive;
      first = λ i il p c.
          v.first i il
          (parallel_positive (suc (right S)) (rows' i) (rows i) col
          (parallel_sym (suc (right S)) (rows i) (rows' i) (h i (omega arith))) (omega arith) p)
          (before_column S rows' rows i e col t (are_sym S rows rows' h) (omega arith) (omega arith) (omega arith) c);
    }

pub feasible_parallel : (S : System) (rows rows' : ℕ → ℕ → ℤ) → AreParallel S rows rows'
    → Feasible S rows → Feasible S rows'
feasible_parallel S rows rows' h f i il =
    parallel_nonnegative (suc (right S)) (rows i) (rows' i) (right S) (h i (omega arith)) (omega arith) (f i il)

pub none_improves_parallel : (S : System) (rows rows' : ℕ → ℕ → ℤ) → AreParallel S rows rows'
    → IsNonnegative S.columns (rows S.m) → IsNonnegative S.columns (rows' S.m)
none_improves_parallel S rows rows' h n k kl =
    parallel_nonnegative (suc (right S)) (rows S.m) (rows' S.m) k (h S.m (omega arith)) (omega arith) (n k kl)

pub no_limit_parallel : (S : System) (rows rows' : ℕ → ℕ → ℤ) (col : ℕ) → col < S.columns → AreParallel S rows rows'
    → ((i : ℕ) → i < S.m → rows i col ≤ℤ pos 0) → (i : ℕ) → i < S.m → rows' i col ≤ℤ pos 0
no_limit_parallel S rows rows' col cl h n i il =
    parallel_nonpositive (suc (right S)) (rows i) (rows' i) col (h i (omega arith)) (omega arith) (n i il)

pub optimal_parallel : (S : System) (rows rows' : ℕ → ℕ → ℤ) → AreParallel S rows rows'
    → EndsOptimal S rows → EndsOptimal S rows'
optimal_parallel S rows rows' h o =
    record {
      feasible = feasible_parallel S rows rows' h o.feasible;
      no_improving = none_improves_parallel S rows rows' h o.no_improving;
    }

pub unbounded_parallel : (S : System) (own : ℕ → ℕ) (rows rows' : ℕ → ℕ → ℤ) (col : ℕ) → AreParallel S rows rows'
    → EndsUnbounded S own rows col → EndsUnbounded S own rows' col
unbounded_parallel S own rows rows' col h u =
    let ci : col < S.columns = u.inside in
    record {
      feasible = feasible_parallel S rows rows' h u.feasible;
      inside = u.inside;
      improving =
          parallel_negative (suc (right S)) (rows S.m) (rows' S.m) col (h S.m (omega arith)) (omega arith) u.improving;
      no_limit = no_limit_parallel S rows rows' col u.inside h u.no_limit;
    }

pub rises_parallel : (S : System) (r s r' s' : ℕ → ℤ) → IsTagged S → IsParallel (suc (right S)) r s
    → IsParallel (suc (right S)) r' s' → Rises S r r' → Rises S s s'
rises_parallel S r s r' s' t h h' c =
    before_parallel S r s r' s' (r (objective S)) (s (objective S)) (r' (objective S)) (s' (objective S)) t h h'
    (h.same (objective S) (omega arith)) (h'.same (objective S) (omega arith)) c
