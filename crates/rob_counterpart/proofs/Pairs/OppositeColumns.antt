-- The law on pairs: two split columns are never basic together, and of two
-- equating rows the slacks are never both non-basic.
use Rattle.std.proofs.Common.{◌≡◌, ◌≢◌, ℕ, suc, ◌<◌, ◌≤◌, sym, refl, ap, ◌∙◌, subst, arith, inl, inr, ◌⊎◌}
use Rattle.std.proofs.lemmas.Int.{ints}
use Rattle.std.proofs.lemmas.Bool.{cases_eq}
use lib.IntN.{ℤ, pos, ◌+ℤ◌, ◌*ℤ◌, neg_ℤ}
use lib.Signed.{◌<ℤ◌}
use Rattle.rob_linear.specs.Vectors.{Matrix, Columns, sum_to, dot}
use Rattle.rob_linear.specs.Systems.{System, objective, right, IsSpanned, IsBasis, Solves, Point, Move}
use Rattle.rob_algebra.specs.Integer.{ring, mul-zero, zero-mul, one-mul, mul-neg}
use Rattle.rob_linear.proofs.LinearPrograms.Sums.{sum_ext, sum_neg, sum_add, sum_one}
use Rattle.rob_linear.proofs.Meaning.Endings.{move_meets}
use Rattle.rob_linear.proofs.Bases.Square.{basis_is_back}
use Rattle.rob_linear.proofs.Bases.Unique.{move_exists}
use Rattle.rob_linear.specs.Systems.{IsTagged}
use Rattle.rob_linear.proofs.Bases.Solutions.{basic_or_not}
use Rattle.rob_linear.proofs.Meaning.Endings.{sum_two}
use Rattle.std.proofs.Common.{cond, eqb}
use Rattle.std.proofs.lemmas.Bool.Decides.{nat_tests}
use Rattle.rob_counterpart.specs.BasicPairs.{IsBasic, IsNonbasic}

-- ---- two columns that are opposite in each starting row

pub spanned_opposite : (S : System) (r : ℕ → ℤ) (a b : ℕ) → IsSpanned S r → a ≤ right S → b ≤ right S
    → ((t : ℕ) → t ≤ S.m → S.start t b ≡ neg_ℤ (S.start t a)) → r b ≡ neg_ℤ (r a)
spanned_opposite S r a b span al bl op =
    span b bl
    ∙ sum_ext (suc S.m) (λ t. r (S.tag t) *ℤ S.start t b) (λ t. neg_ℤ (r (S.tag t) *ℤ S.start t a))
    (λ t tl. ap (λ v. r (S.tag t) *ℤ v) (op t (omega arith)) ∙ mul-neg (r (S.tag t)) (S.start t a))
    ∙ sum_neg (suc S.m) (λ t. r (S.tag t) *ℤ S.start t a)
    ∙ ap neg_ℤ (sym (span a al))

-- are never basic together
pub opposite_columns_apart : (S : System) (own : Columns) (rows : Matrix) (a b : ℕ) → IsBasis S own rows → a ≤ right S
    → b ≤ right S → ((t : ℕ) → t ≤ S.m → S.start t b ≡ neg_ℤ (S.start t a)) → (i j : ℕ) → i ≤ S.m → j ≤ S.m → own i ≡ a
    → own j ≡ b → ⊥
opposite_columns_apart S own rows a b bas al bl op i j il jl ia jb =
    let e : rows i b ≡ neg_ℤ (rows i a) = spanned_opposite S (rows i) a b (bas.rows_of i il).spanned al bl op in
    let p : pos 0 <ℤ rows i a = subst (λ v. pos 0 <ℤ rows i v) ia (bas.rows_of i il).positive in
    elim (cases_eq j i) [
      | inl c ↦ let f : rows i b ≡ rows i a = ap (rows i) (sym jb ∙ ap own c ∙ ia) in absurd (omega (arith, ints))
      | inr c ↦ let f : rows i b ≡ pos 0 = ap (rows i) (sym jb) ∙ (bas.rows_of i il).zeros j jl c in
          absurd (omega (arith, ints))
    ]

-- nor does one of them improve where the other is basic
pub opposite_of_basic : (S : System) (own : Columns) (rows : Matrix) (a b : ℕ) → IsBasis S own rows
    → a ≤ right S → b ≤ right S
    → ((t : ℕ) → t ≤ S.m → S.start t b ≡ neg_ℤ (S.start t a)) → (i : ℕ) → i < S.m → own i ≡ a → rows S.m b ≡ pos 0
opposite_of_basic S own rows a b bas al bl op i il ia =
    let e : rows S.m b ≡ neg_ℤ (rows S.m a) =
    spanned_opposite S (rows S.m) a b (bas.rows_of S.m (omega arith)).spanned al bl op in
    let f : rows S.m a ≡ pos 0 =
    ap (rows S.m) (sym ia) ∙ (bas.rows_of S.m (omega arith)).zeros i (omega arith) (omega arith) in
    omega (arith, ints)

-- ---- two starting rows whose sum has nothing but their two tags, and what `rest` says of a solution

-- the sum of two starting rows at a solution
pub rows_sum : (S : System) (s : ℤ) (z : ℕ → ℤ) (t u : ℕ) (f : ℕ → ℤ) → Solves S s z → t ≤ S.m → u ≤ S.m
    → ((k : ℕ) → k ≤ right S → S.start t k +ℤ S.start u k ≡ f k) → dot (suc S.columns) f z ≡ s *ℤ f (right S)
rows_sum S s z t u f sol tl ul sum =
    let a : dot (suc S.columns) (S.start t) z ≡ s *ℤ S.start t (right S) = sol t tl in
    let b : dot (suc S.columns) (S.start u) z ≡ s *ℤ S.start u (right S) = sol u ul in
    let e : s *ℤ (S.start t (right S) +ℤ S.start u (right S))
    ≡ (s *ℤ S.start t (right S)) +ℤ (s *ℤ S.start u (right S)) = simp ring in
    let g : dot (suc S.columns) f z ≡ dot (suc S.columns) (S.start t) z +ℤ dot (suc S.columns) (S.start u) z =
    sum_ext (suc S.columns) (λ k. f k *ℤ z k) (λ k. (S.start t k *ℤ z k) +ℤ (S.start u k *ℤ z k)) (λ k kl.
    let h : (S.start t k +ℤ S.start u k) *ℤ z k ≡ (S.start t k *ℤ z k) +ℤ (S.start u k *ℤ z k) = simp ring in
    ap (λ v. v *ℤ z k) (sym (sum k (omega arith))) ∙ h)
    ∙ sum_add (suc S.columns) (λ k. S.start t k *ℤ z k) (λ k. S.start u k *ℤ z k) in
    g ∙ ap (λ v. v +ℤ dot (suc S.columns) (S.start u) z) a ∙ ap (λ v. (s *ℤ S.start t (right S)) +ℤ v) b ∙ sym e
    ∙ ap (λ v. s *ℤ v) (sum (right S) (omega arith))

-- one term apart
sum_out : (n h : ℕ) (f : ℕ → ℤ) → h < n → sum_to n f ≡ f h +ℤ sum_to n (λ k. cond (eqb k h) (pos 0) (f k))
sum_out n h f l =
    sum_ext n f (λ k. cond (eqb k h) (f k) (pos 0) +ℤ cond (eqb k h) (pos 0) (f k)) (λ k kl. elim (cases_eq k h) [
      | inl e ↦
          let a : cond (eqb k h) (f k) (pos 0) ≡ f k = grind (arith, nat_tests) in
          let b : cond (eqb k h) (pos 0) (f k) ≡ pos 0 = grind (arith, nat_tests) in
          omega (arith, ints)
      | inr e ↦
          let a : cond (eqb k h) (f k) (pos 0) ≡ pos 0 = grind (arith, nat_tests) in
          let b : cond (eqb k h) (pos 0) (f k) ≡ f k = grind (arith, nat_tests) in
          omega (arith, ints)
    ])
    ∙ sum_add n (λ k. cond (eqb k h) (f k) (pos 0)) (λ k. cond (eqb k h) (pos 0) (f k))
    ∙ ap (λ v. v +ℤ sum_to n (λ k. cond (eqb k h) (pos 0) (f k)))
    (sum_one n h (λ k. cond (eqb k h) (f k) (pos 0)) l (λ k kl e. grind (arith, nat_tests))
    ∙ (let a : cond (eqb h h) (f h) (pos 0) ≡ f h = grind (arith, nat_tests) in a))

-- three terms alone
sum_three : (n a b h : ℕ) (f : ℕ → ℤ) → a < n → b < n → h < n → a ≢ b → a ≢ h → b ≢ h
    → ((k : ℕ) → k < n → k ≢ a → k ≢ b → k ≢ h → f k ≡ pos 0) → sum_to n f ≡ f h +ℤ (f a +ℤ f b)
sum_three n a b h f al bl hl ab ah bh z =
    let at_a : cond (eqb a h) (pos 0) (f a) ≡ f a = grind (arith, nat_tests) in
    let at_b : cond (eqb b h) (pos 0) (f b) ≡ f b = grind (arith, nat_tests) in
    sum_out n h f hl
    ∙ ap (λ v. f h +ℤ v)
    (sum_two n a b (λ k. cond (eqb k h) (pos 0) (f k)) al bl ab (λ k kl ka kb. elim (cases_eq k h) [
      | inl e ↦ grind (arith, nat_tests)
      | inr e ↦ let g : cond (eqb k h) (pos 0) (f k) ≡ f k = grind (arith, nat_tests) in g ∙ z k kl ka kb e
    ])
    ∙ ap (λ v. v +ℤ cond (eqb b h) (pos 0) (f b)) at_a ∙ ap (λ v. f a +ℤ v) at_b)

-- two rows whose sum has nothing but their slacks and column h: the slacks of a
-- solution sum to minus that column's part
pub slacks_sum : (S : System) (s : ℤ) (z : ℕ → ℤ) (t u h : ℕ) → IsTagged S → Solves S s z → t < S.m → u < S.m → t ≢ u
    → h ≤ objective S → h ≢ S.tag t → h ≢ S.tag u
    → ((k : ℕ) → k ≤ right S → k ≢ S.tag t → k ≢ S.tag u → k ≢ h → S.start t k +ℤ S.start u k ≡ pos 0)
    → ((S.start t h +ℤ S.start u h) *ℤ z h) +ℤ (z (S.tag t) +ℤ z (S.tag u)) ≡ pos 0
slacks_sum S s z t u h g sol tl ul tu hl ht hu none =
    let tin : S.tag t < S.columns = g.inside t tl in
    let uin : S.tag u < S.columns = g.inside u ul in
    let one_t : S.start t (S.tag t) ≡ pos 1 = g.one t (omega arith) in
    let one_u : S.start u (S.tag u) ≡ pos 1 = g.one u (omega arith) in
    let no_t : S.start t (S.tag u) ≡ pos 0 = g.zero t u (omega arith) (omega arith) (λ e. tu (sym e)) in
    let no_u : S.start u (S.tag t) ≡ pos 0 = g.zero u t (omega arith) (omega arith) tu in
    let apart : S.tag t ≢ S.tag u =
    (λ e. let q : S.start t (S.tag t) ≡ S.start t (S.tag u) = ap (S.start t) e in absurd (omega (arith, ints))) in
    let whole : dot (suc S.columns) (λ k. S.start t k +ℤ S.start u k) z
    ≡ s *ℤ (S.start t (right S) +ℤ S.start u (right S)) =
    rows_sum S s z t u (λ k. S.start t k +ℤ S.start u k) sol (omega arith) (omega arith) (λ k kl. refl) in
    let zr : s *ℤ (S.start t (right S) +ℤ S.start u (right S)) ≡ pos 0 =
    ap (λ v. s *ℤ v) (none (right S) (omega arith) (omega arith) (omega arith) (omega arith)) ∙ mul-zero s in
    let parts : dot (suc S.columns) (λ k. S.start t k +ℤ S.start u k) z
    ≡ ((S.start t h +ℤ S.start u h) *ℤ z h)
    +ℤ (((S.start t (S.tag t) +ℤ S.start u (S.tag t)) *ℤ z (S.tag t))
    +ℤ ((S.start t (S.tag u) +ℤ S.start u (S.tag u)) *ℤ z (S.tag u))) =
    sum_three (suc S.columns) (S.tag t) (S.tag u) h (λ k. (S.start t k +ℤ S.start u k) *ℤ z k) (omega arith)
    (omega arith) (omega arith) apart (λ e. ht (sym e)) (λ e. hu (sym e))
    (λ k kl a b c. ap (λ v. v *ℤ z k) (none k (omega arith) a b c) ∙ zero-mul (z k)) in
    let ct : S.start t (S.tag t) +ℤ S.start u (S.tag t) ≡ pos 1 = omega (arith, ints) in
    let cu : S.start t (S.tag u) +ℤ S.start u (S.tag u) ≡ pos 1 = omega (arith, ints) in
    let et : (S.start t (S.tag t) +ℤ S.start u (S.tag t)) *ℤ z (S.tag t) ≡ z (S.tag t) =
    ap (λ v. v *ℤ z (S.tag t)) ct ∙ one-mul (z (S.tag t)) in
    let eu : (S.start t (S.tag u) +ℤ S.start u (S.tag u)) *ℤ z (S.tag u) ≡ z (S.tag u) =
    ap (λ v. v *ℤ z (S.tag u)) cu ∙ one-mul (z (S.tag u)) in
    omega (arith, ints)

-- a slack is not the objective's column
pub nonbasic_all : (S : System) (own : Columns) (k : ℕ) → own S.m ≡ objective S → k < S.columns
    → IsNonbasic S.m own k → (j : ℕ)
    → j ≤ S.m → k ≢ own j
nonbasic_all S own k last kl n j jl = elim (cases_eq j S.m) [
  | inl e ↦ (λ h. let w : own j ≡ S.columns = ap own e ∙ last in absurd (omega arith))
  | inr e ↦ n j (omega arith)
]

-- where the sum has the two slacks alone, one of them is basic: else the basis
-- could move along the first without the second
pub one_slack_basic : (S : System) (own : Columns) (rows : Matrix) (t u : ℕ) → IsTagged S → IsBasis S own rows → t < S.m
    → u < S.m → t ≢ u → ((k : ℕ) → k ≤ right S → k ≢ S.tag t → k ≢ S.tag u → S.start t k +ℤ S.start u k ≡ pos 0)
    → IsBasic S.m own (S.tag t) ⊎ IsBasic S.m own (S.tag u)
one_slack_basic S own rows t u g b tl ul tu none =
    elim (basic_or_not S.m own (S.tag t)) [
      | inl h ↦ inl h
      | inr nt ↦ elim (basic_or_not S.m own (S.tag u)) [
        | inl h ↦ inr h
        | inr nu ↦
            let tin : S.tag t < S.columns = g.inside t tl in
            let uin : S.tag u < S.columns = g.inside u ul in
            let at : (j : ℕ) → j ≤ S.m → S.tag t ≢ own j = nonbasic_all S own (S.tag t) b.last tin nt in
            let mv : (s : ℤ) × (z : ℕ → ℤ) × Move S own rows (S.tag t) s z = move_exists S own rows (S.tag t) b at in
            let sol : Solves S (pos 0) mv.1 =
            basis_is_back S own rows b (pos 0) mv.1
            (move_meets S own rows (S.tag t) mv.0 mv.1 b mv.2 (omega arith) at) in
            let sum : ((S.start t (objective S) +ℤ S.start u (objective S)) *ℤ mv.1 (objective S))
            +ℤ (mv.1 (S.tag t) +ℤ mv.1 (S.tag u)) ≡ pos 0 =
            slacks_sum S (pos 0) mv.1 t u (objective S) g sol tl ul tu (omega arith) (omega arith) (omega arith)
            (λ k kl a c e. none k kl a c) in
            let no : (S.start t (objective S) +ℤ S.start u (objective S)) *ℤ mv.1 (objective S) ≡ pos 0 =
            ap (λ v. v *ℤ mv.1 (objective S)) (none (objective S) (omega arith) (omega arith) (omega arith))
            ∙ zero-mul (mv.1 (objective S)) in
            let zt : mv.1 (S.tag t) ≡ mv.0 = mv.2.entering in
            let sp : pos 0 <ℤ mv.0 = mv.2.scale in
            let one_t : S.start t (S.tag t) ≡ pos 1 = g.one t (omega arith) in
            let no_t : S.start t (S.tag u) ≡ pos 0 = g.zero t u (omega arith) (omega arith) (λ e. tu (sym e)) in
            let apart : S.tag u ≢ S.tag t =
            (λ e. let q : S.start t (S.tag u) ≡ S.start t (S.tag t) = ap (S.start t) e in
            absurd (omega (arith, ints))) in
            let zu : mv.1 (S.tag u) ≡ pos 0 =
            mv.2.rest (S.tag u) (omega arith) (nonbasic_all S own (S.tag u) b.last uin nu) apart in
            absurd (omega (arith, ints))
      ]
    ]

-- where the sum has one more column, which is not 0 in the basis's point, one
-- of the slacks is basic: the point needs it
pub one_slack_of_point : (S : System) (own : Columns) (rows : Matrix) (s : ℤ) (z : ℕ → ℤ) (t u h : ℕ) → IsTagged S
    → IsBasis S own rows → Point S own rows s z → Solves S s z → t < S.m → u < S.m → t ≢ u
    → h ≤ objective S → h ≢ S.tag t
    → h ≢ S.tag u → ((k : ℕ) → k ≤ right S → k ≢ S.tag t → k ≢ S.tag u → k ≢ h → S.start t k +ℤ S.start u k ≡ pos 0)
    → (S.start t h +ℤ S.start u h) *ℤ z h ≢ pos 0 → IsBasic S.m own (S.tag t) ⊎ IsBasic S.m own (S.tag u)
one_slack_of_point S own rows s z t u h g b p sol tl ul tu hl ht hu none some =
    elim (basic_or_not S.m own (S.tag t)) [
      | inl x ↦ inl x
      | inr nt ↦ elim (basic_or_not S.m own (S.tag u)) [
        | inl x ↦ inr x
        | inr nu ↦
            let tin : S.tag t < S.columns = g.inside t tl in
            let uin : S.tag u < S.columns = g.inside u ul in
            let zt : z (S.tag t) ≡ pos 0 =
            p.rest (S.tag t) (omega arith) (nonbasic_all S own (S.tag t) b.last tin nt) in
            let zu : z (S.tag u) ≡ pos 0 =
            p.rest (S.tag u) (omega arith) (nonbasic_all S own (S.tag u) b.last uin nu) in
            let sum : ((S.start t h +ℤ S.start u h) *ℤ z h) +ℤ (z (S.tag t) +ℤ z (S.tag u)) ≡ pos 0 =
            slacks_sum S s z t u h g sol tl ul tu hl ht hu none in
            absurd (some (omega (arith, ints)))
      ]
    ]
