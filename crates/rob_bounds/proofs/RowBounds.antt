-- The entries of a basis's rows. The amounts of the starting rows in a row solve as many equations as there are basic
-- columns of other positions, and there is one amount more; so a small solution is a multiple of the row.
use Rattle.std.proofs.Common.{◌≡◌, ◌≢◌, ℕ, zero, suc, ◌*◌, ◌^◌, ◌<◌, ◌≤◌, ◌⊎◌, sym, refl, ap, ◌∙◌, subst, arith, inl, inr, cond}
use Rattle.std.proofs.Math.Nat.{pow-le-pow_left, pow-le-pow_right, pow-succ'}
use Rattle.std.proofs.lemmas.Int.{ints, by_lt_z}
use Rattle.std.proofs.lemmas.Bool.{cases_eq, cases_lt}
use Rattle.std.proofs.lemmas.Bool.Decides.{nat_tests}
use Rattle.std.specs.Prelude.{nat_lt, nat_eq}
use Rattle.std.specs.Int.RustNames.{unsigned_abs}
use lib.IntN.{ℤ, pos, ◌*ℤ◌, neg_ℤ}
use lib.Signed.{◌<ℤ◌}
use Rattle.rob_algebra.specs.Integer.{zero-mul, *ℤ_comm, mul_assoc, mul-neg, neg-mul}
use Rattle.rob_algebra.specs.IntegerOrder.{mul_cancel_zero, mul-pos_z}
use Rattle.rob_linear.specs.Vectors.{sum_to, dot}
use Rattle.rob_linear.specs.Systems.{System, right, IsTagged, LiesAlong, IsPrimitive, IsBasis}
use Rattle.rob_linear.proofs.LinearPrograms.Sums.{sum_ext}
use Rattle.rob_linear.proofs.Bases.Solutions.{own_below, tags_in}
use Rattle.rob_linear.proofs.Bases.Exact.{primitive_same}
use Rattle.rob_linear.proofs.Bases.Primitive.{primitive_part}
use Rattle.rob_linear.proofs.Bases.Unique.{row_unique}
use Rattle.rob_linear.proofs.BasisPaths.Extensions.{sum_of_rows, sum_of_rows-tag, sum_of_rows_spanned}
use Rattle.rob_bounds.specs.Bounds.{HasSmallSolution, StartsWithin, row_bound}
use Rattle.rob_bounds.proofs.Sizes.{size-mul, size-neg, size-sum, size-factor}
use Rattle.rob_bounds.proofs.Equations.{small_solution}

-- ---- a primitive row is the least of its multiples
least_positive : (n o : ℕ) (q : ℤ) (x r : ℕ → ℤ) → o < n → IsPrimitive n x → pos 0 <ℤ q → pos 0 <ℤ r o
    → ((k : ℕ) → k < n → r o *ℤ x k ≡ q *ℤ r k) → (k : ℕ) → k < n → unsigned_abs (x k) ≤ unsigned_abs (r k)
least_positive n o q x r ol prim qp rp e k kl =
    let w : (g : ℤ) × (new : ℕ → ℤ) × (pos 0 <ℤ g) × ((j : ℕ) → j < n → g *ℤ new j ≡ r j) × IsPrimitive n new =
    primitive_part n r o ol rp in
    let s : x k ≡ w.1 k =
    primitive_same n (r o) (q *ℤ w.0) x w.1 rp (mul-pos_z q w.0 qp w.2) prim w.4
    (λ j jl. e j jl ∙ ap (λ v. q *ℤ v) (sym (w.3 j jl)) ∙ sym (mul_assoc q w.0 (w.1 j))) k kl in
    subst (λ v. unsigned_abs v ≤ unsigned_abs (r k)) (sym s) (size-factor w.0 (w.1 k) (r k) w.2 (w.3 k kl))

pub least_multiple : (n o : ℕ) (q : ℤ) (x r : ℕ → ℤ) → o < n → IsPrimitive n x → pos 0 <ℤ q → r o ≢ pos 0
    → ((k : ℕ) → k < n → r o *ℤ x k ≡ q *ℤ r k) → (k : ℕ) → k < n → unsigned_abs (x k) ≤ unsigned_abs (r k)
least_multiple n o q x r ol prim qp d e k kl =
    by_lt_z (pos 0) (r o) (λ p. least_positive n o q x r ol prim qp p e k kl) (λ np.
    let p : pos 0 <ℤ neg_ℤ (r o) =
    by_lt_z (pos 0) (neg_ℤ (r o)) (λ g. g) (λ g. let z : r o ≡ pos 0 = omega (arith, ints) in absurd (d z)) in
    let b : unsigned_abs (x k) ≤ unsigned_abs (neg_ℤ (r k)) =
    least_positive n o q x (λ j. neg_ℤ (r j)) ol prim qp p
    (λ j jl. neg-mul (r o) (x j) ∙ ap neg_ℤ (e j jl) ∙ sym (mul-neg q (r j))) k kl in
    subst (λ v. unsigned_abs (x k) ≤ v) (size-neg (r k)) b)

-- ---- amounts of starting rows

-- the first n numbers, and 0 from there on
abbrev pub cut : ℕ → (ℕ → ℤ) → ℕ → ℤ
cut n y t = cond (nat_lt t n) (y t) (pos 0)

cut_low : (n : ℕ) (y : ℕ → ℤ) (t : ℕ) → t < n → cut n y t ≡ y t
cut_low n y t l = grind (arith, nat_tests)

cut_high : (n : ℕ) (y : ℕ → ℤ) (t : ℕ) → n ≤ t → cut n y t ≡ pos 0
cut_high n y t l = grind (arith, nat_tests)

sum_all : (n : ℕ) (y f : ℕ → ℤ) → sum_to n (λ t. cut n y t *ℤ f t) ≡ dot n f y
sum_all n y f =
    sum_ext n (λ t. cut n y t *ℤ f t) (λ t. f t *ℤ y t)
    (λ t tl. ap (λ v. v *ℤ f t) (cut_low n y t tl) ∙ *ℤ_comm (y t) (f t))

sum_cut : (m n : ℕ) (y f : ℕ → ℤ) → n ≤ m → sum_to m (λ t. cut n y t *ℤ f t) ≡ dot n f y
sum_cut zero n y f l = let e : zero ≡ n = omega arith in
    subst (λ v. sum_to v (λ t. cut n y t *ℤ f t) ≡ dot n f y) (sym e) (sum_all n y f)
sum_cut (suc m) n y f l =
    elim (cases_eq (suc m) n) [
      | inl e ↦ subst (λ v. sum_to v (λ t. cut n y t *ℤ f t) ≡ dot n f y) (sym e) (sum_all n y f)
      | inr d ↦
          let z : cut n y m *ℤ f m ≡ pos 0 = ap (λ v. v *ℤ f m) (cut_high n y m (omega arith)) ∙ zero-mul (f m) in
          let ih : sum_to m (λ t. cut n y t *ℤ f t) ≡ dot n f y = sum_cut m n y f (omega arith) in
          omega (arith, ints)
    ]

-- position u of n others than i
abbrev other : ℕ → ℕ → ℕ → ℕ
other i n u = cond (nat_eq u i) n u

-- the objective's position with all m others, or one before it with the m - 1 others
abbrev pub AreOthers : ℕ → ℕ → ℕ → Type 0
AreOthers m i n = ((i ≡ m) × (n ≡ m)) ⊎ ((i < m) × (suc n ≡ m))

-- each is met
other_onto : (m i n j : ℕ) → AreOthers m i n → j < m → j ≢ i → (u : ℕ) × (u < n) × (other i n u ≡ j)
other_onto m i n j (inl h) jl d =
    let im : i ≡ m = h.0 in let nm : n ≡ m = h.1 in (j, omega arith, grind (arith, nat_tests))
other_onto m i n j (inr h) jl d =
    let im : i < m = h.0 in let nm : suc n ≡ m = h.1 in
    elim (cases_eq j n) [
      | inl e ↦ (i, omega arith, grind (arith, nat_tests))
      | inr f ↦ (j, omega arith, grind (arith, nat_tests))
    ]

other_below : (m i n u : ℕ) → AreOthers m i n → u < n → other i n u ≤ m
other_below m i n u h l =
    let nm : n ≤ m =
    elim h [ inl a ↦ (let e : n ≡ m = a.1 in omega arith) | inr a ↦ (let e : suc n ≡ m = a.1 in omega arith) ] in
    elim (cases_eq u i) [ inl e ↦ grind (arith, nat_tests) | inr d ↦ grind (arith, nat_tests) ]

-- ---- the bound
module _ (S : System) (own : ℕ → ℕ) (rows : ℕ → ℕ → ℤ) (i n a : ℕ) (g : IsTagged S) (b : IsBasis S own rows)
    (h : AreOthers S.m i n) (some : 0 < a)
    (within : StartsWithin a S) where
  nm : n ≤ S.m
  nm = elim h [ inl c ↦ (let e : n ≡ S.m = c.1 in omega arith) | inr c ↦ (let e : suc n ≡ S.m = c.1 in omega arith) ]

  im : i ≤ S.m
  im = elim h [ inl c ↦ (let e : i ≡ S.m = c.0 in omega arith) | inr c ↦ (let e : i < S.m = c.0 in omega arith) ]

  solution : HasSmallSolution n ((suc n * a) ^ n) (λ u t. S.start t (own (other i n u)))
  solution =
      small_solution n a (λ u t. S.start t (own (other i n u))) some (λ u t ul tl.
      let nm_ : n ≤ S.m = nm in
      let o : own (other i n u) < suc S.columns = own_below S own rows b (other i n u) (other_below S.m i n u h ul) in
      within t (own (other i n u)) (omega arith) (omega arith))

  multiple : ℕ → ℤ
  multiple = sum_of_rows S (cut (suc n) solution.x)

  multiple_at : (k : ℕ) → multiple k ≡ dot (suc n) (λ t. S.start t k) solution.x
  unfolding multiple
  multiple_at k = let nm_ : n ≤ S.m = nm in sum_cut (suc S.m) (suc n) solution.x (λ t. S.start t k) (omega arith)

  multiple_tag : (t : ℕ) → t ≤ S.m → multiple (S.tag t) ≡ cut (suc n) solution.x t
  unfolding multiple
  multiple_tag t l = sum_of_rows-tag S (cut (suc n) solution.x) t g l

  multiple_along : LiesAlong S own i multiple
  unfolding multiple
  multiple_along = record {
    zeros = λ j jl d. elim (cases_eq j S.m) [
      | inl e ↦ elim h [
        | inl c ↦ absurd (d (e ∙ sym c.0))
        | inr c ↦
            let nl : suc n ≡ S.m = c.1 in
            ap multiple (ap own e ∙ b.last ∙ sym g.last) ∙ multiple_tag S.m (omega arith)
            ∙ cut_high (suc n) solution.x S.m (omega arith)
      ]
      | inr f ↦
          let u : (u : ℕ) × (u < n) × (other i n u ≡ j) = other_onto S.m i n j h (omega arith) d in
          multiple_at (own j)
          ∙ subst (λ v. dot (suc n) (λ t. S.start t (own v)) solution.x ≡ pos 0) u.2 (solution.solves u.0 u.1)
    ];
    spanned = sum_of_rows_spanned S (cut (suc n) solution.x) g;
  }

  own_at : own i < suc (right S)
  own_at = let o : own i < suc S.columns = own_below S own rows b i im in omega arith

  -- it is not 0 in the position's own column, or it were 0 everywhere
  multiple_some : multiple (own i) ≢ pos 0
  multiple_some z =
      let l : solution.place < suc n = solution.inside in
      let nm_ : n ≤ S.m = nm in
      let t : S.tag solution.place ≤ right S = tags_in S g solution.place (omega arith) in
      let u : multiple (own i) *ℤ rows i (S.tag solution.place) ≡ rows i (own i) *ℤ multiple (S.tag solution.place) =
      row_unique S own rows i multiple b im multiple_along (S.tag solution.place) t in
      let v : multiple (own i) *ℤ rows i (S.tag solution.place) ≡ pos 0 =
      ap (λ v. v *ℤ rows i (S.tag solution.place)) z ∙ zero-mul (rows i (S.tag solution.place)) in
      let w : multiple (S.tag solution.place) ≡ pos 0 =
      mul_cancel_zero (rows i (own i)) (multiple (S.tag solution.place)) (b.rows_of i im).positive (sym u ∙ v) in
      solution.nonzero (sym (cut_low (suc n) solution.x solution.place l)
      ∙ sym (multiple_tag solution.place (omega arith)) ∙ w)

  row_below : (k : ℕ) → k ≤ right S → unsigned_abs (rows i k) ≤ unsigned_abs (multiple k)
  row_below k kl =
      least_multiple (suc (right S)) (own i) (rows i (own i)) (rows i) multiple own_at (b.rows_of i im).primitive
      (b.rows_of i im).positive multiple_some
      (λ j jl. row_unique S own rows i multiple b im multiple_along j (omega arith)) k (omega arith)

  -- the amounts of the starting rows
  pub amount_within : (t : ℕ) → t ≤ S.m → unsigned_abs (rows i (S.tag t)) ≤ (suc n * a) ^ n
  amount_within t tl =
      let e : multiple (S.tag t) ≡ cut (suc n) solution.x t = multiple_tag t tl in
      let l : unsigned_abs (rows i (S.tag t)) ≤ unsigned_abs (multiple (S.tag t)) =
      row_below (S.tag t) (tags_in S g t tl) in
      let s : unsigned_abs (cut (suc n) solution.x t) ≤ (suc n * a) ^ n =
      elim (cases_lt t (suc n)) [
        | inl c ↦ subst (λ v. unsigned_abs v ≤ (suc n * a) ^ n)
            (sym (cut_low (suc n) solution.x t c)) (solution.small t c)
        | inr c ↦ subst (λ v. unsigned_abs v ≤ (suc n * a) ^ n)
            (sym (cut_high (suc n) solution.x t (omega arith))) (omega (arith, ints))
      ] in
      let f : unsigned_abs (multiple (S.tag t)) ≡ unsigned_abs (cut (suc n) solution.x t) = ap unsigned_abs e in
      omega arith

  -- and all entries
  pub entry_within : (k : ℕ) → k ≤ right S → unsigned_abs (rows i k) ≤ (suc n * a) ^ suc n
  entry_within k kl =
      let nm_ : n ≤ S.m = nm in
      let l : unsigned_abs (rows i k) ≤ unsigned_abs (multiple k) = row_below k kl in
      let s : unsigned_abs (dot (suc n) (λ t. S.start t k) solution.x) ≤ suc n * (a * (suc n * a) ^ n) =
      size-sum (suc n) (a * (suc n * a) ^ n) (λ t. S.start t k *ℤ solution.x t)
      (λ t tl. size-mul (S.start t k) (solution.x t) a ((suc n * a) ^ n) (within t k (omega arith) kl)
      (solution.small t tl)) in
      let e : unsigned_abs (multiple k) ≡ unsigned_abs (dot (suc n) (λ t. S.start t k) solution.x) =
      ap unsigned_abs (multiple_at k) in
      let p : (suc n * a) ^ suc n ≡ (suc n * a) * (suc n * a) ^ n = pow-succ' (suc n * a) n in
      omega arith

-- ---- for each position
pub before_within : (S : System) (own : ℕ → ℕ) (rows : ℕ → ℕ → ℤ) (a : ℕ) → IsTagged S → IsBasis S own rows → 0 < a
    → StartsWithin a S → (i : ℕ) → i < S.m → (k : ℕ) → k ≤ right S → unsigned_abs (rows i k) ≤ (S.m * a) ^ S.m
before_within S own rows a g b some within i il k kl = by S.m refl il
  where
    by : (m : ℕ) → S.m ≡ m → i < m → unsigned_abs (rows i k) ≤ (S.m * a) ^ S.m
    by zero e l = absurd (omega arith)
    by (suc n) e l =
        subst (λ m. unsigned_abs (rows i k) ≤ (m * a) ^ m) (sym e)
        (entry_within S own rows i n a g b (inr (il, sym e)) some within k kl)

pub row_within : (S : System) (own : ℕ → ℕ) (rows : ℕ → ℕ → ℤ) (a : ℕ) → IsTagged S → IsBasis S own rows → 0 < a
    → StartsWithin a S → (i : ℕ) → i ≤ S.m → (k : ℕ) → k ≤ right S → unsigned_abs (rows i k) ≤ row_bound S.m a
row_within S own rows a g b some within i il k kl =
    elim (cases_eq i S.m) [
      | inl e ↦ entry_within S own rows i S.m a g b (inl (e, refl)) some within k kl
      | inr d ↦
          let x : unsigned_abs (rows i k) ≤ (S.m * a) ^ S.m =
          before_within S own rows a g b some within i (omega arith) k kl in
          let y : S.m * a ≤ suc S.m * a = omega arith in
          let z : (S.m * a) ^ S.m ≤ (suc S.m * a) ^ S.m = pow-le-pow_left y S.m in
          let l : S.m ≤ suc S.m = omega arith in
          let w : (suc S.m * a) ^ S.m ≤ (suc S.m * a) ^ suc S.m = pow-le-pow_right (omega arith) l in
          omega arith
    ]

pub objective_amount : (S : System) (own : ℕ → ℕ) (rows : ℕ → ℕ → ℤ) (a : ℕ) → IsTagged S → IsBasis S own rows → 0 < a
    → StartsWithin a S → (t : ℕ) → t ≤ S.m → unsigned_abs (rows S.m (S.tag t)) ≤ (suc S.m * a) ^ S.m
objective_amount S own rows a g b some within t tl =
    amount_within S own rows S.m S.m a g b (inl (refl, refl)) some within t tl
