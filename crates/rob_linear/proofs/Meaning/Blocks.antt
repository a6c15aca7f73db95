-- Programs that fall into blocks: the Farkas weights of an ending lie in one of them.
use Rattle.std.proofs.Common.{◌≡◌, ◌≢◌, ℕ, suc, ◌+◌, ◌-◌, ◌<◌, sym, refl, ap, ◌∙◌, arith, inl, inr, cond, eqb}
use Rattle.std.proofs.lemmas.Int.{ints}
use Rattle.std.proofs.lemmas.Bool.{cases_eq, cases_lt}
use Rattle.std.proofs.lemmas.Bool.Decides.{nat_tests}
use lib.IntN.{ℤ, pos, negsuc, ◌+ℤ◌, ◌*ℤ◌, neg_ℤ}
use lib.Signed.{◌<ℤ◌, ◌≤ℤ◌}
use Rattle.rob_linear.specs.Vectors.{sum_to, dot}
use Rattle.rob_linear.specs.Systems.{LiesAlong, IsBasis, IsSpanned}
use Rattle.rob_linear.specs.Programs.{Program, auxiliary_tag, auxiliary_row, auxiliary_of, EndsInfeasible, FallsIntoBlocks, LieInOneBlock, ShowsEmpty}
use Rattle.rob_algebra.specs.Integer.{mul-zero, zero-mul, mul-one, *ℤ_comm}
use Rattle.rob_algebra.specs.IntegerOrder.{mul_cancel, mul_cancel_zero}
use Rattle.rob_linear.proofs.LinearPrograms.Sums.{sum_ext, sum_zero, sum_one, sum_neg}
use Rattle.rob_linear.proofs.Meaning.Endings.{own_positive}
use Rattle.rob_linear.proofs.Bases.Unique.{row_unique}
use Rattle.rob_linear.proofs.Meaning.Truths.{infeasible, auxiliary_spanned}
use Rattle.rob_linear.proofs.LinearPrograms.Programs.{auxiliary_tag-slack, auxiliary_tag-objective, auxiliary_one, auxiliary_zero, auxiliary_left, auxiliary_entry, auxiliary_cost_left, auxiliary_cost_entry}
use Rattle.rob_linear.proofs.Bases.Square.{cases_zero, cases_some}

-- the number where the labels are the same, and 0 elsewhere
abbrev only : ℕ → ℕ → ℤ → ℤ
only l s x = cond (eqb l s) x (pos 0)

only_same : (l s : ℕ) (x : ℤ) → l ≡ s → only l s x ≡ x
only_same l s x e = grind (arith, nat_tests)

only_other : (l s : ℕ) (x : ℤ) → l ≢ s → only l s x ≡ pos 0
only_other l s x d = grind (arith, nat_tests)

only_zero : (l s : ℕ) (x : ℤ) → x ≡ pos 0 → only l s x ≡ pos 0
only_zero l s x e = elim (cases_eq l s) [ inl c ↦ only_same l s x c ∙ e | inr d ↦ only_other l s x d ]

-- an entry of a column with the label, and one of a column without it
entry_kept : (l s : ℕ) (x a : ℤ) → (l ≢ s → a ≡ pos 0) → only l s x *ℤ a ≡ x *ℤ a
entry_kept l s x a h = elim (cases_eq l s) [
  | inl c ↦ ap (λ v. v *ℤ a) (only_same l s x c)
  | inr d ↦ ap (λ v. only l s x *ℤ v) (h d) ∙ mul-zero (only l s x) ∙ sym (ap (λ v. x *ℤ v) (h d) ∙ mul-zero x)
]

entry_dropped : (l s : ℕ) (x a : ℤ) → (l ≡ s → a ≡ pos 0) → only l s x *ℤ a ≡ pos 0
entry_dropped l s x a h = elim (cases_eq l s) [
  | inl c ↦ ap (λ v. only l s x *ℤ v) (h c) ∙ mul-zero (only l s x)
  | inr d ↦ ap (λ v. v *ℤ a) (only_other l s x d) ∙ zero-mul a
]

module _ (P : Program) (own : ℕ → ℕ) (rows : ℕ → ℕ → ℤ) (b : IsBasis (auxiliary_of P) own rows)
    (of_row of_column : ℕ → ℕ) (blocks : FallsIntoBlocks P of_row of_column) (s : ℕ) where
  -- the part of row m that the rows with the label make
  abbrev share : ℕ → ℤ
  share t = only (of_row t) s (rows P.m (P.n + t))

  abbrev part : ℕ → ℤ
  part k = sum_to P.m (λ t. share t *ℤ auxiliary_row P t k) +ℤ (sum_to P.m share *ℤ auxiliary_row P P.m k)

  part_slack : (u : ℕ) → u < P.m → part (auxiliary_tag P u) ≡ share u
  part_slack u ul =
      let e : sum_to P.m (λ t. share t *ℤ auxiliary_row P t (auxiliary_tag P u))
      ≡ share u *ℤ auxiliary_row P u (auxiliary_tag P u) =
      sum_one P.m u (λ t. share t *ℤ auxiliary_row P t (auxiliary_tag P u)) ul
      (λ t tl d. ap (λ v. share t *ℤ v) (auxiliary_zero P t u (omega arith) (omega arith) (λ h. d (sym h)))
      ∙ mul-zero (share t)) in
      let f : share u *ℤ auxiliary_row P u (auxiliary_tag P u) ≡ share u =
      ap (λ v. share u *ℤ v) (auxiliary_one P u (omega arith)) ∙ mul-one (share u) in
      let g : sum_to P.m share *ℤ auxiliary_row P P.m (auxiliary_tag P u) ≡ pos 0 =
      ap (λ v. sum_to P.m share *ℤ v) (auxiliary_zero P P.m u (omega arith) (omega arith) (omega arith))
      ∙ mul-zero (sum_to P.m share) in
      omega (arith, ints)

  part_objective : part (auxiliary_tag P P.m) ≡ sum_to P.m share
  part_objective =
      let e : sum_to P.m (λ t. share t *ℤ auxiliary_row P t (auxiliary_tag P P.m)) ≡ pos 0 =
      sum_zero P.m (λ t. share t *ℤ auxiliary_row P t (auxiliary_tag P P.m))
      (λ t tl. ap (λ v. share t *ℤ v) (auxiliary_zero P t P.m (omega arith) (omega arith) (omega arith))
      ∙ mul-zero (share t)) in
      let f : sum_to P.m share *ℤ auxiliary_row P P.m (auxiliary_tag P P.m) ≡ sum_to P.m share =
      ap (λ v. sum_to P.m share *ℤ v) (auxiliary_one P P.m (omega arith)) ∙ mul-one (sum_to P.m share) in
      omega (arith, ints)

  part_spanned : IsSpanned (auxiliary_of P) part
  part_spanned k kl =
      let e : sum_to P.m (λ t. part (auxiliary_tag P t) *ℤ auxiliary_row P t k)
      ≡ sum_to P.m (λ t. share t *ℤ auxiliary_row P t k) =
      sum_ext P.m (λ t. part (auxiliary_tag P t) *ℤ auxiliary_row P t k) (λ t. share t *ℤ auxiliary_row P t k)
      (λ t tl. ap (λ v. v *ℤ auxiliary_row P t k) (part_slack t tl)) in
      let f : part (auxiliary_tag P P.m) *ℤ auxiliary_row P P.m k ≡ sum_to P.m share *ℤ auxiliary_row P P.m k =
      ap (λ v. v *ℤ auxiliary_row P P.m k) part_objective in
      sym (ap (λ v. v +ℤ (part (auxiliary_tag P P.m) *ℤ auxiliary_row P P.m k)) e
      ∙ ap (λ v. sum_to P.m (λ t. share t *ℤ auxiliary_row P t k) +ℤ v) f)

  -- it is that of row m in a column with the label, and 0 in others
  part_column : (k : ℕ) → k < P.n → part k ≡ sum_to P.m (λ t. share t *ℤ P.a t k)
  part_column k kl =
      let e : sum_to P.m (λ t. share t *ℤ auxiliary_row P t k) ≡ sum_to P.m (λ t. share t *ℤ P.a t k) =
      sum_ext P.m (λ t. share t *ℤ auxiliary_row P t k) (λ t. share t *ℤ P.a t k)
      (λ t tl. ap (λ v. share t *ℤ v) (auxiliary_left P t k tl kl)) in
      let f : sum_to P.m share *ℤ auxiliary_row P P.m k ≡ pos 0 =
      ap (λ v. sum_to P.m share *ℤ v) (auxiliary_cost_left P k kl) ∙ mul-zero (sum_to P.m share) in
      omega (arith, ints)

  row_column : (k : ℕ) → k < P.n → rows P.m k ≡ sum_to P.m (λ t. rows P.m (P.n + t) *ℤ P.a t k)
  row_column k kl =
      auxiliary_spanned P (rows P.m) k (λ t. P.a t k) (b.rows_of P.m (omega arith)).spanned (omega arith)
      (λ t tl. auxiliary_left P t k tl kl) (auxiliary_cost_left P k kl)

  zero_structural : (k : ℕ) → k < P.n → rows P.m k ≡ pos 0 → part k ≡ pos 0
  zero_structural k kl z =
      part_column k kl
      ∙ elim (cases_eq (of_column k) s) [
        | inl c ↦
            sum_ext P.m (λ t. share t *ℤ P.a t k) (λ t. rows P.m (P.n + t) *ℤ P.a t k)
            (λ t tl. entry_kept (of_row t) s (rows P.m (P.n + t)) (P.a t k) (λ d. blocks t k tl kl (λ e. d (e ∙ c))))
            ∙ sym (row_column k kl) ∙ z
        | inr d ↦
            sum_zero P.m (λ t. share t *ℤ P.a t k)
            (λ t tl. entry_dropped (of_row t) s (rows P.m (P.n + t)) (P.a t k)
            (λ c. blocks t k tl kl (λ e. d (sym e ∙ c))))
      ]

  zero_slack : (t : ℕ) → t < P.m → rows P.m (P.n + t) ≡ pos 0 → part (P.n + t) ≡ pos 0
  zero_slack t tl z =
      ap part (sym (auxiliary_tag-slack P t tl)) ∙ part_slack t tl ∙ only_zero (of_row t) s (rows P.m (P.n + t)) z

  zero_auxiliary : part (P.n + P.m) ≡ pos 0
  zero_auxiliary =
      let e : sum_to P.m (λ t. share t *ℤ auxiliary_row P t (P.n + P.m)) ≡ neg_ℤ (sum_to P.m share) =
      sum_ext P.m (λ t. share t *ℤ auxiliary_row P t (P.n + P.m)) (λ t. neg_ℤ (share t))
      (λ t tl. ap (λ v. share t *ℤ v) (auxiliary_entry P t tl) ∙ times_less_one (share t))
      ∙ sum_neg P.m share in
      let f : sum_to P.m share *ℤ auxiliary_row P P.m (P.n + P.m) ≡ sum_to P.m share =
      ap (λ v. sum_to P.m share *ℤ v) (auxiliary_cost_entry P) ∙ mul-one (sum_to P.m share) in
      omega (arith, ints)
    where
      times_less_one : (x : ℤ) → x *ℤ negsuc 0 ≡ neg_ℤ x
      times_less_one x = omega (arith, ints)

  -- so it vanishes where row m does, and is a multiple of it
  zero_basic : (k : ℕ) → k < suc (P.n + P.m) → rows P.m k ≡ pos 0 → part k ≡ pos 0
  zero_basic k kl z =
      elim (cases_lt k P.n) [
        | inl l ↦ zero_structural k l z
        | inr h ↦
            elim (cases_eq k (P.n + P.m)) [
              | inl c ↦ ap part c ∙ zero_auxiliary
              | inr d ↦
                  let e : P.n + (k - P.n) ≡ k = omega arith in
                  ap part (sym e) ∙ zero_slack (k - P.n) (omega arith) (ap (rows P.m) e ∙ z)
            ]
      ]

  part_along : LiesAlong (auxiliary_of P) own P.m part
  part_along = record {
    zeros = λ j jl d. zero_basic (own j) (b.inside j (omega arith)) ((b.rows_of P.m (omega arith)).zeros j jl d);
    spanned = part_spanned;
  }

  share_of : (i : ℕ) → i < P.m → sum_to P.m share *ℤ rows P.m (P.n + i) ≡ rows P.m (suc (P.n + P.m)) *ℤ share i
  share_of i il =
      let e : part (own P.m) *ℤ rows P.m (P.n + i) ≡ rows P.m (own P.m) *ℤ part (P.n + i) =
      row_unique (auxiliary_of P) own rows P.m part b (omega arith) part_along (P.n + i) (omega arith) in
      let f : part (own P.m) ≡ sum_to P.m share = ap part (b.last ∙ sym (auxiliary_tag-objective P)) ∙ part_objective in
      let g : part (P.n + i) ≡ share i = ap part (sym (auxiliary_tag-slack P i il)) ∙ part_slack i il in
      ap (λ v. v *ℤ rows P.m (P.n + i)) (sym f) ∙ e ∙ ap (λ v. rows P.m v *ℤ part (P.n + i)) b.last
      ∙ ap (λ v. rows P.m (suc (P.n + P.m)) *ℤ v) g

  -- where a row with the label has a weight, no other row has one
  one_label : (r : ℕ) → r < P.m → of_row r ≡ s → pos 0 <ℤ rows P.m (P.n + r) → (i : ℕ) → i < P.m
      → rows P.m (P.n + i) ≢ pos 0 → of_row i ≡ s
  one_label r rl e p i il d =
      elim (cases_eq (of_row i) s) [
        | inl c ↦ c
        | inr n ↦
            let op : pos 0 <ℤ rows P.m (suc (P.n + P.m)) = own_positive (auxiliary_of P) own rows b in
            let q : rows P.m (P.n + r) *ℤ sum_to P.m share ≡ rows P.m (P.n + r) *ℤ rows P.m (suc (P.n + P.m)) =
            *ℤ_comm (rows P.m (P.n + r)) (sum_to P.m share) ∙ share_of r rl
            ∙ ap (λ v. rows P.m (suc (P.n + P.m)) *ℤ v) (only_same (of_row r) s (rows P.m (P.n + r)) e)
            ∙ *ℤ_comm (rows P.m (suc (P.n + P.m))) (rows P.m (P.n + r)) in
            let all : sum_to P.m share ≡ rows P.m (suc (P.n + P.m)) =
            mul_cancel (rows P.m (P.n + r)) (sum_to P.m share) (rows P.m (suc (P.n + P.m))) p q in
            absurd (d (mul_cancel_zero (rows P.m (suc (P.n + P.m))) (rows P.m (P.n + i)) op
            (ap (λ v. v *ℤ rows P.m (P.n + i)) (sym all) ∙ share_of i il
            ∙ ap (λ v. rows P.m (suc (P.n + P.m)) *ℤ v) (only_other (of_row i) s (rows P.m (P.n + i)) n)
            ∙ mul-zero (rows P.m (suc (P.n + P.m))))))
      ]

pub one_block : (P : Program) (own : ℕ → ℕ) (rows : ℕ → ℕ → ℤ) (of_row of_column : ℕ → ℕ)
    → IsBasis (auxiliary_of P) own rows → EndsInfeasible P rows → FallsIntoBlocks P of_row of_column
    → LieInOneBlock P of_row (λ i. rows P.m (P.n + i))
one_block P own rows of_row of_column b ends blocks =
    let shows : ShowsEmpty P (λ i. rows P.m (P.n + i)) = infeasible P own rows b ends.no_improving ends.below in
    elim (cases_some P.m (λ i. rows P.m (P.n + i))) [
      | inl h ↦
          let low : pos 0 ≤ℤ rows P.m (P.n + h.0) = shows.nonnegative h.0 h.1 in
          let d : rows P.m (P.n + h.0) ≢ pos 0 = h.2 in (
            h.0,
            h.1,
            h.2,
            one_label P own rows b of_row of_column blocks (of_row h.0) h.0 h.1 refl
                (positive (rows P.m (P.n + h.0)) low d),
          )
      | inr none ↦
          let e : dot P.m (λ i. rows P.m (P.n + i)) P.b ≡ pos 0 =
          sum_zero P.m (λ i. rows P.m (P.n + i) *ℤ P.b i)
          (λ i il. ap (λ v. v *ℤ P.b i) (none i il) ∙ zero-mul (P.b i)) in
          let below : dot P.m (λ i. rows P.m (P.n + i)) P.b <ℤ pos 0 = shows.below in
          absurd (omega (arith, ints))
    ]
  where
    positive : (x : ℤ) → pos 0 ≤ℤ x → x ≢ pos 0 → pos 0 <ℤ x
    positive x l d = elim (cases_zero x) [ inl e ↦ absurd (d e) | inr n ↦ omega (arith, ints) ]
