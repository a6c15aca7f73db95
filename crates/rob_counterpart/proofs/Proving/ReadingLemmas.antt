-- What an admitted point of the reformulated program covers, and what its dual values sum to.
use Rattle.std.proofs.Common.{◌≡◌, ◌≢◌, ℕ, suc, ◌+◌, ◌*◌, ◌<◌, ◌≤◌, sym, refl, ap, ◌∙◌, subst, arith, inl, inr}
use Rattle.std.proofs.lemmas.Int.{ints}
use Rattle.std.proofs.lemmas.Bool.{cases_eq}
use lib.IntN.{ℤ, pos, ◌+ℤ◌, ◌-ℤ◌, ◌*ℤ◌, neg_ℤ}
use lib.Signed.{◌≤ℤ◌}
use Rattle.rob_linear.specs.Vectors.{sum_to, dot}
use Rattle.rob_linear.specs.Programs.{Program}
use Rattle.rob_algebra.specs.Integer.{mul-zero, one-mul, *ℤ_comm, mul-neg, neg-mul, neg-neg}
use Rattle.rob_linear.proofs.LinearPrograms.Sums.{sum_ext, sum_zero, sum_one, sum_neg}
use Rattle.rob_counterpart.proofs.Pairs.Blocks.{sum_first}
use Rattle.rob_counterpart.proofs.Positions.ReformSums.{by_rows, positive_in, negative_in, constant_in, multiplier_in, row_dot, weighted}
use Rattle.rob_counterpart.specs.RobustProgram.{RobustProgram, entry, number_at, item_entry}
use Rattle.rob_counterpart.specs.Reform.{pairs, multiplier, positive_row, negative_row, constant_row, RowIs, IsReform}
use Rattle.rob_counterpart.proofs.Proving.WholeCertificates.{items_entry, ItemsSum, constant_at, BoundsForm}
use Rattle.rob_counterpart.specs.Splitting.{plus, minus}
use Rattle.rob_counterpart.proofs.Proving.ScaledEndings.{plan_of}
use Rattle.rob_counterpart.proofs.Proving.WholeCertificates.{multipliers_of, base_of, vector_of}

neg_dot : (n : ℕ) (f x : ℕ → ℤ) → sum_to n (λ j. neg_ℤ (f j) *ℤ x j) ≡ neg_ℤ (sum_to n (λ j. f j *ℤ x j))
neg_dot n f x = sum_ext n (λ j. neg_ℤ (f j) *ℤ x j) (λ j. neg_ℤ (f j *ℤ x j)) (λ j l. neg-mul (f j) (x j))
    ∙ sum_neg n (λ j. f j *ℤ x j)

dot_comm : (n : ℕ) (f x : ℕ → ℤ) → dot n f x ≡ dot n x f
dot_comm n f x = sum_ext n (λ j. f j *ℤ x j) (λ j. x j *ℤ f j) (λ j l. *ℤ_comm (f j) (x j))

-- a form's number at the plan that is read off x
pub plan_dot : (n : ℕ) (f : ℕ → ℤ) (s : ℤ) (x : ℕ → ℤ)
    → dot (suc n) f (plan_of s x) ≡ (f 0 *ℤ s) +ℤ sum_to n (λ j. f (suc j) *ℤ (x (plus j) -ℤ x (minus j)))
plan_dot n f s x = sum_first n (λ j. f j *ℤ plan_of s x j)

pub rows_bound_forms : (d : RobustProgram) (P : Program) (s : ℤ) (x : ℕ → ℤ) → IsReform d P
    → ((k : ℕ) → k < P.n → pos 0 ≤ℤ x k)
    → ((t : ℕ) → t < P.m → dot P.n (P.a t) x ≤ℤ (s *ℤ P.b t)) → (i : ℕ) → i < d.forms
    → BoundsForm d i (pos 1) (plan_of s x) (multipliers_of d i x)
rows_bound_forms d P s x re xp rows i il = record {
  nonnegative =
      λ r rl. xp (multiplier d i r) (subst (λ v. multiplier d i r < v) (sym re.width) (multiplier_in d i r il rl));
  columns = λ c cl.
      let a : ℤ = sum_to d.set_rows (λ r. d.left r c *ℤ multipliers_of d i x r) in
      let p : RowIs d P (positive_row d i c) i (λ j. neg_ℤ (entry d i c (suc j))) (λ r. d.left r c) (entry d i c 0) =
      re.positive i c il cl in
      let q : RowIs d P (negative_row d i c) i (λ j. entry d i c (suc j)) (λ r. neg_ℤ (d.left r c))
      (neg_ℤ (entry d i c 0)) = re.negative i c il cl in
      let low : dot P.n (P.a (positive_row d i c)) x ≤ℤ (s *ℤ P.b (positive_row d i c)) =
      rows (positive_row d i c) (subst (λ v. positive_row d i c < v) (sym re.height) (positive_in d i c il cl)) in
      let high : dot P.n (P.a (negative_row d i c)) x ≤ℤ (s *ℤ P.b (negative_row d i c)) =
      rows (negative_row d i c) (subst (λ v. negative_row d i c < v) (sym re.height) (negative_in d i c il cl)) in
      let lowb : s *ℤ P.b (positive_row d i c) ≡ entry d i c 0 *ℤ s =
      ap (λ v. s *ℤ v) p.at_right ∙ *ℤ_comm s (entry d i c 0) in
      let highb : s *ℤ P.b (negative_row d i c) ≡ neg_ℤ (entry d i c 0 *ℤ s) =
      ap (λ v. s *ℤ v) q.at_right ∙ *ℤ_comm s (neg_ℤ (entry d i c 0)) ∙ neg-mul (entry d i c 0) s in
      let lowa : dot P.n (P.a (positive_row d i c)) x
      ≡ sum_to (suc d.decisions) (λ j. neg_ℤ (entry d i c (suc j)) *ℤ (x (plus j) -ℤ x (minus j)))
      +ℤ sum_to d.set_rows (λ r. d.left r c *ℤ multipliers_of d i x r) =
      row_dot d P (positive_row d i c) i (λ j. neg_ℤ (entry d i c (suc j))) (λ r. d.left r c)
      (entry d i c 0) x il re.width p in
      let higha : dot P.n (P.a (negative_row d i c)) x
      ≡ sum_to (suc d.decisions) (λ j. entry d i c (suc j) *ℤ (x (plus j) -ℤ x (minus j)))
      +ℤ sum_to d.set_rows (λ r. neg_ℤ (d.left r c) *ℤ multipliers_of d i x r) =
      row_dot d P (negative_row d i c) i (λ j. entry d i c (suc j)) (λ r. neg_ℤ (d.left r c))
      (neg_ℤ (entry d i c 0)) x il re.width q in
      let n1 : sum_to (suc d.decisions) (λ j. neg_ℤ (entry d i c (suc j)) *ℤ (x (plus j) -ℤ x (minus j)))
      ≡ neg_ℤ (sum_to (suc d.decisions) (λ j. entry d i c (suc j) *ℤ (x (plus j) -ℤ x (minus j)))) =
      neg_dot (suc d.decisions) (λ j. entry d i c (suc j)) (λ j. x (plus j) -ℤ x (minus j)) in
      let n2 : sum_to d.set_rows (λ r. neg_ℤ (d.left r c) *ℤ multipliers_of d i x r)
      ≡ neg_ℤ (sum_to d.set_rows (λ r. d.left r c *ℤ multipliers_of d i x r)) =
      neg_dot d.set_rows (λ r. d.left r c) (multipliers_of d i x) in
      let num : number_at d i c (plan_of s x) ≡ (entry d i c 0 *ℤ s)
      +ℤ sum_to (suc d.decisions) (λ j. entry d i c (suc j) *ℤ (x (plus j) -ℤ x (minus j))) =
      plan_dot (suc d.decisions) (entry d i c) s x in
      let one : pos 1 *ℤ number_at d i c (plan_of s x) ≡ number_at d i c (plan_of s x) =
      one-mul (number_at d i c (plan_of s x)) in
      let fl : sum_to d.set_rows (λ r. multipliers_of d i x r *ℤ d.left r c)
      ≡ sum_to d.set_rows (λ r. d.left r c *ℤ multipliers_of d i x r) =
      dot_comm d.set_rows (multipliers_of d i x) (λ r. d.left r c) in
      omega (arith, ints);
  constant =
      let p : RowIs d P (constant_row d i) i (λ j. d.form i 0 (suc j)) d.right (neg_ℤ (d.form i 0 0)) =
      re.constant i il in
      let low : dot P.n (P.a (constant_row d i)) x ≤ℤ (s *ℤ P.b (constant_row d i)) =
      rows (constant_row d i) (subst (λ v. constant_row d i < v) (sym re.height) (constant_in d i il)) in
      let lowb : s *ℤ P.b (constant_row d i) ≡ neg_ℤ (d.form i 0 0 *ℤ s) =
      ap (λ v. s *ℤ v) p.at_right ∙ *ℤ_comm s (neg_ℤ (d.form i 0 0)) ∙ neg-mul (d.form i 0 0) s in
      let lowa : dot P.n (P.a (constant_row d i)) x
      ≡ sum_to (suc d.decisions) (λ j. d.form i 0 (suc j) *ℤ (x (plus j) -ℤ x (minus j)))
      +ℤ dot d.set_rows d.right (multipliers_of d i x) =
      row_dot d P (constant_row d i) i (λ j. d.form i 0 (suc j)) d.right (neg_ℤ (d.form i 0 0)) x il re.width p in
      let num : constant_at d i (plan_of s x) ≡ (d.form i 0 0 *ℤ s)
      +ℤ sum_to (suc d.decisions) (λ j. d.form i 0 (suc j) *ℤ (x (plus j) -ℤ x (minus j))) =
      plan_dot (suc d.decisions) (d.form i 0) s x in
      let one : pos 1 *ℤ constant_at d i (plan_of s x) ≡ constant_at d i (plan_of s x) =
      one-mul (constant_at d i (plan_of s x)) in
      let fl : dot d.set_rows (multipliers_of d i x) d.right ≡ dot d.set_rows d.right (multipliers_of d i x) =
      dot_comm d.set_rows (multipliers_of d i x) d.right in
      omega (arith, ints);
}

-- ---- dual values

-- the columns of a pair are opposite, in each row
pub opposite : (d : RobustProgram) (P : Program) → IsReform d P → (j : ℕ) → j ≤ d.decisions → (t : ℕ) → t < P.m
    → P.a t (minus j) ≡ neg_ℤ (P.a t (plus j))
opposite d P re j jl t tl =
    by_rows d (λ t. P.a t (minus j) ≡ neg_ℤ (P.a t (plus j)))
    (λ i c il cl. (re.positive i c il cl).at_minus j jl ∙ ap neg_ℤ (sym ((re.positive i c il cl).at_plus j jl)))
    (λ i c il cl. (re.negative i c il cl).at_minus j jl ∙ ap neg_ℤ (sym ((re.negative i c il cl).at_plus j jl)))
    (λ i il. (re.constant i il).at_minus j jl ∙ ap neg_ℤ (sym ((re.constant i il).at_plus j jl)))
    t (subst (λ v. t < v) re.height tl)

-- the rows of a plan's column sum to the items' entry there
pub plan_column : (d : RobustProgram) (P : Program) (y : ℕ → ℤ) → IsReform d P → (j : ℕ) → j ≤ d.decisions
    → sum_to P.m (λ t. y t *ℤ P.a t (plus j)) ≡ items_entry d (base_of d y) (vector_of d y) (suc j)
plan_column d P y re j jl =
    ap (λ v. sum_to v (λ t. y t *ℤ P.a t (plus j))) re.height
    ∙ weighted d y (λ t. P.a t (plus j)) (λ i c. entry d i c (suc j)) (λ i. d.form i 0 (suc j))
    (λ i c il cl. (re.positive i c il cl).at_plus j jl)
    (λ i c il cl. (re.negative i c il cl).at_plus j jl)
    (λ i il. (re.constant i il).at_plus j jl)

pub opposite_column : (d : RobustProgram) (P : Program) (y : ℕ → ℤ) → IsReform d P → (j : ℕ) → j ≤ d.decisions
    → sum_to P.m (λ t. y t *ℤ P.a t (minus j)) ≡ neg_ℤ (sum_to P.m (λ t. y t *ℤ P.a t (plus j)))
opposite_column d P y re j jl =
    sum_ext P.m (λ t. y t *ℤ P.a t (minus j)) (λ t. neg_ℤ (y t *ℤ P.a t (plus j)))
    (λ t tl. ap (λ v. y t *ℤ v) (opposite d P re j jl t tl) ∙ mul-neg (y t) (P.a t (plus j)))
    ∙ sum_neg P.m (λ t. y t *ℤ P.a t (plus j))

-- the rows of a multiplier's column sum to what the item leaves of its set row
pub multiplier_column : (d : RobustProgram) (P : Program) (y : ℕ → ℤ) → IsReform d P → (i r : ℕ)
    → i < d.forms → r < d.set_rows
    → sum_to P.m (λ t. y t *ℤ P.a t (multiplier d i r))
    ≡ (base_of d y i *ℤ d.right r) -ℤ dot d.set_columns (vector_of d y i) (d.left r)
multiplier_column d P y re i r il rl =
    let k : ℕ = multiplier d i r in
    let other : (h : ℕ) → h < d.forms → h ≢ i
    → (base_of d y h *ℤ P.a (constant_row d h) (multiplier d i r))
    +ℤ dot d.set_columns (vector_of d y h) (λ c. P.a (negative_row d h c) (multiplier d i r)) ≡ pos 0 =
    (λ h hl ne.
    let a : base_of d y h *ℤ P.a (constant_row d h) (multiplier d i r) ≡ pos 0 =
    ap (λ v. base_of d y h *ℤ v) ((re.constant h hl).at_others i r il (λ e. ne (sym e)) rl)
    ∙ mul-zero (base_of d y h) in
    let b : dot d.set_columns (vector_of d y h) (λ c. P.a (negative_row d h c) (multiplier d i r)) ≡ pos 0 =
    sum_zero d.set_columns (λ c. vector_of d y h c *ℤ P.a (negative_row d h c) (multiplier d i r)) (λ c cl.
    ap (λ v. vector_of d y h c *ℤ v) ((re.negative h c hl cl).at_others i r il (λ e. ne (sym e)) rl)
    ∙ mul-zero (vector_of d y h c)) in
    omega (arith, ints)) in
    let here : (base_of d y i *ℤ P.a (constant_row d i) (multiplier d i r))
    +ℤ dot d.set_columns (vector_of d y i) (λ c. P.a (negative_row d i c) (multiplier d i r))
    ≡ (base_of d y i *ℤ d.right r) -ℤ dot d.set_columns (vector_of d y i) (d.left r) =
    (let a : base_of d y i *ℤ P.a (constant_row d i) (multiplier d i r) ≡ base_of d y i *ℤ d.right r =
    ap (λ v. base_of d y i *ℤ v) ((re.constant i il).at_own r rl) in
    let b : dot d.set_columns (vector_of d y i) (λ c. P.a (negative_row d i c) (multiplier d i r))
    ≡ neg_ℤ (dot d.set_columns (vector_of d y i) (d.left r)) =
    sum_ext d.set_columns (λ c. vector_of d y i c *ℤ P.a (negative_row d i c) (multiplier d i r))
    (λ c. neg_ℤ (vector_of d y i c *ℤ d.left r c)) (λ c cl.
    ap (λ v. vector_of d y i c *ℤ v) ((re.negative i c il cl).at_own r rl) ∙ mul-neg (vector_of d y i c) (d.left r c))
    ∙ sum_neg d.set_columns (λ c. vector_of d y i c *ℤ d.left r c) in
    omega (arith, ints)) in
    ap (λ v. sum_to v (λ t. y t *ℤ P.a t (multiplier d i r))) re.height
    ∙ weighted d y (λ t. P.a t (multiplier d i r)) (λ h c. P.a (negative_row d h c) (multiplier d i r))
    (λ h. P.a (constant_row d h) (multiplier d i r))
    (λ h c hl cl. elim (cases_eq h i) [
      | inl e ↦
          let p : P.a (positive_row d h c) (multiplier d h r) ≡ d.left r c = (re.positive h c hl cl).at_own r rl in
          let q : P.a (negative_row d h c) (multiplier d h r) ≡ neg_ℤ (d.left r c) =
          (re.negative h c hl cl).at_own r rl in
          subst (λ v. P.a (positive_row d h c) (multiplier d v r) ≡ neg_ℤ (P.a (negative_row d h c) (multiplier d v r)))
          e (omega (arith, ints))
      | inr ne ↦
          let p : P.a (positive_row d h c) (multiplier d i r) ≡ pos 0 =
          (re.positive h c hl cl).at_others i r il (λ e. ne (sym e)) rl in
          let q : P.a (negative_row d h c) (multiplier d i r) ≡ pos 0 =
          (re.negative h c hl cl).at_others i r il (λ e. ne (sym e)) rl in
          omega (arith, ints)
    ])
    (λ h c hl cl. refl) (λ h hl. refl)
    ∙ sum_one d.forms i
    (λ h. (base_of d y h *ℤ P.a (constant_row d h) (multiplier d i r))
    +ℤ dot d.set_columns (vector_of d y h) (λ c. P.a (negative_row d h c) (multiplier d i r))) il other
    ∙ here

-- the right sides sum to minus the items' constant
pub right_column : (d : RobustProgram) (P : Program) (y : ℕ → ℤ) → IsReform d P
    → dot P.m y P.b ≡ neg_ℤ (items_entry d (base_of d y) (vector_of d y) 0)
right_column d P y re =
    ap (λ v. sum_to v (λ t. y t *ℤ P.b t)) re.height
    ∙ weighted d y P.b (λ i c. neg_ℤ (entry d i c 0)) (λ i. neg_ℤ (d.form i 0 0))
    (λ i c il cl. (re.positive i c il cl).at_right ∙ sym (neg-neg (entry d i c 0)))
    (λ i c il cl. (re.negative i c il cl).at_right)
    (λ i il. (re.constant i il).at_right)
    ∙ sum_ext d.forms
    (λ i. (base_of d y i *ℤ neg_ℤ (d.form i 0 0))
    +ℤ dot d.set_columns (vector_of d y i) (λ c. neg_ℤ (entry d i c 0)))
    (λ i. neg_ℤ (item_entry d i (base_of d y i) (vector_of d y i) 0)) (λ i il.
    let a : base_of d y i *ℤ neg_ℤ (d.form i 0 0) ≡ neg_ℤ (base_of d y i *ℤ d.form i 0 0) =
    mul-neg (base_of d y i) (d.form i 0 0) in
    let b : dot d.set_columns (vector_of d y i) (λ c. neg_ℤ (entry d i c 0))
    ≡ neg_ℤ (dot d.set_columns (vector_of d y i) (λ c. entry d i c 0)) =
    sum_ext d.set_columns (λ c. vector_of d y i c *ℤ neg_ℤ (entry d i c 0))
    (λ c. neg_ℤ (vector_of d y i c *ℤ entry d i c 0)) (λ c cl. mul-neg (vector_of d y i c) (entry d i c 0))
    ∙ sum_neg d.set_columns (λ c. vector_of d y i c *ℤ entry d i c 0) in
    omega (arith, ints))
    ∙ sum_neg d.forms (λ i. item_entry d i (base_of d y i) (vector_of d y i) 0)

-- weights that keep each column at least a cost, which is opposite in pairs and
-- 0 at multipliers, are items that sum to that cost
pub weights_give_items : (d : RobustProgram) (P : Program) (cost y : ℕ → ℤ) (tau : ℤ) → IsReform d P
    → ((t : ℕ) → t < P.m → pos 0 ≤ℤ y t)
    → ((k : ℕ) → k < P.n → cost k ≤ℤ sum_to P.m (λ t. y t *ℤ P.a t k))
    → ((j : ℕ) → j < d.decisions → (cost (plus j) ≡ pos 0) × (cost (minus j) ≡ pos 0))
    → ((cost (plus d.decisions) ≡ tau) × (cost (minus d.decisions) ≡ neg_ℤ tau))
    → ((i r : ℕ) → i < d.forms → r < d.set_rows → cost (multiplier d i r) ≡ pos 0)
    → ItemsSum d (base_of d y) (vector_of d y) tau (neg_ℤ (dot P.m y P.b))
weights_give_items d P cost y tau re yp low cd ct cm =
    let inside : (j : ℕ) → j ≤ d.decisions → (plus j < P.n) × (minus j < P.n) =
    (λ j jl. let w : P.n ≡ pairs d + (d.forms * d.set_rows) = re.width in (omega arith, omega arith)) in
    let sums : (j : ℕ) → j ≤ d.decisions → (cost (plus j) ≤ℤ items_entry d (base_of d y) (vector_of d y) (suc j))
    × (cost (minus j) ≤ℤ neg_ℤ (items_entry d (base_of d y) (vector_of d y) (suc j))) =
    (λ j jl. (
      subst (λ v. cost (plus j) ≤ℤ v) (plan_column d P y re j jl) (low (plus j) (inside j jl).0),
      subst (λ v. cost (minus j) ≤ℤ v) (opposite_column d P y re j jl ∙ ap neg_ℤ (plan_column d P y re j jl))
          (low (minus j) (inside j jl).1),
    )) in
    record {
      taken = λ i il. record {
        base_nonnegative =
            yp (constant_row d i) (subst (λ v. constant_row d i < v) (sym re.height) (constant_in d i il));
        rows = λ r rl.
            let a : cost (multiplier d i r)
            ≤ℤ ((base_of d y i *ℤ d.right r) -ℤ dot d.set_columns (vector_of d y i) (d.left r)) =
            subst (λ v. cost (multiplier d i r) ≤ℤ v) (multiplier_column d P y re i r il rl)
            (low (multiplier d i r)
            (subst (λ v. multiplier d i r < v) (sym re.width) (multiplier_in d i r il rl))) in
            let z : cost (multiplier d i r) ≡ pos 0 = cm i r il rl in
            omega (arith, ints);
      };
      decisions = λ j jl.
          let a : cost (plus j) ≤ℤ items_entry d (base_of d y) (vector_of d y) (suc j) = (sums j (omega arith)).0 in
          let b : cost (minus j) ≤ℤ neg_ℤ (items_entry d (base_of d y) (vector_of d y) (suc j)) =
          (sums j (omega arith)).1 in
          let e : cost (plus j) ≡ pos 0 = (cd j jl).0 in
          let f : cost (minus j) ≡ pos 0 = (cd j jl).1 in
          omega (arith, ints);
      on_tau =
          let a : cost (plus d.decisions) ≤ℤ items_entry d (base_of d y) (vector_of d y) (suc d.decisions) =
          (sums d.decisions (omega arith)).0 in
          let b : cost (minus d.decisions) ≤ℤ neg_ℤ (items_entry d (base_of d y) (vector_of d y) (suc d.decisions)) =
          (sums d.decisions (omega arith)).1 in
          let e : cost (plus d.decisions) ≡ tau = ct.0 in
          let f : cost (minus d.decisions) ≡ neg_ℤ tau = ct.1 in
          omega (arith, ints);
      on_constant = let a : dot P.m y P.b ≡ neg_ℤ (items_entry d (base_of d y) (vector_of d y) 0) =
          right_column d P y re in omega (arith, ints);
    }
