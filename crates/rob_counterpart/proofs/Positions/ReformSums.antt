-- Sums over the columns of a row of the reformulated program, and over the rows of a column.
use Rattle.std.proofs.Common.{◌≡◌, ℕ, suc, ◌+◌, ◌-◌, ◌*◌, ◌<◌, ◌≤◌, sym, ap, ◌∙◌, subst, arith, inl, inr}
use Rattle.std.proofs.lemmas.Int.{ints}
use Rattle.std.proofs.lemmas.Bool.{cases_eq, cases_lt}
use lib.IntN.{ℤ, ◌+ℤ◌, ◌-ℤ◌, ◌*ℤ◌, neg_ℤ}
use Rattle.rob_linear.specs.Vectors.{sum_to, dot}
use Rattle.rob_linear.specs.Programs.{Program}
use Rattle.rob_algebra.specs.Integer.{ring, zero-mul}
use Rattle.rob_linear.proofs.LinearPrograms.Sums.{sum_ext, sum_zero, sum_one, sum_split}
use Rattle.rob_counterpart.proofs.Pairs.Blocks.{sum_pairs, sum_blocks, block_in, halves}
use Rattle.rob_algebra.proofs.WholeNumbers.{at_block}
use Rattle.rob_counterpart.specs.RobustProgram.{RobustProgram}
use Rattle.rob_counterpart.specs.Reform.{pairs, multiplier, block, positive_row, negative_row, constant_row, RowIs}
use Rattle.rob_counterpart.specs.Splitting.{plus, minus}
use Rattle.rob_counterpart.proofs.Proving.WholeCertificates.{multipliers_of, base_of, vector_of}

-- what holds at each form's rows holds at all rows
pub by_rows : (d : RobustProgram) (M : ℕ → Type 0)
    → ((i c : ℕ) → i < d.forms → c < d.set_columns → M (positive_row d i c))
    → ((i c : ℕ) → i < d.forms → c < d.set_columns → M (negative_row d i c))
    → ((i : ℕ) → i < d.forms → M (constant_row d i))
    → (t : ℕ) → t < d.forms * block d → M t
by_rows d M pe ne co t l =
    let g : (i : ℕ) × (p : ℕ) × (i < d.forms) × (p < block d) × (t ≡ (i * block d) + p) =
    at_block d.forms (block d) t l in
    let pl : g.1 < suc (d.set_columns + d.set_columns) = g.3 in
    subst M (sym g.4)
    (elim (halves g.1) [
      | inl h ↦
          let e : g.1 ≡ h.0 + h.0 = h.1 in
          elim (cases_eq h.0 d.set_columns) [
            | inl c ↦
                let f : g.1 ≡ d.set_columns + d.set_columns = omega arith in
                subst (λ v. M ((g.0 * block d) + v)) (sym f) (co g.0 g.2)
            | inr c ↦ subst (λ v. M ((g.0 * block d) + v)) (sym e) (pe g.0 h.0 g.2 (omega arith))
          ]
      | inr h ↦ let e : g.1 ≡ suc (h.0 + h.0) = h.1 in
          subst (λ v. M ((g.0 * block d) + v)) (sym e) (ne g.0 h.0 g.2 (omega arith))
    ])

-- and so for columns
pub by_columns : (d : RobustProgram) (M : ℕ → Type 0) → ((j : ℕ) → j ≤ d.decisions → M (plus j))
    → ((j : ℕ) → j ≤ d.decisions → M (minus j))
    → ((i r : ℕ) → i < d.forms → r < d.set_rows → M (multiplier d i r)) → (k : ℕ)
    → k < pairs d + (d.forms * d.set_rows) → M k
by_columns d M pe ne mu k l =
    elim (cases_lt k (pairs d)) [
      | inl b ↦ elim (halves k) [
        | inl h ↦ let e : k ≡ h.0 + h.0 = h.1 in subst M (sym e) (pe h.0 (omega arith))
        | inr h ↦ let e : k ≡ suc (h.0 + h.0) = h.1 in subst M (sym e) (ne h.0 (omega arith))
      ]
      | inr b ↦
          let g : (i : ℕ) × (r : ℕ) × (i < d.forms) × (r < d.set_rows) × (k - pairs d ≡ (i * d.set_rows) + r) =
          at_block d.forms d.set_rows (k - pairs d) (omega arith) in
          let e : k - pairs d ≡ (g.0 * d.set_rows) + g.1 = g.4 in
          let f : k ≡ pairs d + ((g.0 * d.set_rows) + g.1) = omega arith in
          subst M (sym f) (mu g.0 g.1 g.2 g.3)
    ]

pub positive_in : (d : RobustProgram) (i c : ℕ) → i < d.forms → c < d.set_columns
    → positive_row d i c < d.forms * block d
positive_in d i c il cl = block_in d.forms (block d) i (c + c) il (omega arith)

pub negative_in : (d : RobustProgram) (i c : ℕ) → i < d.forms → c < d.set_columns
    → negative_row d i c < d.forms * block d
negative_in d i c il cl = block_in d.forms (block d) i (suc (c + c)) il (omega arith)

pub constant_in : (d : RobustProgram) (i : ℕ) → i < d.forms → constant_row d i < d.forms * block d
constant_in d i il = block_in d.forms (block d) i (d.set_columns + d.set_columns) il (omega arith)

pub multiplier_in : (d : RobustProgram) (i r : ℕ) → i < d.forms → r < d.set_rows
    → multiplier d i r < pairs d + (d.forms * d.set_rows)
multiplier_in d i r il rl =
    let e : ((i * d.set_rows) + r) < d.forms * d.set_rows = block_in d.forms d.set_rows i r il rl in omega arith

-- a row's product with x: its numbers at the plan that x is, and at the amounts
pub row_dot : (d : RobustProgram) (P : Program) (t i : ℕ) (plan own : ℕ → ℤ) (right : ℤ) (x : ℕ → ℤ) → i < d.forms
    → P.n ≡ pairs d + (d.forms * d.set_rows) → RowIs d P t i plan own right
    → dot P.n (P.a t) x ≡ sum_to (suc d.decisions) (λ j. plan j *ℤ (x (plus j) -ℤ x (minus j)))
    +ℤ sum_to d.set_rows (λ r. own r *ℤ multipliers_of d i x r)
row_dot d P t i plan own right x il w row =
    let f : ℕ → ℤ = λ k. P.a t k *ℤ x k in
    let first : sum_to (pairs d) (λ k. P.a t k *ℤ x k)
    ≡ sum_to (suc d.decisions) (λ j. plan j *ℤ (x (plus j) -ℤ x (minus j))) =
    sum_pairs (suc d.decisions) (λ k. P.a t k *ℤ x k)
    ∙ sum_ext (suc d.decisions) (λ j. (P.a t (plus j) *ℤ x (plus j)) +ℤ (P.a t (minus j) *ℤ x (minus j)))
    (λ j. plan j *ℤ (x (plus j) -ℤ x (minus j))) (λ j jl.
    let e : (plan j *ℤ x (plus j)) +ℤ (neg_ℤ (plan j) *ℤ x (minus j)) ≡ plan j *ℤ (x (plus j) -ℤ x (minus j)) =
    simp ring in
    ap (λ v. (v *ℤ x (plus j)) +ℤ (P.a t (minus j) *ℤ x (minus j))) (row.at_plus j (omega arith))
    ∙ ap (λ v. (plan j *ℤ x (plus j)) +ℤ (v *ℤ x (minus j))) (row.at_minus j (omega arith)) ∙ e) in
    let rest : sum_to (d.forms * d.set_rows) (λ q. P.a t (pairs d + q) *ℤ x (pairs d + q))
    ≡ sum_to d.set_rows (λ r. own r *ℤ multipliers_of d i x r) =
    sum_blocks d.forms d.set_rows (λ q. P.a t (pairs d + q) *ℤ x (pairs d + q))
    ∙ sum_one d.forms i (λ h. sum_to d.set_rows (λ r. P.a t (multiplier d h r) *ℤ x (multiplier d h r))) il (λ h hl c.
    sum_zero d.set_rows (λ r. P.a t (multiplier d h r) *ℤ x (multiplier d h r))
    (λ r rl. ap (λ v. v *ℤ x (multiplier d h r)) (row.at_others h r hl c rl) ∙ zero-mul (x (multiplier d h r))))
    ∙ sum_ext d.set_rows (λ r. P.a t (multiplier d i r) *ℤ x (multiplier d i r)) (λ r. own r *ℤ x (multiplier d i r))
    (λ r rl. ap (λ v. v *ℤ x (multiplier d i r)) (row.at_own r rl)) in
    ap (λ v. sum_to v f) w ∙ sum_split (pairs d) (d.forms * d.set_rows) f
    ∙ ap (λ v. v +ℤ sum_to (d.forms * d.set_rows) (λ q. P.a t (pairs d + q) *ℤ x (pairs d + q))) first
    ∙ ap (λ v. sum_to (suc d.decisions) (λ j. plan j *ℤ (x (plus j) -ℤ x (minus j))) +ℤ v) rest

-- the rows of a column, each as often as y says: what the items make of the column's numbers
pub weighted : (d : RobustProgram) (y f : ℕ → ℤ) (u : ℕ → ℕ → ℤ) (v : ℕ → ℤ)
    → ((i c : ℕ) → i < d.forms → c < d.set_columns → f (positive_row d i c) ≡ neg_ℤ (u i c))
    → ((i c : ℕ) → i < d.forms → c < d.set_columns → f (negative_row d i c) ≡ u i c)
    → ((i : ℕ) → i < d.forms → f (constant_row d i) ≡ v i)
    → sum_to (d.forms * block d) (λ t. y t *ℤ f t)
    ≡ sum_to d.forms (λ i. (base_of d y i *ℤ v i) +ℤ dot d.set_columns (vector_of d y i) (u i))
weighted d y f u v pe ne co =
    sum_blocks d.forms (block d) (λ t. y t *ℤ f t)
    ∙ sum_ext d.forms (λ i. sum_to (block d) (λ p. y ((i * block d) + p) *ℤ f ((i * block d) + p)))
    (λ i. (base_of d y i *ℤ v i) +ℤ dot d.set_columns (vector_of d y i) (u i)) (λ i il.
    let last : y (constant_row d i) *ℤ f (constant_row d i) ≡ base_of d y i *ℤ v i =
    ap (λ w. y (constant_row d i) *ℤ w) (co i il) in
    let others : sum_to (d.set_columns + d.set_columns) (λ p. y ((i * block d) + p) *ℤ f ((i * block d) + p))
    ≡ dot d.set_columns (vector_of d y i) (u i) =
    sum_pairs d.set_columns (λ p. y ((i * block d) + p) *ℤ f ((i * block d) + p))
    ∙ sum_ext d.set_columns
    (λ c. (y (positive_row d i c) *ℤ f (positive_row d i c)) +ℤ (y (negative_row d i c) *ℤ f (negative_row d i c)))
    (λ c. vector_of d y i c *ℤ u i c) (λ c cl.
    let e : (y (positive_row d i c) *ℤ neg_ℤ (u i c)) +ℤ (y (negative_row d i c) *ℤ u i c)
    ≡ vector_of d y i c *ℤ u i c = simp ring in
    ap (λ w. (y (positive_row d i c) *ℤ w) +ℤ (y (negative_row d i c) *ℤ f (negative_row d i c))) (pe i c il cl)
    ∙ ap (λ w. (y (positive_row d i c) *ℤ neg_ℤ (u i c)) +ℤ (y (negative_row d i c) *ℤ w)) (ne i c il cl) ∙ e) in
    omega (arith, ints))
