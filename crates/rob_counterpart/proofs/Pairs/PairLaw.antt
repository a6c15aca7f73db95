-- The law on pairs, for the counterpart and for the infeasible ending of its auxiliary form.
use Rattle.std.proofs.Common.{◌≡◌, ◌≢◌, ℕ, suc, ◌+◌, ◌*◌, ◌<◌, ◌≤◌, sym, ap, ◌∙◌, subst, arith, inl, inr, ◌⊎◌}
use Rattle.std.proofs.lemmas.Int.{ints, by_lt_z}
use Rattle.std.proofs.lemmas.Bool.{cases_eq, cases_lt}
use Rattle.std.proofs.lemmas.Bool.Decides.{nat_tests}
use lib.IntN.{ℤ, pos, negsuc, ◌+ℤ◌, ◌*ℤ◌, neg_ℤ}
use lib.Signed.{◌<ℤ◌, ◌≤ℤ◌}
use Rattle.rob_linear.specs.Vectors.{Matrix, Columns, dot}
use Rattle.rob_linear.specs.Systems.{right, IsBasis, Solves, Point}
use Rattle.rob_linear.specs.Programs.{Program, starting_row, system_of, auxiliary_tag, auxiliary_row, auxiliary_of}
use Rattle.rob_algebra.specs.Integer.{mul-zero, zero-mul, one-mul, mul-neg}
use Rattle.rob_algebra.specs.IntegerOrder.{mul-pos_z, mul_nonneg}
use Rattle.rob_linear.proofs.Bases.Solutions.{point_meets}
use Rattle.rob_linear.proofs.Meaning.Endings.{sum_two, point_value, own_positive}
use Rattle.rob_linear.proofs.Bases.Square.{basis_is_back}
use Rattle.rob_linear.proofs.Bases.Unique.{point_exists}
use Rattle.rob_linear.proofs.LinearPrograms.Programs.{row_left, row_zero, row_right, left_row, right_row, auxiliary_left, auxiliary_right, auxiliary_entry, auxiliary_cost_zero, auxiliary_cost_entry, auxiliary_cost_objective}
use Rattle.rob_linear.proofs.BasisPaths.Starts.{system_tagged, auxiliary_tagged}
use Rattle.rob_counterpart.proofs.Positions.ReformSums.{by_columns, positive_in, negative_in}
use Rattle.rob_counterpart.proofs.Proving.ReadingLemmas.{opposite}
use Rattle.rob_counterpart.proofs.Pairs.SplitLemmas.{AreOpposite, opposite_apart, nonbasic_one, tau_cost_opposite}
use Rattle.rob_counterpart.proofs.Pairs.OppositeColumns.{opposite_columns_apart, one_slack_basic, one_slack_of_point}
use Rattle.rob_counterpart.specs.RobustProgram.{RobustProgram, entry}
use Rattle.rob_counterpart.specs.Reform.{pairs, multiplier, positive_row, negative_row, RowIs, IsReform}
use Rattle.rob_counterpart.specs.BasicPairs.{IsBasic, IsNonbasic, KeepsPairs}
use Rattle.rob_counterpart.specs.Splitting.{plus, minus}
use Rattle.rob_linear.proofs.LinearPrograms.Programs.{auxiliary_tag-slack}

-- ---- the starting rows of the program

pub reform_pair : (d : RobustProgram) (P : Program) → IsReform d P → (j : ℕ) → j ≤ d.decisions
    → AreOpposite P (plus j) (minus j)
reform_pair d P re j jl =
    let w : P.n ≡ pairs d + (d.forms * d.set_rows) = re.width in
    record {
      first_in = omega arith;
      second_in = omega arith;
      apart = omega arith;
      rows = λ t tl. opposite d P re j jl t tl;
      cost = tau_cost_opposite d P re.cost j jl;
    }

pub plan_in : (d : RobustProgram) (P : Program) → IsReform d P → (j : ℕ) → j ≤ d.decisions
    → (plus j < P.n) × (minus j < P.n)
plan_in d P re j jl = ((reform_pair d P re j jl).first_in, (reform_pair d P re j jl).second_in)

-- the two equating rows are opposite
pub equating_opposite : (d : RobustProgram) (P : Program) → IsReform d P → (i c : ℕ) → i < d.forms
    → c < d.set_columns → (k : ℕ)
    → k < P.n → P.a (positive_row d i c) k +ℤ P.a (negative_row d i c) k ≡ pos 0
equating_opposite d P re i c il cl k kl =
    let p : RowIs d P (positive_row d i c) i (λ j. neg_ℤ (entry d i c (suc j))) (λ r. d.left r c) (entry d i c 0) =
    re.positive i c il cl in
    let q : RowIs d P (negative_row d i c) i (λ j. entry d i c (suc j)) (λ r. neg_ℤ (d.left r c))
    (neg_ℤ (entry d i c 0)) = re.negative i c il cl in
    by_columns d (λ k. P.a (positive_row d i c) k +ℤ P.a (negative_row d i c) k ≡ pos 0)
    (λ j jl.
    let x : P.a (positive_row d i c) (plus j) ≡ neg_ℤ (entry d i c (suc j)) = p.at_plus j jl in
    let y : P.a (negative_row d i c) (plus j) ≡ entry d i c (suc j) = q.at_plus j jl in
    omega (arith, ints))
    (λ j jl.
    let x : P.a (positive_row d i c) (minus j) ≡ neg_ℤ (neg_ℤ (entry d i c (suc j))) = p.at_minus j jl in
    let y : P.a (negative_row d i c) (minus j) ≡ neg_ℤ (entry d i c (suc j)) = q.at_minus j jl in
    omega (arith, ints))
    (λ h r hl rl. elim (cases_eq h i) [
      | inl e ↦
          let x : P.a (positive_row d i c) (multiplier d i r) ≡ d.left r c = p.at_own r rl in
          let y : P.a (negative_row d i c) (multiplier d i r) ≡ neg_ℤ (d.left r c) = q.at_own r rl in
          subst (λ v. P.a (positive_row d i c) (multiplier d v r) +ℤ P.a (negative_row d i c) (multiplier d v r)
          ≡ pos 0) (sym e) (omega (arith, ints))
      | inr e ↦
          let x : P.a (positive_row d i c) (multiplier d h r) ≡ pos 0 = p.at_others h r hl e rl in
          let y : P.a (negative_row d i c) (multiplier d h r) ≡ pos 0 = q.at_others h r hl e rl in
          omega (arith, ints)
    ])
    k (subst (λ v. k < v) re.width kl)

right_opposite : (d : RobustProgram) (P : Program) → IsReform d P → (i c : ℕ) → i < d.forms → c < d.set_columns
    → P.b (positive_row d i c) +ℤ P.b (negative_row d i c) ≡ pos 0
right_opposite d P re i c il cl =
    let x : P.b (positive_row d i c) ≡ entry d i c 0 = (re.positive i c il cl).at_right in
    let y : P.b (negative_row d i c) ≡ neg_ℤ (entry d i c 0) = (re.negative i c il cl).at_right in
    omega (arith, ints)

rows_in : (d : RobustProgram) (P : Program) → IsReform d P → (i c : ℕ) → i < d.forms → c < d.set_columns
    → (positive_row d i c < P.m) × (negative_row d i c < P.m)
rows_in d P re i c il cl = (
  subst (λ v. positive_row d i c < v) (sym re.height) (positive_in d i c il cl),
  subst (λ v. negative_row d i c < v) (sym re.height) (negative_in d i c il cl),
)

-- in every basis of the program
pub program_keeps_pairs : (d : RobustProgram) (P : Program) (own : Columns) (rows : Matrix) → IsReform d P
    → IsBasis (system_of P) own rows → KeepsPairs d P own
program_keeps_pairs d P own rows re b = record {
  columns = λ j jl. opposite_apart P (plus j) (minus j) (reform_pair d P re j jl) own rows b;
  rows = λ i c il cl.
      let ins : (positive_row d i c < P.m) × (negative_row d i c < P.m) = rows_in d P re i c il cl in
      let i1 : positive_row d i c < P.m = ins.0 in
      let i2 : negative_row d i c < P.m = ins.1 in
      one_slack_basic (system_of P) own rows (positive_row d i c) (negative_row d i c) (system_tagged P) b i1 i2
      (omega arith) (λ k kl ka kb. elim (cases_lt k P.n) [
        | inl e ↦
            let x : starting_row P (positive_row d i c) k ≡ P.a (positive_row d i c) k =
            row_left P (positive_row d i c) k e ∙ left_row P (positive_row d i c) k i1 in
            let y : starting_row P (negative_row d i c) k ≡ P.a (negative_row d i c) k =
            row_left P (negative_row d i c) k e ∙ left_row P (negative_row d i c) k i2 in
            let z : P.a (positive_row d i c) k +ℤ P.a (negative_row d i c) k ≡ pos 0 =
            equating_opposite d P re i c il cl k e in
            omega (arith, ints)
        | inr e ↦ elim (cases_eq k (suc (P.n + P.m))) [
          | inl f ↦
              let x : starting_row P (positive_row d i c) k ≡ P.b (positive_row d i c) =
              ap (starting_row P (positive_row d i c)) f ∙ row_right P (positive_row d i c) (omega arith)
              ∙ right_row P (positive_row d i c) i1 in
              let y : starting_row P (negative_row d i c) k ≡ P.b (negative_row d i c) =
              ap (starting_row P (negative_row d i c)) f ∙ row_right P (negative_row d i c) (omega arith)
              ∙ right_row P (negative_row d i c) i2 in
              let z : P.b (positive_row d i c) +ℤ P.b (negative_row d i c) ≡ pos 0 = right_opposite d P re i c il cl in
              omega (arith, ints)
          | inr f ↦
              let x : starting_row P (positive_row d i c) k ≡ pos 0 =
              row_zero P (positive_row d i c) k (omega arith) ka f in
              let y : starting_row P (negative_row d i c) k ≡ pos 0 =
              row_zero P (negative_row d i c) k (omega arith) kb f in
              omega (arith, ints)
        ]
      ]);
}

-- ---- the auxiliary form

auxiliary_zero_behind : (P : Program) (t k : ℕ) → t < P.m → P.n ≤ k → k ≢ P.n + P.m → k ≢ auxiliary_tag P t
    → k ≢ suc (suc (P.n + P.m)) → auxiliary_row P t k ≡ pos 0
auxiliary_zero_behind P t k l a b c e = grind (arith, nat_tests)

pub auxiliary_opposite : (d : RobustProgram) (P : Program) → IsReform d P → (j : ℕ)
    → j ≤ d.decisions → (t : ℕ) → t ≤ P.m
    → auxiliary_row P t (minus j) ≡ neg_ℤ (auxiliary_row P t (plus j))
auxiliary_opposite d P re j jl t tl =
    let ins : (plus j < P.n) × (minus j < P.n) = plan_in d P re j jl in
    let i1 : plus j < P.n = ins.0 in
    let i2 : minus j < P.n = ins.1 in
    elim (cases_eq t P.m) [
      | inl e ↦
          let x : auxiliary_row P t (plus j) ≡ pos 0 =
          ap (λ v. auxiliary_row P v (plus j)) e ∙ auxiliary_cost_zero P (plus j) (omega arith) (omega arith) in
          let y : auxiliary_row P t (minus j) ≡ pos 0 =
          ap (λ v. auxiliary_row P v (minus j)) e ∙ auxiliary_cost_zero P (minus j) (omega arith) (omega arith) in
          omega (arith, ints)
      | inr e ↦
          let x : auxiliary_row P t (plus j) ≡ P.a t (plus j) = auxiliary_left P t (plus j) (omega arith) i1 in
          let y : auxiliary_row P t (minus j) ≡ P.a t (minus j) = auxiliary_left P t (minus j) (omega arith) i2 in
          let z : P.a t (minus j) ≡ neg_ℤ (P.a t (plus j)) = opposite d P re j jl t (omega arith) in
          omega (arith, ints)
    ]

-- split columns are apart in every basis of the auxiliary form
pub auxiliary_columns_apart : (d : RobustProgram) (P : Program) (own : Columns) (rows : Matrix) → IsReform d P
    → IsBasis (auxiliary_of P) own rows → (j : ℕ) → j ≤ d.decisions → IsNonbasic P.m own (plus j)
    ⊎ IsNonbasic P.m own (minus j)
auxiliary_columns_apart d P own rows re b j jl =
    let ins : (plus j < P.n) × (minus j < P.n) = plan_in d P re j jl in
    let i1 : plus j < P.n = ins.0 in
    let i2 : minus j < P.n = ins.1 in
    nonbasic_one P.m own (plus j) (minus j)
    (λ i h il hl. opposite_columns_apart (auxiliary_of P) own rows (plus j) (minus j) b (omega arith) (omega arith)
    (auxiliary_opposite d P re j jl) i h (omega arith) (omega arith))

-- at an infeasible ending the auxiliary column is positive
pub auxiliary_value : (P : Program) (own : Columns) (rows : Matrix) (s : ℤ) (z : ℕ → ℤ)
    → IsBasis (auxiliary_of P) own rows
    → Point (auxiliary_of P) own rows s z → Solves (auxiliary_of P) s z → rows P.m (right (auxiliary_of P)) <ℤ pos 0
    → pos 0 <ℤ z (P.n + P.m)
auxiliary_value P own rows s z b p sol neg =
    let value : rows P.m (suc (P.n + P.m)) *ℤ z (suc (P.n + P.m)) ≡ s *ℤ rows P.m (suc (suc (P.n + P.m))) =
    point_value (auxiliary_of P) own rows s z b p in
    let o : pos 0 <ℤ rows P.m (suc (P.n + P.m)) = own_positive (auxiliary_of P) own rows b in
    let low : pos 0 <ℤ (s *ℤ neg_ℤ (rows P.m (suc (suc (P.n + P.m))))) =
    mul-pos_z s (neg_ℤ (rows P.m (suc (suc (P.n + P.m))))) p.scale (omega (arith, ints)) in
    let lowe : s *ℤ neg_ℤ (rows P.m (suc (suc (P.n + P.m)))) ≡ neg_ℤ (s *ℤ rows P.m (suc (suc (P.n + P.m)))) =
    mul-neg s (rows P.m (suc (suc (P.n + P.m)))) in
    let below : z (suc (P.n + P.m)) <ℤ pos 0 =
    by_lt_z (z (suc (P.n + P.m))) (pos 0) (λ h. h) (λ h.
    let g : pos 0 ≤ℤ (rows P.m (suc (P.n + P.m)) *ℤ z (suc (P.n + P.m))) =
    mul_nonneg (rows P.m (suc (P.n + P.m))) (z (suc (P.n + P.m))) (omega (arith, ints)) h in
    absurd (omega (arith, ints))) in
    let two : dot (suc (suc (P.n + P.m))) (auxiliary_row P P.m) z
    ≡ (auxiliary_row P P.m (P.n + P.m) *ℤ z (P.n + P.m))
    +ℤ (auxiliary_row P P.m (suc (P.n + P.m)) *ℤ z (suc (P.n + P.m))) =
    sum_two (suc (suc (P.n + P.m))) (P.n + P.m) (suc (P.n + P.m)) (λ k. auxiliary_row P P.m k *ℤ z k) (omega arith)
    (omega arith) (omega arith) (λ k kl x y. ap (λ v. v *ℤ z k) (auxiliary_cost_zero P k x y) ∙ zero-mul (z k)) in
    let e1 : auxiliary_row P P.m (P.n + P.m) *ℤ z (P.n + P.m) ≡ z (P.n + P.m) =
    ap (λ v. v *ℤ z (P.n + P.m)) (auxiliary_cost_entry P) ∙ one-mul (z (P.n + P.m)) in
    let e2 : auxiliary_row P P.m (suc (P.n + P.m)) *ℤ z (suc (P.n + P.m)) ≡ z (suc (P.n + P.m)) =
    ap (λ v. v *ℤ z (suc (P.n + P.m))) (auxiliary_cost_objective P) ∙ one-mul (z (suc (P.n + P.m))) in
    let met : dot (suc (suc (P.n + P.m))) (auxiliary_row P P.m) z ≡ s *ℤ auxiliary_row P P.m (suc (suc (P.n + P.m))) =
    sol P.m (omega arith) in
    let zr : s *ℤ auxiliary_row P P.m (suc (suc (P.n + P.m))) ≡ pos 0 =
    ap (λ v. s *ℤ v) (auxiliary_cost_zero P (suc (suc (P.n + P.m))) (omega arith) (omega arith)) ∙ mul-zero s in
    omega (arith, ints)

-- there the two equating rows add up to their slacks less twice the auxiliary column
equating_auxiliary : (d : RobustProgram) (P : Program) → IsReform d P → (i c : ℕ) → i < d.forms
    → c < d.set_columns → (k : ℕ)
    → k ≢ auxiliary_tag P (positive_row d i c) → k ≢ auxiliary_tag P (negative_row d i c) → k ≢ P.n + P.m
    → auxiliary_row P (positive_row d i c) k +ℤ auxiliary_row P (negative_row d i c) k ≡ pos 0
equating_auxiliary d P re i c il cl k ka kb kh =
    let i1 : positive_row d i c < P.m = (rows_in d P re i c il cl).0 in
    let i2 : negative_row d i c < P.m = (rows_in d P re i c il cl).1 in
    elim (cases_lt k P.n) [
      | inl e ↦
          let x : auxiliary_row P (positive_row d i c) k ≡ P.a (positive_row d i c) k =
          auxiliary_left P (positive_row d i c) k i1 e in
          let y : auxiliary_row P (negative_row d i c) k ≡ P.a (negative_row d i c) k =
          auxiliary_left P (negative_row d i c) k i2 e in
          let z : P.a (positive_row d i c) k +ℤ P.a (negative_row d i c) k ≡ pos 0 =
          equating_opposite d P re i c il cl k e in
          omega (arith, ints)
      | inr e ↦ elim (cases_eq k (suc (suc (P.n + P.m)))) [
        | inl f ↦
            let x : auxiliary_row P (positive_row d i c) k ≡ P.b (positive_row d i c) =
            ap (auxiliary_row P (positive_row d i c)) f ∙ auxiliary_right P (positive_row d i c) i1 in
            let y : auxiliary_row P (negative_row d i c) k ≡ P.b (negative_row d i c) =
            ap (auxiliary_row P (negative_row d i c)) f ∙ auxiliary_right P (negative_row d i c) i2 in
            let z : P.b (positive_row d i c) +ℤ P.b (negative_row d i c) ≡ pos 0 = right_opposite d P re i c il cl in
            omega (arith, ints)
        | inr f ↦
            let x : auxiliary_row P (positive_row d i c) k ≡ pos 0 =
            auxiliary_zero_behind P (positive_row d i c) k i1 (omega arith) kh ka f in
            let y : auxiliary_row P (negative_row d i c) k ≡ pos 0 =
            auxiliary_zero_behind P (negative_row d i c) k i2 (omega arith) kh kb f in
            omega (arith, ints)
      ]
    ]

-- so at every infeasible ending one of the two slacks is basic
ending_slack : (d : RobustProgram) (P : Program) (own : Columns) (rows : Matrix) → IsReform d P
    → IsBasis (auxiliary_of P) own rows → rows P.m (right (auxiliary_of P)) <ℤ pos 0 → (i c : ℕ)
    → i < d.forms → c < d.set_columns
    → IsBasic P.m own (P.n + positive_row d i c) ⊎ IsBasic P.m own (P.n + negative_row d i c)
ending_slack d P own rows re b neg i c il cl =
    let i1 : positive_row d i c < P.m = (rows_in d P re i c il cl).0 in
    let i2 : negative_row d i c < P.m = (rows_in d P re i c il cl).1 in
    let t1 : auxiliary_tag P (positive_row d i c) ≡ P.n + positive_row d i c =
    auxiliary_tag-slack P (positive_row d i c) i1 in
    let t2 : auxiliary_tag P (negative_row d i c) ≡ P.n + negative_row d i c =
    auxiliary_tag-slack P (negative_row d i c) i2 in
    let pt : (s : ℤ) × (z : ℕ → ℤ) × Point (auxiliary_of P) own rows s z = point_exists (auxiliary_of P) own rows b in
    let sol : Solves (auxiliary_of P) pt.0 pt.1 =
    basis_is_back (auxiliary_of P) own rows b pt.0 pt.1 (point_meets (auxiliary_of P) own rows pt.0 pt.1 b pt.2) in
    let av : pos 0 <ℤ pt.1 (P.n + P.m) = auxiliary_value P own rows pt.0 pt.1 b pt.2 sol neg in
    let h1 : auxiliary_row P (positive_row d i c) (P.n + P.m) ≡ negsuc 0 = auxiliary_entry P (positive_row d i c) i1 in
    let h2 : auxiliary_row P (negative_row d i c) (P.n + P.m) ≡ negsuc 0 = auxiliary_entry P (negative_row d i c) i2 in
    let hs : auxiliary_row P (positive_row d i c) (P.n + P.m) +ℤ auxiliary_row P (negative_row d i c) (P.n + P.m)
    ≡ negsuc 1 = omega (arith, ints) in
    let he : (auxiliary_row P (positive_row d i c) (P.n + P.m) +ℤ auxiliary_row P (negative_row d i c) (P.n + P.m))
    *ℤ pt.1 (P.n + P.m) ≡ neg_ℤ (pt.1 (P.n + P.m) +ℤ pt.1 (P.n + P.m)) =
    ap (λ v. v *ℤ pt.1 (P.n + P.m)) hs ∙ omega (arith, ints) in
    elim (one_slack_of_point (auxiliary_of P) own rows pt.0 pt.1 (positive_row d i c) (negative_row d i c) (P.n + P.m)
    (auxiliary_tagged P) b pt.2 sol i1 i2
    (omega arith) (omega arith) (omega arith) (omega arith)
    (λ k kl ka kb kh. equating_auxiliary d P re i c il cl k ka kb kh) (λ h. absurd (omega (arith, ints)))) [
      | inl x ↦ inl (x.0, x.1, sym t1 ∙ x.2)
      | inr x ↦ inr (x.0, x.1, sym t2 ∙ x.2)
    ]

-- in every infeasible ending
pub ending_keeps_pairs : (d : RobustProgram) (P : Program) (own : Columns) (rows : Matrix) → IsReform d P
    → IsBasis (auxiliary_of P) own rows → rows P.m (right (auxiliary_of P)) <ℤ pos 0 → KeepsPairs d P own
ending_keeps_pairs d P own rows re b neg = record {
  columns = auxiliary_columns_apart d P own rows re b;
  rows = ending_slack d P own rows re b neg;
}
