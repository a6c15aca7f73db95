-- What the endings of the counterpart show, in scaled whole numbers. The plan z and its amounts stand for themselves
-- over z 0, bases and vectors of the items for themselves over `scale`.
use Rattle.std.specs.Prelude.{◌≡◌, ℕ, suc, ◌<◌, ℤ, pos, ◌+ℤ◌, ◌-ℤ◌, ◌*ℤ◌, ◌≤ℤ◌, ◌<ℤ◌, neg_ℤ}
use Rattle.rob_linear.specs.Vectors.{Vector, sum_to, dot}
use Rattle.rob_counterpart.specs.Reform.{multiplier, positive_row, negative_row, constant_row}
use Rattle.rob_counterpart.specs.RobustProgram.{RobustProgram, number_at, item_entry}
use Rattle.rob_counterpart.specs.Master.{Cuts, cut_entry}

-- its constant part there
abbrev pub constant_at : RobustProgram → ℕ → Vector → ℤ
constant_at d i z = dot (suc (suc d.decisions)) (d.form i 0) z

-- form i at the plan z and the point p of the lifted set, taken `base` times
abbrev pub value_at : RobustProgram → ℕ → ℤ → Vector → Vector → ℤ
value_at d i base p z = (base *ℤ constant_at d i z) +ℤ dot d.set_columns p (λ c. number_at d i c z)

-- The amounts, one for each set row, bound form i at the plan z: none is negative, the set rows times them sum to s
-- times the form's numbers, and the right sides times them, with s times its constant part, to at most 0.
pub record BoundsForm (d : RobustProgram) (i : ℕ) (s : ℤ) (z amounts : Vector) : Type 0 where
  pub nonnegative : (r : ℕ) → r < d.set_rows → pos 0 ≤ℤ amounts r
  pub columns : (c : ℕ) → c < d.set_columns → sum_to d.set_rows (λ r. amounts r *ℤ d.left r c) ≡ s *ℤ number_at d i c z
  pub constant : (dot d.set_rows amounts d.right +ℤ (s *ℤ constant_at d i z)) ≤ℤ pos 0

-- the vector meets all set rows, taken `base` times: a scenario where base is positive, a ray where it is 0
pub record LiesInSet (d : RobustProgram) (base : ℤ) (p : Vector) : Type 0 where
  pub base_nonnegative : pos 0 ≤ℤ base
  pub rows : (r : ℕ) → r < d.set_rows → dot d.set_columns p (d.left r) ≤ℤ (base *ℤ d.right r)

-- form i's multipliers of the set rows
abbrev pub multipliers_of : RobustProgram → ℕ → (ℕ → ℤ) → ℕ → ℤ
multipliers_of d i x r = x (multiplier d i r)

-- form i's base: the number of its constant row
abbrev pub base_of : RobustProgram → (ℕ → ℤ) → ℕ → ℤ
base_of d y i = y (constant_row d i)

-- form i's vector: the differences of its equating rows' numbers
abbrev pub vector_of : RobustProgram → (ℕ → ℤ) → ℕ → ℕ → ℤ
vector_of d y i c = y (negative_row d i c) -ℤ y (positive_row d i c)

-- weights on the set rows that show that no point is in the set: they sum to 0
-- on each column, and to less than 0 on the right
pub record ShowsSetEmpty (d : RobustProgram) (w : ℕ → ℤ) : Type 0 where
  pub nonnegative : (r : ℕ) → r < d.set_rows → pos 0 ≤ℤ w r
  pub columns : (c : ℕ) → c < d.set_columns → sum_to d.set_rows (λ r. w r *ℤ d.left r c) ≡ pos 0
  pub below : dot d.set_rows w d.right <ℤ pos 0

-- every form is bounded at the plan, or at the direction where z 0 is 0
abbrev pub BoundsForms : RobustProgram → (ℕ → ℤ) → (ℕ → ℕ → ℤ) → Type 0
BoundsForms d z amounts = (i : ℕ) → i < d.forms → BoundsForm d i (pos 1) z (amounts i)

-- one item for each form, all together, at plan column j
abbrev pub items_entry : RobustProgram → (ℕ → ℤ) → (ℕ → ℕ → ℤ) → ℕ → ℤ
items_entry d bases vectors j = sum_to d.forms (λ i. item_entry d i (bases i) (vectors i) j)

-- items in the lifted set that sum to 0 on each decision column and to these numbers on tau and the constant
pub record ItemsSum (d : RobustProgram) (bases : ℕ → ℤ) (vectors : ℕ → ℕ → ℤ) (tau constant : ℤ) : Type 0 where
  pub taken : (i : ℕ) → i < d.forms → LiesInSet d (bases i) (vectors i)
  pub decisions : (j : ℕ) → j < d.decisions → items_entry d bases vectors (suc j) ≡ pos 0
  pub on_tau : items_entry d bases vectors (suc d.decisions) ≡ tau
  pub on_constant : items_entry d bases vectors 0 ≡ constant

-- the items sum to 0 on each decision column, to the sense on tau, and to minus
-- the sense times the plan's bound on the constant
pub record ShowsOptimal (d : RobustProgram) (z : ℕ → ℤ) (amounts : ℕ → ℕ → ℤ) (scale : ℤ) (bases : ℕ → ℤ)
    (vectors : ℕ → ℕ → ℤ) : Type 0 where
  pub plan_scale : pos 0 <ℤ z 0
  pub covers : BoundsForms d z amounts
  pub items_scale : pos 0 <ℤ scale
  pub total : ℤ
  pub items : ItemsSum d bases vectors (scale *ℤ d.sense) total
  pub bound : z 0 *ℤ total ≡ neg_ℤ (scale *ℤ (d.sense *ℤ z (suc d.decisions)))

-- the items sum to 0 on each decision column and on tau, and to a positive constant
pub record ShowsInfeasible (d : RobustProgram) (bases : ℕ → ℤ) (vectors : ℕ → ℕ → ℤ) : Type 0 where
  pub total : ℤ
  pub items : ItemsSum d bases vectors (pos 0) total
  pub positive : pos 0 <ℤ total

-- every form is bounded at the plan and at the direction, and the direction's bound gets better
pub record ShowsUnbounded (d : RobustProgram) (z : ℕ → ℤ) (amounts : ℕ → ℕ → ℤ) (step : ℕ → ℤ)
    (holds : ℕ → ℕ → ℤ) : Type 0 where
  pub plan_scale : pos 0 <ℤ z 0
  pub covers : BoundsForms d z amounts
  pub direction : step 0 ≡ pos 0
  pub step_holds : BoundsForms d step holds
  pub better : pos 0 <ℤ (d.sense *ℤ step (suc d.decisions))

-- the cuts, each as often as its weight says, at plan column j
abbrev pub cuts_entry : RobustProgram → Cuts → Vector → ℕ → ℤ
cuts_entry d cuts weight j = sum_to cuts.count (λ q. weight q *ℤ cut_entry d cuts q j)

-- weights of at least 0, with which the cuts sum to 0 on each decision column
-- and to these numbers on tau and the constant
pub record CutsSum (d : RobustProgram) (cuts : Cuts) (weight : ℕ → ℤ) (tau constant : ℤ) : Type 0 where
  pub nonnegative : (q : ℕ) → q < cuts.count → pos 0 ≤ℤ weight q
  pub decisions : (j : ℕ) → j < d.decisions → cuts_entry d cuts weight (suc j) ≡ pos 0
  pub on_tau : cuts_entry d cuts weight (suc d.decisions) ≡ tau
  pub on_constant : cuts_entry d cuts weight 0 ≡ constant
