-- When a certificate proves what it claims.
-- Covers show that a plan keeps every form; items are a sum of forms, taken at scenarios and rays, that no plan can
-- escape. Multipliers: Schrijver, Theory of Linear and Integer Programming (1986), chapter 7.
use Rattle.std.specs.Prelude.{◌≡◌, ◌<◌, ℕ, nat_eq, ◌&&◌, if◌then◌else◌, negsuc, List, [], ◌∷◌, length, map}
use Rattle.rob_algebra.specs.Fraction.{Fraction, of_int, neg_ℚ, ◌<ℚ◌}
use Rattle.rob_meaning.specs.Certificates.{Status, optimal, infeasible, unbounded, Cover, Item, Certificate}
use Rattle.rob_meaning.specs.Clearing.{fractions}
use Rattle.rob_meaning.specs.Forms.{matrices, matrix_at, form_columns, plan_vector, form_at}
use Rattle.rob_meaning.specs.Multipliers.{Covers}
use Rattle.rob_meaning.specs.Places.{0ℚ, 1ℚ, Each, tabulate}
use Rattle.rob_meaning.specs.RobustModel.{RobustModel, Sense, minimise, maximise, column_count}
use Rattle.rob_meaning.specs.SetConditions.{IsTaken}
use Rattle.rob_meaning.specs.SetRows.{set_rows}
use Rattle.rob_meaning.specs.Status.{IsOptimal, IsInfeasible, IsUnbounded}
use Rattle.rob_meaning.specs.UncertaintySet.{Admits}
use Rattle.rob_meaning.specs.Vectors.{zeros, vec_mat}

-- ---- covers

-- the amount that a list of covers gives to form i and set row r, and 0 where none does
abbrev pub amount_at : List Cover → ℕ → ℕ → Fraction
amount_at [] i r = 0ℚ
amount_at (c ∷ cs) i r = if nat_eq c.form i && nat_eq c.set_row r then c.amount else amount_at cs i r

-- the amounts that it gives to form i, one for each set row
abbrev pub amounts_of : RobustModel → List Cover → ℕ → List Fraction
amounts_of m covers i = tabulate (length (set_rows m)) (λ r. amount_at covers i r)

-- each form is covered at z, with s, by its amounts
abbrev pub EachCovered : RobustModel → List Cover → Fraction → List Fraction → Type 0
EachCovered m covers s z = (i : ℕ) → i < length (matrices m) → Covers m i s z (amounts_of m covers i)

-- ---- items

-- an item has a positive weight, and its vector is its base times an admitted scenario, or, with base 0, a ray
pub record IsItem (m : RobustModel) (item : Item) : Type 0 where
  pub weight : 0ℚ <ℚ item.weight
  pub taken : IsTaken m item.base item.vector

module _ (m : RobustModel) where
  -- an item's form, taken at its base and vector: a number for the constant, for each decision column and for tau
  abbrev pub cut_of : Item → List Fraction
  cut_of item = vec_mat (form_columns m) (item.base ∷ item.vector) (fractions (matrix_at (matrices m) item.form))

  -- the sum over the items of weight times cut
  abbrev pub combination : List Item → List Fraction
  combination items = vec_mat (form_columns m) (map (λ (i : Item). i.weight) items) (map cut_of items)

-- what the items of an optimal certificate sum to: value - tau for minimise, tau - value for maximise
abbrev pub target : Sense → ℕ → Fraction → List Fraction
target minimise n v = plan_vector v (zeros n) (of_int (negsuc 0))
target maximise n v = plan_vector (neg_ℚ v) (zeros n) 1ℚ

-- a direction's bound is below 0 for minimise, above 0 for maximise
abbrev pub Improves : Sense → Fraction → Type 0
Improves minimise d = d <ℚ 0ℚ
Improves maximise d = 0ℚ <ℚ d

-- ---- certificates

-- optimal: the plan with the value as its bound is covered in each form, and the items sum to the target
pub record ProvesOptimal (m : RobustModel) (c : Certificate) : Type 0 where
  pub inside : Admits m c.inside
  pub items : Each (IsItem m) c.items
  pub scale : 0ℚ <ℚ c.scale
  pub columns : length c.plan ≡ column_count m
  pub covered : EachCovered m c.covers c.scale (plan_vector 1ℚ c.plan c.value)
  pub sums : combination m c.items ≡ target m.sense (column_count m) c.value

-- infeasible: the items sum to a positive constant, and to 0 in each decision column and in tau
pub record ProvesInfeasible (m : RobustModel) (c : Certificate) : Type 0 where
  pub inside : Admits m c.inside
  pub items : Each (IsItem m) c.items
  pub constant : Fraction
  pub positive : 0ℚ <ℚ constant
  pub sums : combination m c.items ≡ plan_vector constant (zeros (column_count m)) 0ℚ

-- unbounded: the plan with a bound is covered in each form, and so is a direction in which the bound improves
pub record ProvesUnbounded (m : RobustModel) (c : Certificate) : Type 0 where
  pub inside : Admits m c.inside
  pub items : Each (IsItem m) c.items
  pub scale : 0ℚ <ℚ c.scale
  pub columns : length c.plan ≡ column_count m
  pub step_columns : length c.step ≡ column_count m
  pub covered : EachCovered m c.covers c.scale (plan_vector 1ℚ c.plan c.value)
  pub held : EachCovered m c.holds 1ℚ (plan_vector 0ℚ c.step c.step_bound)
  pub improves : Improves m.sense c.step_bound

-- what is to be shown for a status
abbrev pub ProvesAs : Status → RobustModel → Certificate → Type 0
ProvesAs optimal m c = ProvesOptimal m c
ProvesAs infeasible m c = ProvesInfeasible m c
ProvesAs unbounded m c = ProvesUnbounded m c

-- the certificate proves what it claims
abbrev pub Proves : RobustModel → Certificate → Type 0
Proves m c = ProvesAs c.status m c

-- the model has the status, with v as its value where it is optimal
abbrev pub HasStatus : RobustModel → Status → Fraction → Type 0
HasStatus m optimal v = IsOptimal m v
HasStatus m infeasible v = IsInfeasible m
HasStatus m unbounded v = IsUnbounded m

-- each item is tight: its form, at its base and vector, is exactly 0 at the certificate's plan
abbrev pub IsTight : RobustModel → Certificate → Type 0
IsTight m c =
    Each (λ (item : Item). form_at m item.form item.base item.vector (plan_vector 1ℚ c.plan c.value) ≡ 0ℚ) c.items
