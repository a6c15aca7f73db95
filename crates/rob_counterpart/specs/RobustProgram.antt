-- Robust programs in whole numbers: forms over the rows of a lifted uncertainty set, and their cuts.
-- Ben-Tal, El Ghaoui, Nemirovski, Robust Optimization (2009), chapter 1.
-- A plan is a vector z: z 0 is its scale (0 at a direction), z 1 .. z decisions
-- are its columns, and tau stands behind them.
use Rattle.std.specs.Prelude.{ℕ, suc, nat_lt, cond, ℤ, pos, ◌+ℤ◌, ◌*ℤ◌}
use Rattle.rob_linear.specs.Vectors.{Vector, dot}

-- `form i k j` is the number of form i at parameter k (0: constant) and plan column j (0: constant, last tau).
-- A set row is left * (set columns) <= right; the first set columns are the parameters.
-- `sense` is what tau counts in what is maximised: -1 to minimise, 1 to maximise.
pub record RobustProgram : Type 0 where
  pub forms : ℕ
  pub parameters : ℕ
  pub decisions : ℕ
  pub set_rows : ℕ
  pub set_columns : ℕ
  pub form : ℕ → ℕ → ℕ → ℤ
  pub left : ℕ → ℕ → ℤ
  pub right : ℕ → ℤ
  pub sense : ℤ

-- form i's entry at set column c and plan column j: 0 where the set column is no parameter
abbrev pub entry : RobustProgram → ℕ → ℕ → ℕ → ℤ
entry d i c j = cond (nat_lt c d.parameters) (d.form i (suc c) j) (pos 0)

-- form i's number at the plan z for set column c
abbrev pub number_at : RobustProgram → ℕ → ℕ → Vector → ℤ
number_at d i c z = dot (suc (suc d.decisions)) (entry d i c) z

-- what form i, taken at base and vector, has at plan column j
abbrev pub item_entry : RobustProgram → ℕ → ℤ → Vector → ℕ → ℤ
item_entry d i base p j = (base *ℤ d.form i 0 j) +ℤ dot d.set_columns p (λ c. entry d i c j)
