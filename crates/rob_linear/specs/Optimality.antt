-- What a linear program says of points of fractions: maximise c * x with A * x at most b and x at least 0.
-- A point gives each column a fraction, and dual values give each row one; both are read up to the program's size.
-- Chvatal, Linear Programming (1983): chapter 3 (endings of the simplex
-- method), chapter 5 (duality), chapter 8 (general form).
use Rattle.std.specs.Prelude.{◌≡◌, ◌≢◌, ℕ, zero, suc, ◌<◌, ℤ, pos, neg_ℤ}
use Rattle.rob_algebra.specs.Fraction.{Fraction, of_int, ◌+ℚ◌, ◌*ℚ◌, ◌≤ℚ◌, ◌<ℚ◌}
use Rattle.rob_linear.specs.Vectors.{Columns, Matrix, Vector}
use Rattle.rob_linear.specs.Systems.{System, right}
use Rattle.rob_linear.specs.Programs.{Program}

-- f 0 + .. + f (n - 1)
abbrev pub sum_ℚ : ℕ → (ℕ → Fraction) → Fraction
sum_ℚ zero f = of_int (pos 0)
sum_ℚ (suc n) f = sum_ℚ n f +ℚ f n

-- whole coefficients times fractions, added up
abbrev pub linear_form : ℕ → Vector → (ℕ → Fraction) → Fraction
linear_form n a x = sum_ℚ n (λ j. of_int (a j) *ℚ x j)

-- no entry of the point is negative, and it keeps each row
pub record IsFeasible (P : Program) (x : ℕ → Fraction) : Type 0 where
  pub nonnegative : (j : ℕ) → j < P.n → of_int (pos 0) ≤ℚ x j
  pub rows : (i : ℕ) → i < P.m → linear_form P.n (P.a i) x ≤ℚ of_int (P.b i)

-- the value of a point
abbrev pub objective_at : Program → (ℕ → Fraction) → Fraction
objective_at P x = linear_form P.n P.c x

-- the point is feasible, and no feasible point has a greater value
pub record IsOptimal (P : Program) (x : ℕ → Fraction) : Type 0 where
  pub feasible : IsFeasible P x
  pub best : (y : ℕ → Fraction) → IsFeasible P y → objective_at P y ≤ℚ objective_at P x

-- no point is feasible
abbrev pub IsInfeasible : Program → Type 0
IsInfeasible P = (x : ℕ → Fraction) → ¬ (IsFeasible P x)

-- feasible points have values as great as one likes
abbrev pub IsUnbounded : Program → Type 0
IsUnbounded P = (t : Fraction) → (x : ℕ → Fraction) × IsFeasible P x × (t ≤ℚ objective_at P x)

-- dual values: no row's is negative, and in each column they sum the rows to at least the cost
pub record IsDualFeasible (P : Program) (y : ℕ → Fraction) : Type 0 where
  pub nonnegative : (i : ℕ) → i < P.m → of_int (pos 0) ≤ℚ y i
  pub columns : (j : ℕ) → j < P.n → of_int (P.c j) ≤ℚ linear_form P.m (λ i. P.a i j) y

-- the value of dual values
abbrev pub dual_objective_at : Program → (ℕ → Fraction) → Fraction
dual_objective_at P y = linear_form P.m P.b y

-- a direction that leads no feasible point out, and along which the value grows
pub record IsImprovingRay (P : Program) (r : ℕ → Fraction) : Type 0 where
  pub nonnegative : (j : ℕ) → j < P.n → of_int (pos 0) ≤ℚ r j
  pub rows : (i : ℕ) → i < P.m → linear_form P.n (P.a i) r ≤ℚ of_int (pos 0)
  pub improves : of_int (pos 0) <ℚ objective_at P r

-- x is z over s, entry by entry
abbrev pub IsScaled : ℕ → (ℕ → Fraction) → ℤ → Vector → Type 0
IsScaled n x s z = (j : ℕ) → j < n → of_int s *ℚ x j ≡ of_int (z j)

-- the basic solution: column `own i` has the right side of its row over the
-- row's own entry, and the other columns are 0
pub record IsBasicPoint (S : System) (own : Columns) (rows : Matrix) (x : ℕ → Fraction) : Type 0 where
  pub basic : (i : ℕ) → i < S.m → of_int (rows i (own i)) *ℚ x (own i) ≡ of_int (rows i (right S))
  pub rest : (k : ℕ) → k < S.columns → ((i : ℕ) → i < S.m → k ≢ own i) → x k ≡ of_int (pos 0)

-- the basic direction: `col` grows by 1, and column `own i` by minus its row's entry in `col` over the row's own entry
pub record IsBasicMove (S : System) (own : Columns) (rows : Matrix) (col : ℕ) (r : ℕ → Fraction) : Type 0 where
  pub entering : r col ≡ of_int (pos 1)
  pub basic : (i : ℕ) → i < S.m → of_int (rows i (own i)) *ℚ r (own i) ≡ of_int (neg_ℤ (rows i col))
  pub rest : (k : ℕ) → k < S.columns → ((i : ℕ) → i < S.m → k ≢ own i) → k ≢ col → r k ≡ of_int (pos 0)
