-- Rows kept up to a positive factor: what a table may hold in place of the rows of a basis.
-- Signs, ratios and the lexicographic order of ratios do not see a positive factor, so the path is the same.
use Rattle.std.specs.Prelude.{◌≡◌, ◌≢◌, ℕ, suc, ◌<◌, ◌≤◌, nat_eq, cond, ℤ, pos, ◌-ℤ◌, ◌*ℤ◌, ◌<ℤ◌}
use Rattle.rob_linear.specs.Vectors.{Columns, Matrix, Vector}
use Rattle.rob_linear.specs.Systems.{System, objective, right, LiesAlong}
use Rattle.rob_linear.specs.Turns.{IsExchange, IsLexFeasible, own_of}

-- p times r is q times s, for positive p and q
pub record IsParallel (n : ℕ) (r s : Vector) : Type 0 where
  pub p : ℤ
  pub q : ℤ
  pub p_positive : pos 0 <ℤ p
  pub q_positive : pos 0 <ℤ q
  pub same : (k : ℕ) → k < n → p *ℤ r k ≡ q *ℤ s k

-- row by row
abbrev pub AreParallel : System → Matrix → Matrix → Type 0
AreParallel S rows rows' = (i : ℕ) → i ≤ S.m → IsParallel (suc (right S)) (rows i) (rows' i)

-- a positive multiple of the row of position i
pub record IsMultipleRow (S : System) (own : Columns) (i : ℕ) (r : Vector) : Type 0 where
  pub along : LiesAlong S own i r
  pub open along use *
  pub positive : pos 0 <ℤ r (own i)

-- each row is a positive multiple of its position's
pub record HasMultipleRows (S : System) (own : Columns) (rows : Matrix) : Type 0 where
  pub inside : (i : ℕ) → i < S.m → own i < S.columns
  pub last : own S.m ≡ objective S
  pub rows_of : (i : ℕ) → i ≤ S.m → IsMultipleRow S own i (rows i)

-- the same but for row e, which may be a negative multiple
pub record IsPivotableMultiple (S : System) (own : Columns) (rows : Matrix) (e : ℕ) : Type 0 where
  pub inside : (i : ℕ) → i < S.m → own i < S.columns
  pub last : own S.m ≡ objective S
  pub others : (i : ℕ) → i ≤ S.m → i ≢ e → IsMultipleRow S own i (rows i)
  pub along : LiesAlong S own e (rows e)

-- what a pivot makes of a row: some positive times of it less some times the pivot's row, that of the leaving position,
-- divided by something common, which may be 1, so that the entry in the entering column goes. A row that is 0 there may
-- stay
pub record IsClearedBy (n col : ℕ) (row pivot_row new : Vector) : Type 0 where
  pub divisor : ℤ
  pub p : ℤ
  pub q : ℤ
  pub divides : pos 0 <ℤ divisor
  pub positive : pos 0 <ℤ p
  pub entries : (k : ℕ) → k < n → divisor *ℤ new k ≡ (p *ℤ row k) -ℤ (q *ℤ pivot_row k)
  pub cleared : new col ≡ pos 0

-- a pivot of rows up to factors
pub record IsMultiplePivot (S : System) (own own' : Columns) (rows rows' : Matrix) (e col : ℕ) : Type 0 where
  pub exchange : IsExchange S own own' rows e col
  pub open exchange use *
  pub row_at : IsParallel (suc (right S)) (rows' e) (rows e)
  pub row_other : (i : ℕ) → i ≤ S.m → i ≢ e → IsClearedBy (suc (right S)) col (rows i) (rows e) (rows' i)

-- rows of a basis up to factors, whose keys are lexicographically positive
pub record StandsMultiple (S : System) (basis : Columns) (rows : Matrix) : Type 0 where
  pub multiples : HasMultipleRows S (own_of S basis) rows
  pub feasible : IsLexFeasible S rows

-- the list of columns with column f at position q
abbrev pub put_at : Columns → ℕ → ℕ → ℕ → ℕ
put_at basis q f i = cond (nat_eq i q) f (basis i)
