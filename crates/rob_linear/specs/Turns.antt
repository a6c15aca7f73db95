-- The lexicographic rule, and turns from a basis to the next.
-- Dantzig, Orden, Wolfe (1955); Chvatal, Linear Programming (1983), chapter 3.
use Rattle.std.specs.Prelude.{◌≡◌, ◌≢◌, ℕ, zero, suc, ◌<◌, ◌≤◌, nat_lt, nat_eq, cond, ℤ, pos, ◌-ℤ◌, ◌*ℤ◌, ◌≤ℤ◌, ◌<ℤ◌}
use Rattle.rob_linear.specs.Vectors.{Columns, Matrix, Vector}
use Rattle.rob_linear.specs.Systems.{System, objective, right, RowOf, LiesAlong, IsPrimitive, IsBasis, IsCombined}

-- the first of the n entries that is not 0 is positive
abbrev pub IsLexPositive : ℕ → Vector → Type 0
IsLexPositive n f = (k : ℕ) × (k < n) × ((j : ℕ) → j < k → f j ≡ pos 0) × (pos 0 <ℤ f k)

-- a row's right side and then its slack entries in order
abbrev pub key : System → Vector → ℕ → ℤ
key S r zero = r (right S)
key S r (suc i) = r (S.tag i)

-- the key of a over p comes before that of b over q
abbrev pub ComesBefore : System → Vector → ℤ → Vector → ℤ → Type 0
ComesBefore S a p b q = IsLexPositive (suc S.m) (λ k. (p *ℤ key S b k) -ℤ (q *ℤ key S a k))

-- the key of each position before m is lexicographically positive
abbrev pub IsLexFeasible : System → Matrix → Type 0
IsLexFeasible S rows = (i : ℕ) → i < S.m → IsLexPositive (suc S.m) (key S (rows i))

-- what a pivot at position e asks of the rows: they are those of a basis, but row e may be negated
pub record IsPivotable (S : System) (own : Columns) (rows : Matrix) (e : ℕ) : Type 0 where
  pub inside : (i : ℕ) → i < S.m → own i < S.columns
  pub last : own S.m ≡ objective S
  pub others : (i : ℕ) → i ≤ S.m → i ≢ e → RowOf S own i (rows i)
  pub along : LiesAlong S own e (rows e)
  pub primitive : IsPrimitive (suc (right S)) (rows e)

-- the basis after a pivot: column col at position e
pub record IsExchange (S : System) (own own' : Columns) (rows : Matrix) (e col : ℕ) : Type 0 where
  pub row_in : e < S.m
  pub col_in : col < S.columns
  pub entry : pos 0 <ℤ rows e col
  pub own_at : own' e ≡ col
  pub own_other : (i : ℕ) → i ≢ e → own' i ≡ own i

-- and its rows: row e stays, and the others lose the entering column by it
pub record IsPivot (S : System) (own own' : Columns) (rows rows' : Matrix) (e col : ℕ) : Type 0 where
  pub exchange : IsExchange S own own' rows e col
  pub open exchange use *
  pub row_at : (k : ℕ) → k ≤ right S → rows' e k ≡ rows e k
  pub row_other : (i : ℕ) → i ≤ S.m → i ≢ e
      → IsCombined (suc (right S)) (rows e col) (rows i) (rows i col) (rows e) (rows' i)

-- the column that enters: the first one with a negative entry in the objective's row
pub record Enters (S : System) (rows : Matrix) (col : ℕ) : Type 0 where
  pub inside : col < S.columns
  pub improving : rows S.m col <ℤ pos 0
  pub first : (k : ℕ) → k < col → pos 0 ≤ℤ rows S.m k

-- the position that leaves: of the rows that are positive in the entering column, the one that comes first
pub record Leaves (S : System) (rows : Matrix) (col e : ℕ) : Type 0 where
  pub inside : e < S.m
  pub positive : pos 0 <ℤ rows e col
  pub first : (i : ℕ) → i < S.m → pos 0 <ℤ rows i col → ¬ (ComesBefore S (rows i) (rows i col) (rows e) (rows e col))

-- a turn: a pivot at the entering column and the leaving position
pub record IsTurn (S : System) (own own' : Columns) (rows rows' : Matrix) (e col : ℕ) : Type 0 where
  pub pivot : IsPivot S own own' rows rows' e col
  pub enters : Enters S rows col
  pub leaves : Leaves S rows col e

-- the objective's row has risen: its key over its objective entry comes later
abbrev pub Rises : System → Vector → Vector → Type 0
Rises S r r' = ComesBefore S r (r (objective S)) r' (r' (objective S))

-- ---- turns of bases, which are lists of m columns

-- the basic column of each position: a list's, and the objective's for position m
abbrev pub own_of : System → Columns → ℕ → ℕ
own_of S basis i = cond (nat_lt i S.m) (basis i) (objective S)

-- two lists of m columns are the same
abbrev pub IsSameBasis : ℕ → Columns → Columns → Type 0
IsSameBasis m basis basis' = (i : ℕ) → i < m → basis i ≡ basis' i

-- the rows of a basis, whose keys are lexicographically positive
pub record StandsWith (S : System) (basis : Columns) (rows : Matrix) : Type 0 where
  pub is_basis : IsBasis S (own_of S basis) rows
  pub feasible : IsLexFeasible S rows

-- one turn leads from a basis to the next: the entering column stands at the leaving position
pub record TurnsTo (S : System) (basis basis' : Columns) : Type 0 where
  pub rows : Matrix
  pub position : ℕ
  pub column : ℕ
  pub is_basis : IsBasis S (own_of S basis) rows
  pub enters : Enters S rows column
  pub leaves : Leaves S rows column position
  pub exchanged : (i : ℕ) → i < S.m → basis' i ≡ cond (nat_eq i position) column (basis i)

-- k turns lead from the basis `start` to this one
abbrev pub TurnsFrom : System → Columns → ℕ → Columns → Type 0
TurnsFrom S start zero basis = IsSameBasis S.m basis start
TurnsFrom S start (suc k) basis = (before : Columns) × TurnsFrom S start k before × TurnsTo S before basis
