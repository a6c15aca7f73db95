-- The first phase with the auxiliary column kept out of the basis of the table. At a basis of the path where it is
-- basic at position q, the table has the rows, up to factors, of the basis with another column f there: the slack
-- column at the start, later the column that left last. The auxiliary column is then one of the others in these rows.
use Rattle.std.specs.Prelude.{◌≡◌, ◌≢◌, ℕ, suc, ◌+◌, ◌<◌, ◌≤◌, ◌⊎◌, nat_eq, cond, ℤ, pos, ◌≤ℤ◌, ◌<ℤ◌, neg_ℤ}
use Rattle.rob_linear.specs.Vectors.{Columns, Matrix, Vector}
use Rattle.rob_linear.specs.Systems.{System, right}
use Rattle.rob_linear.specs.Programs.{Program, auxiliary_row, kept_row, kept_of, auxiliary_place}
use Rattle.rob_linear.specs.Turns.{IsLexPositive, key, ComesBefore, own_of}
use Rattle.rob_linear.specs.Paths.{auxiliary_column}
use Rattle.rob_linear.specs.Multiples.{IsParallel, HasMultipleRows, IsClearedBy, put_at}

-- the rows are those that the program starts from, with -1 in the auxiliary column
abbrev pub AreStarting : Program → Matrix → Type 0
AreStarting P rows = (i : ℕ) → i ≤ P.m → (k : ℕ) → k ≤ suc (suc (P.n + P.m)) → rows i k ≡ kept_row P i k

-- row m is the kept row of the cost
pub record StandsBeside (P : Program) (basis : Columns) (q f : ℕ) (rows : Matrix) : Type 0 where
  pub inside : q < P.m
  pub auxiliary : basis q ≡ auxiliary_column P
  pub multiples : HasMultipleRows (kept_of P) (own_of (kept_of P) (put_at basis q f)) rows
  pub below : rows q (auxiliary_column P) <ℤ pos 0

-- the column that enters: the first but the auxiliary one with a negative entry in row q
pub record EntersBeside (P : Program) (q : ℕ) (rows : Matrix) (col : ℕ) : Type 0 where
  pub inside : col < P.n + P.m
  pub improving : rows q col <ℤ pos 0
  pub first : (k : ℕ) → k < col → pos 0 ≤ℤ rows q k

-- the pivot of the table: row q is negated, and clears the entering column in the others
pub record IsBesidePivot (P : Program) (q col : ℕ) (rows rows' : Matrix) : Type 0 where
  pub row_at : IsParallel (suc (right (kept_of P))) (rows' q) (λ k. neg_ℤ (rows q k))
  pub row_other : (i : ℕ) → i ≤ P.m → i ≢ q → IsClearedBy (suc (right (kept_of P))) col (rows i) (rows q) (rows' i)

-- such a pivot that was begun: each other row is what it was, up to a factor, or cleared already
pub record IsBegun (P : Program) (q col : ℕ) (rows begun : Matrix) : Type 0 where
  pub inside : col < P.n + P.m
  pub row_at : IsParallel (suc (right (kept_of P))) (begun q) (λ k. neg_ℤ (rows q k))
  pub row_other :
      (i : ℕ) → i ≤ P.m → i ≢ q
      → IsParallel (suc (right (kept_of P))) (rows i) (begun i)
      ⊎ IsClearedBy (suc (right (kept_of P))) col (rows i) (rows q) (begun i)

-- the pivot at row q and the auxiliary column, with the row of the auxiliary
-- cost put in, and `kept` made of the kept row
pub record IsBackPivot (P : Program) (q : ℕ) (begun new : Matrix) (kept : Vector) : Type 0 where
  pub row_at : IsParallel (suc (right (kept_of P))) (new q) (begun q)
  pub row_other : (i : ℕ) → i < P.m → i ≢ q
      → IsClearedBy (suc (right (kept_of P))) (auxiliary_column P) (begun i) (begun q) (new i)
  pub cost : IsClearedBy (suc (right (kept_of P))) (auxiliary_column P) (auxiliary_row P P.m) (begun q) (new P.m)
  pub kept_row : IsClearedBy (suc (right (kept_of P))) (auxiliary_column P) (begun P.m) (begun q) kept

-- the first of the n entries that is not 0 is negative
abbrev pub IsLexNegative : ℕ → Vector → Type 0
IsLexNegative n f = IsLexPositive n (λ k. neg_ℤ (f k))

-- of the rows that are negative in the column and lexicographically negative,
-- the one that comes first over minus that entry
pub record IsLeast (S : System) (col : ℕ) (rows : Matrix) (e : ℕ) : Type 0 where
  pub inside : e < S.m
  pub below : rows e col <ℤ pos 0
  pub negative : IsLexNegative (suc S.m) (key S (rows e))
  pub first :
      (i : ℕ) → i < S.m → rows i col <ℤ pos 0 → IsLexNegative (suc S.m) (key S (rows i))
      → ¬ (ComesBefore S (rows i) (neg_ℤ (rows i col)) (rows e) (neg_ℤ (rows e col)))

-- there is none
abbrev pub HasNoLeast : System → ℕ → Matrix → Type 0
HasNoLeast S col rows = (i : ℕ) → i < S.m → rows i col <ℤ pos 0 → ¬ (IsLexNegative (suc S.m) (key S (rows i)))

-- positions p and q exchanged
abbrev pub exchanged : ℕ → ℕ → ℕ → ℕ
exchanged q p i = cond (nat_eq i q) p (cond (nat_eq i p) q i)

-- rows p and q exchanged
abbrev pub swapped : ℕ → ℕ → Matrix → ℕ → Vector
swapped q p rows i = rows (exchanged q p i)

-- the auxiliary objective's row at the basis of the path, up to a factor, read off row q
abbrev pub beside_objective : Program → Vector → ℕ → ℤ
beside_objective P r k =
    cond (nat_eq k (suc (P.n + P.m))) (neg_ℤ (r (P.n + P.m))) (cond (nat_eq k (P.n + P.m)) (pos 0) (r k))

-- the rows without the auxiliary column
abbrev pub without_column : Program → Matrix → Matrix
without_column P rows i k = rows i (auxiliary_place P k)

-- ---- the same by the columns of the table's own basis
-- the table's basis `columns` with the auxiliary column at position q is the basis of the path
abbrev pub path_basis : Program → Columns → ℕ → ℕ → ℕ
path_basis P columns q = put_at columns q (auxiliary_column P)

-- the table with these columns as its basis has rows up to factors, and at position q the auxiliary column's entry is
-- negative
pub record HoldsBeside (P : Program) (columns : Columns) (q : ℕ) (rows : Matrix) : Type 0 where
  pub inside : q < P.m
  pub multiples : HasMultipleRows (kept_of P) (own_of (kept_of P) columns) rows
  pub below : rows q (auxiliary_column P) <ℤ pos 0

-- column col in, and then positions q and p exchanged
abbrev pub turned_columns : Columns → ℕ → ℕ → ℕ → ℕ → ℕ
turned_columns columns q p col i = put_at columns q col (exchanged q p i)
