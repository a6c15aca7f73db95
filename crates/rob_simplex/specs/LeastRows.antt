-- The least row in a column: of the rows that are negative there and lexicographically negative, the one that comes
-- first over minus its entry.
use Rattle.std.specs.Prelude.{◌≡◌, ◌≢◌, ◌<ℤ◌, ℕ, suc, ◌+◌, ◌<◌, pos, neg_ℤ, Option, IfSome, Bool, true, false, List, slice_index_or}
use Rattle.rob_linear.specs.Vectors.{Matrix}
use Rattle.rob_linear.specs.Turns.{ComesBefore, key}
use Rattle.rob_linear.specs.Beside.{IsLexNegative, IsLeast, HasNoLeast}
use Rattle.rob_simplex.specs.Dictionaries.{Table, positions, rows_of, shape}

-- row i may be the least: it is negative in the column, and its key is lexicographically negative
abbrev pub MayBeLeast : ℕ → ℕ → Matrix → ℕ → ℕ → Type 0
MayBeLeast n m rows column i = (rows i column <ℤ pos 0) × IsLexNegative (suc m) (key (shape n m) (rows i))

-- row i may be the least, and comes before the best row so far, if there is one
abbrev pub IsLower : ℕ → ℕ → Matrix → ℕ → ℕ → Option ℕ → Type 0
IsLower n m rows column i best =
    (rows i column <ℤ pos 0)
    × IfSome best (λ e. ComesBefore (shape n m) (rows i) (neg_ℤ (rows i column)) (rows e) (neg_ℤ (rows e column)))
    × IsLexNegative (suc m) (key (shape n m) (rows i))

-- row e of a dictionary is the least in the auxiliary column
abbrev pub IsLeastIn : Table → ℕ → Type 0
IsLeastIn t e = IsLeast (shape t.columns (positions t)) (t.columns + positions t) (rows_of t) e

-- no row of it may be
abbrev pub HasNoLeastIn : Table → Type 0
HasNoLeastIn t = HasNoLeast (shape t.columns (positions t)) (t.columns + positions t) (rows_of t)

-- row i is negative in the column and on its right side
abbrev pub IsBelowZero : Table → ℕ → ℕ → Type 0
IsBelowZero t column i =
    (rows_of t i column <ℤ pos 0) × (rows_of t i (t.columns + positions t + 2) <ℤ pos 0)

-- ---- what is known of rows
-- no row whose mark is on is lexicographically negative
abbrev pub AreKnown : Table → List Bool → Type 0
AreKnown t known =
    (i : ℕ) → i < positions t → slice_index_or known i false ≡ true
    → ¬ (IsLexNegative (suc (positions t)) (key (shape t.columns (positions t)) (rows_of t i)))

-- marks are on only where they were, and not where a pivot of row q at the column changes more than a factor: at row q
-- and at rows that are not 0 in the column
abbrev pub AreSpared : Table → ℕ → ℕ → List Bool → List Bool → Type 0
AreSpared t q column before after =
    (i : ℕ) → i < positions t → slice_index_or after i false ≡ true
    → (slice_index_or before i false ≡ true) × (i ≢ q) × (rows_of t i column ≡ pos 0)
