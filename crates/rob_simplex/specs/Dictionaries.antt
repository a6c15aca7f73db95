-- A dictionary: the rows of a basis, condensed. A row keeps the entries of the columns that are not basic, and its own
-- entry.
-- Columns are those of the auxiliary form: n structural ones, m slack ones, the auxiliary one, the objective's and the
-- right side; one spare column more, 0 in each row, gives a place that is free while a pivot is under way.
-- Positions 0 to m - 1 are those of the program's rows, position m is the objective's; row m + 1 keeps the row of the
-- cost while the auxiliary column is basic.
-- Rows are kept up to positive factors. Chvatal, Linear Programming (1983), chapter 2.
use Rattle.std.specs.Prelude.{◌≡◌, ◌≢◌, ◌⊎◌, ◌<ℤ◌, ◌≤ℤ◌, ℕ, suc, ◌<◌, ◌≤◌, ◌+◌, ◌^◌, nat_lt, nat_eq, cond, ℤ, pos, List, length, set, Bool, true, false, Option, IfSome}
use Rattle.rob_linear.specs.Vectors.{Columns, Matrix, Vector}
pub use Rattle.rob_linear.specs.Vectors.{columns_of}
use Rattle.rob_linear.specs.Systems.{System}
use Rattle.rob_linear.specs.Programs.{Program, kept_of}
use Rattle.rob_linear.specs.Turns.{ComesBefore}
use Rattle.rob_linear.specs.CondensedRows.{IsPlaced}
use Rattle.rob_linear.specs.Multiples.{IsParallel, IsClearedBy}
use Rattle.rob_entries.specs.Updates.{IsWideCleared}
use Rattle.rob_table.specs.Tables.{row_at, HasBounds}

-- what contracts see: the limit, the number of structural columns, the basic column of each position, the place of each
-- column, and the rows one behind another. Public clauses speak of the rows as functions of the column
pub record Table : Type 0 where
  pub limit : ℕ
  pub columns : ℕ
  pub basis : List ℕ
  pub places : List ℕ
  pub table : List ℤ

-- the same rows, of another limit
abbrev pub with_limit : ℕ → Table → Table
with_limit limit t = record { limit = limit; columns = t.columns; basis = t.basis; places = t.places; table = t.table }

-- the number of positions but the objective's
abbrev pub positions : Table → ℕ
positions t = length t.basis

-- as many structural columns and positions, and the same limit
pub record IsSized (before now : Table) : Type 0 where
  pub columns : now.columns ≡ before.columns
  pub positions : positions now ≡ positions before
  pub limit : now.limit ≡ before.limit

-- the basic column of each position, and the objective's column for the last one
abbrev pub basic_columns : ℕ → List ℕ → Columns
basic_columns n basis i = cond (nat_lt i (length basis)) (columns_of basis i) (suc (n + length basis))

-- the column of the right side
abbrev pub right_column : ℕ → ℕ → ℕ
right_column n m = suc (suc (n + m))

-- the spare one
abbrev pub spare_column : ℕ → ℕ → ℕ
spare_column n m = suc (suc (suc (n + m)))

-- a row as a function of the column, from its entries at w places and its own entry behind them
abbrev pub read_row : ℕ → Columns → ℕ → Vector → ℕ → ℤ
read_row w places i row c =
    cond (nat_lt (places c) w) (row (places c)) (cond (nat_eq (places c) (w + i)) (row w) (pos 0))

-- the rows of a dictionary
abbrev pub rows_of : Table → Matrix
rows_of t i = read_row (t.columns + 3) (columns_of t.places) i (row_at t.table (t.columns + 4) i)

-- the kept row stands at the objective's position
abbrev pub kept_row_of : Table → Vector
kept_row_of t =
    read_row (t.columns + 3) (columns_of t.places) (positions t) (row_at t.table (t.columns + 4) (suc (positions t)))

-- sizes, the maps of places and columns, and the bounds of the rows
pub record IsSound (limit n : ℕ) (basis places near : List ℕ) (table : List ℤ) (bounds : List ℕ)
    (workspace : ℕ) : Type 0 where
  pub few : n + length basis < 2 ^ 31
  pub limit_low : 1 ≤ limit
  pub count : length bounds ≡ length basis + 2
  pub bounded : HasBounds limit (n + 4) table bounds
  pub places_size : length places ≡ n + length basis + 4
  pub near_size : length near ≡ n + 3
  pub placed : IsPlaced (length basis) (n + 3) (n + length basis + 4) (columns_of places) (columns_of near)
      (basic_columns n basis)
  pub right_at : columns_of places (right_column n (length basis)) ≡ n + 2
  pub workspace_is : workspace ≡ n + 4

-- a column that is not basic, and not the right side
pub record IsFree (n : ℕ) (basis : List ℕ) (column : ℕ) : Type 0 where
  pub inside : column < n + length basis + 4
  pub not_basic : (i : ℕ) → i ≤ length basis → basic_columns n basis i ≢ column
  pub not_right : column ≢ right_column n (length basis)

-- all rows but one are 0 in a column
abbrev pub IsAlone : Table → ℕ → ℕ → Type 0
IsAlone t row column = (i : ℕ) → i ≤ positions t → i ≢ row → rows_of t i column ≡ pos 0

-- ---- one row clears a column in the others
-- the number of columns, the right side and the spare one included
abbrev pub width_of : Table → ℕ
width_of t = t.columns + positions t + 4

-- a column has come to a position, and the one that stood there to its place: the position's row stays, and each other
-- row has its entry of the first column in the second one
pub record IsExchanged (t t' : Table) (row left column : ℕ) : Type 0 where
  pub basis : t'.basis ≡ set t.basis row column
  pub columns : t'.columns ≡ t.columns
  pub row_stays : (c : ℕ) → c < width_of t → rows_of t' row c ≡ rows_of t row c
  pub moved : (i : ℕ) → i ≤ positions t → i ≢ row → rows_of t' i left ≡ rows_of t i column
  pub emptied : (i : ℕ) → i ≤ positions t → i ≢ row → rows_of t' i column ≡ pos 0
  pub others : (i c : ℕ) → i ≤ positions t → i ≢ row → c ≢ left → c ≢ column → rows_of t' i c ≡ rows_of t i c
  pub kept_moved : kept_row_of t' left ≡ kept_row_of t column
  pub kept_emptied : kept_row_of t' column ≡ pos 0
  pub kept_others : (c : ℕ) → c ≢ left → c ≢ column → kept_row_of t' c ≡ kept_row_of t c

-- a row's position is open: the spare column stands there, and the row is 0 in it
pub record IsOpen (t : Table) (row : ℕ) : Type 0 where
  pub spare : columns_of t.basis row ≡ spare_column t.columns (positions t)
  pub zero : rows_of t row (spare_column t.columns (positions t)) ≡ pos 0

-- the rows before `count` but this one have entries in their own columns; the kept one is 0 in the spare column
pub record KeepsOwn (count : ℕ) (t : Table) (row : ℕ) : Type 0 where
  pub rows :
      (i : ℕ) → i < count → i ≤ positions t → i ≢ row
      → rows_of t i (basic_columns t.columns t.basis i) ≢ pos 0
  pub kept :
      suc (positions t) < count
      → (kept_row_of t (spare_column t.columns (positions t)) ≡ pos 0)
      × (kept_row_of t (suc (t.columns + positions t)) ≢ pos 0)

-- of the rows before `count` but this one each is cleared; the others stay. The kept row is the last one
pub record ClearsTable (count : ℕ) (t t' : Table) (row column : ℕ) : Type 0 where
  pub cleared : (i : ℕ) → i < count → i ≤ positions t → i ≢ row
      → IsClearedBy (width_of t) column (rows_of t i) (rows_of t row) (rows_of t' i)
  pub row_stays : (c : ℕ) → rows_of t' row c ≡ rows_of t row c
  pub others : (i c : ℕ) → count ≤ i → i ≤ positions t → rows_of t' i c ≡ rows_of t i c
  pub kept : suc (positions t) < count
      → IsClearedBy (width_of t) column (kept_row_of t) (rows_of t row) (kept_row_of t')
  pub kept_stays : count ≤ suc (positions t) → (c : ℕ) → kept_row_of t' c ≡ kept_row_of t c

-- the rows before row i are cleared, and row i would be wide
pub record StopsTable (limit count : ℕ) (t t' : Table) (row column i : ℕ) : Type 0 where
  pub inside : i < count
  pub other : i ≢ row
  pub before : ClearsTable i t t' row column
  pub wide : i ≤ positions t → IsWideCleared limit (width_of t) column (rows_of t i) (rows_of t row)
  pub wide_kept : i ≡ suc (positions t) → IsWideCleared limit (width_of t) column (kept_row_of t) (rows_of t row)

-- ---- choices
-- the first of so many columns with a negative entry
pub record FirstNegative (count : ℕ) (row : Vector) (column : ℕ) : Type 0 where
  pub inside : column < count
  pub negative : row column <ℤ pos 0
  pub first : (c : ℕ) → c < column → pos 0 ≤ℤ row c

-- a program of this size: the places of right sides and slack columns in its auxiliary form are those of all others
abbrev pub sized : ℕ → ℕ → Matrix → Vector → Vector → Program
sized n m a b c = record { m = m; n = n; a = a; b = b; c = c }

-- the auxiliary form, with the program's cost kept, of such a program whose numbers are all 0
abbrev pub shape : ℕ → ℕ → System
shape n m = kept_of (sized n m (λ i j. pos 0) (λ i. pos 0) (λ j. pos 0))

-- row i is positive in the column, and comes before the best row so far, if there is one
abbrev pub GoesFirst : ℕ → ℕ → Matrix → ℕ → ℕ → Option ℕ → Type 0
GoesFirst n m rows column i best =
    (pos 0 <ℤ rows i column)
    × IfSome best (λ e. ComesBefore (shape n m) (rows i) (rows i column) (rows e) (rows e column))

-- the sign of a number that is not 0
abbrev pub Decided : Bool → ℤ → Type 0
Decided true f = pos 0 <ℤ f
Decided false f = f <ℤ pos 0

-- ---- a pivot
-- the spare column is not basic, and all rows are 0 in it
pub record IsClosed (t : Table) : Type 0 where
  pub free : (i : ℕ) → i < positions t → columns_of t.basis i ≢ spare_column t.columns (positions t)
  pub zero : (i : ℕ) → i ≤ positions t → rows_of t i (spare_column t.columns (positions t)) ≡ pos 0

-- a column has come in at a position: its row stays up to a factor, and clears the column in the others
pub record IsPivoted (t t' : Table) (row column : ℕ) : Type 0 where
  pub row_at : IsParallel (width_of t) (rows_of t' row) (rows_of t row)
  pub row_other : (i : ℕ) → i ≤ positions t → i ≢ row
      → IsClearedBy (width_of t) column (rows_of t i) (rows_of t row) (rows_of t' i)

-- a pivot was begun: the position is open, its row stays up to a factor, and each other row is as it was, or cleared
pub record IsBegunPivot (t t' : Table) (row column : ℕ) : Type 0 where
  pub opened : IsOpen t' row
  pub basis : t'.basis ≡ set t.basis row (spare_column t.columns (positions t))
  pub zero : (i : ℕ) → i ≤ positions t → rows_of t' i (spare_column t.columns (positions t)) ≡ pos 0
  pub row_at : IsParallel (width_of t) (rows_of t' row) (rows_of t row)
  pub row_other :
      (i : ℕ) → i ≤ positions t → i ≢ row
      → ((c : ℕ) → c < width_of t → rows_of t' i c ≡ rows_of t i c)
      ⊎ IsClearedBy (width_of t) column (rows_of t i) (rows_of t row) (rows_of t' i)
