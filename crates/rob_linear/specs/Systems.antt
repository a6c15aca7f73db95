-- Starting rows, the rows of a basis (a dictionary in whole numbers), and how the simplex method ends.
-- Positions 0 to m - 1 are those of a program's rows, position m is the objective's. Columns count from 0:
-- those of variables first, then the objective's, then the right side. Points are scaled: z and s stand for z / s.
-- Chvatal, Linear Programming (1983), chapters 2 (dictionaries) and 3 (endings).
use Rattle.std.specs.Prelude.{◌≡◌, ◌≢◌, ℕ, suc, ◌<◌, ◌≤◌, nat_lt, cond, ℤ, pos, ◌-ℤ◌, ◌*ℤ◌, ◌≤ℤ◌, ◌<ℤ◌, neg_ℤ}
use Rattle.std.specs.Int.RustNames.{unsigned_abs}
use Rattle.std.specs.Int.{◌∣◌}
use Rattle.rob_linear.specs.Vectors.{Columns, Matrix, Vector, sum_to, dot}

-- starting rows 0 to m over `columns` variables; `tag t` is the column that only starting row t has: its slack column,
-- or the objective's column where t is m
pub record System : Type 0 where
  pub m : ℕ
  pub columns : ℕ
  pub tag : ℕ → ℕ
  pub start : Matrix

-- the objective's column, which holds the value of a solution
abbrev pub objective : System → ℕ
objective S = S.columns

-- the place of a row's right side
abbrev pub right : System → ℕ
right S = suc S.columns

-- each starting row has 1 in its tag, and 0 in the tags of the others
pub record IsTagged (S : System) : Type 0 where
  pub inside : (t : ℕ) → t < S.m → S.tag t < S.columns
  pub last : S.tag S.m ≡ objective S
  pub one : (t : ℕ) → t ≤ S.m → S.start t (S.tag t) ≡ pos 1
  pub zero : (t u : ℕ) → t ≤ S.m → u ≤ S.m → u ≢ t → S.start t (S.tag u) ≡ pos 0

-- each entry is that of the sum of the starting rows, each taken as often as the row's own entry in its tag says
abbrev pub IsSpanned : System → Vector → Type 0
IsSpanned S r = (k : ℕ) → k ≤ right S → r k ≡ sum_to (suc S.m) (λ t. r (S.tag t) *ℤ S.start t k)

-- no number but 1 divides every entry
abbrev pub IsPrimitive : ℕ → Vector → Type 0
IsPrimitive n r = (d : ℕ) → ((k : ℕ) → k < n → d ∣ unsigned_abs (r k)) → d ≡ 1

-- `own i` is the basic column of position i, and the objective's column where i is m
-- a multiple of the row of position i: 0 in the columns of the other positions, and a sum of starting rows
pub record LiesAlong (S : System) (own : Columns) (i : ℕ) (r : Vector) : Type 0 where
  pub zeros : (j : ℕ) → j ≤ S.m → j ≢ i → r (own j) ≡ pos 0
  pub spanned : IsSpanned S r

-- the row of position i: such a multiple, positive in the position's own column, whose entries have no common divisor
pub record RowOf (S : System) (own : Columns) (i : ℕ) (r : Vector) : Type 0 where
  pub along : LiesAlong S own i r
  pub open along use *
  pub positive : pos 0 <ℤ r (own i)
  pub primitive : IsPrimitive (suc (right S)) r

-- all rows of a basis
pub record IsBasis (S : System) (own : Columns) (rows : Matrix) : Type 0 where
  pub inside : (i : ℕ) → i < S.m → own i < S.columns
  pub last : own S.m ≡ objective S
  pub rows_of : (i : ℕ) → i ≤ S.m → RowOf S own i (rows i)

-- z / s solves the equation of a row: its entries times z, the value in the
-- objective's column, sum to its right side times s
abbrev pub Meets : System → Vector → ℤ → Vector → Type 0
Meets S r s z = dot (suc S.columns) r z ≡ s *ℤ r (right S)

-- z / s solves each starting row
abbrev pub Solves : System → ℤ → Vector → Type 0
Solves S s z = (t : ℕ) → t ≤ S.m → Meets S (S.start t) s z

-- none of the first n entries is negative
abbrev pub IsNonnegative : ℕ → Vector → Type 0
IsNonnegative n z = (k : ℕ) → k < n → pos 0 ≤ℤ z k

-- a solution without negative entries: a point where s is positive, a ray where it is 0
pub record IsSolution (S : System) (s : ℤ) (z : Vector) : Type 0 where
  pub solves : Solves S s z
  pub nonnegative : IsNonnegative S.columns z

-- ---- endings

-- no right side of positions 0 to m - 1 is negative
abbrev pub Feasible : System → Matrix → Type 0
Feasible S rows = (i : ℕ) → i < S.m → pos 0 ≤ℤ rows i (right S)

-- the basic solution, z / s: column `own i` has the right side of its row over
-- the row's own entry, and all others are 0
pub record Point (S : System) (own : Columns) (rows : Matrix) (s : ℤ) (z : Vector) : Type 0 where
  pub scale : pos 0 <ℤ s
  pub basic : (i : ℕ) → i ≤ S.m → rows i (own i) *ℤ z (own i) ≡ s *ℤ rows i (right S)
  pub rest : (k : ℕ) → k ≤ objective S → ((i : ℕ) → i ≤ S.m → k ≢ own i) → z k ≡ pos 0

-- the basic direction: column `col` grows by s, and column `own i` by minus s
-- times its row's entry in `col` over its own
pub record Move (S : System) (own : Columns) (rows : Matrix) (col : ℕ) (s : ℤ) (z : Vector) : Type 0 where
  pub scale : pos 0 <ℤ s
  pub entering : z col ≡ s
  pub basic : (i : ℕ) → i ≤ S.m → rows i (own i) *ℤ z (own i) ≡ neg_ℤ (s *ℤ rows i col)
  pub rest : (k : ℕ) → k ≤ objective S → ((i : ℕ) → i ≤ S.m → k ≢ own i) → k ≢ col → z k ≡ pos 0

-- feasible, and no column improves the objective
pub record EndsOptimal (S : System) (rows : Matrix) : Type 0 where
  pub feasible : Feasible S rows
  pub no_improving : IsNonnegative S.columns (rows S.m)

-- feasible, and column `col` improves the objective with no row to limit it
pub record EndsUnbounded (S : System) (own : Columns) (rows : Matrix) (col : ℕ) : Type 0 where
  pub feasible : Feasible S rows
  pub inside : col < S.columns
  pub improving : rows S.m col <ℤ pos 0
  pub no_limit : (i : ℕ) → i < S.m → rows i col ≤ℤ pos 0

-- what a pivot makes of a row: p times it less q times the pivot's row, that of the leaving position, divided by what
-- is common
pub record IsCombined (n : ℕ) (p : ℤ) (row : Vector) (q : ℤ) (pivot_row new : Vector) : Type 0 where
  pub divisor : ℤ
  pub positive : pos 0 <ℤ divisor
  pub entries : (k : ℕ) → k < n → divisor *ℤ new k ≡ (p *ℤ row k) -ℤ (q *ℤ pivot_row k)
  pub primitive : IsPrimitive n new

-- the rows, with r as the objective's
abbrev pub with_objective : ℕ → Matrix → Vector → Matrix
with_objective m rows r i = cond (nat_lt i m) (rows i) r
