-- Vectors are functions from places to whole numbers, read up to a length that stands beside them.
-- A list of the code is such a vector by `at`: its entries, and 0 past its end.
use Rattle.std.specs.Prelude.{ℕ, zero, suc, ℤ, pos, ◌+ℤ◌, ◌*ℤ◌, List, slice_index_or}

-- the numbers of a row or of a point, one for each column
abbrev pub Vector : Type 0
Vector = ℕ → ℤ

-- rows, one for each position
abbrev pub Matrix : Type 0
Matrix = ℕ → Vector

-- columns, one for each position
abbrev pub Columns : Type 0
Columns = ℕ → ℕ

-- f 0 + .. + f (n - 1)
abbrev pub sum_to : ℕ → Vector → ℤ
sum_to zero f = pos 0
sum_to (suc n) f = sum_to n f +ℤ f n

-- the scalar product of the first n entries
abbrev pub dot : ℕ → Vector → Vector → ℤ
dot n f x = sum_to n (λ j. f j *ℤ x j)

-- the columns of a list, by position
abbrev pub columns_of : List ℕ → Columns
columns_of basis i = slice_index_or basis i 0

-- the entries of a list
abbrev pub at : List ℤ → ℕ → ℤ
at r k = slice_index_or r k (pos 0)
