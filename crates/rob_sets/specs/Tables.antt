-- The table of coefficients that a `Table` holds: the number at each place, and 0 where it has none.
use Rattle.std.specs.Prelude.{◌≡◌, ℕ, suc, ◌⊎◌, Option, Some, None}
use Rattle.std.specs.BTreeMap.{get}
use Rattle.std.specs.Ordering.{nat_cmp, ordering_then}
use Rattle.std.specs.declared.cmp.Ordering.{Ordering}
use Rattle.rob_algebra.specs.Fraction.{Fraction}
use Rattle.rob_meaning.specs.Places.{0ℚ}
use Rattle.rob_meaning.specs.Coefficients as meaning
use Rattle.rob_sets.specs.declared.table.Cell.{Cell}
use Rattle.rob_sets.specs.declared.table.Table.{Table}

-- the order of the cells: by rows, and in a row by columns
abbrev pub cell_cmp : Cell → Cell → Ordering
cell_cmp a b = ordering_then (nat_cmp a.row b.row) (nat_cmp a.column b.column)

-- the number, and 0 where there is none
abbrev pub number_or_zero : {N : Type 0} → (N → Fraction) → Option N → Fraction
number_or_zero value None = 0ℚ
number_or_zero value (Some x) = value x

-- the coefficient in row k and column j
abbrev pub numbers_of : {N : Type 0} → (N → Fraction) → Table N → meaning.Table
numbers_of value t k j = number_or_zero value (get cell_cmp t.numbers (record { row = k; column = j }))

-- no coefficient belongs to a parameter
abbrev pub HasNoParameters : meaning.Table → Type 0
HasNoParameters f = (k j : ℕ) → f (suc k) j ≡ 0ℚ

-- no coefficient belongs to a decision column
abbrev pub HasNoColumns : meaning.Table → Type 0
HasNoColumns f = (k j : ℕ) → f k (suc j) ≡ 0ℚ

-- at most one of the two tables has parameters, and at most one has decision columns: their product is of degree at
-- most 1
pub record AreApart (f g : meaning.Table) : Type 0 where
  pub parameters : HasNoParameters f ⊎ HasNoParameters g
  pub columns : HasNoColumns f ⊎ HasNoColumns g
