-- The dictionary that a program starts from: the slack columns and the objective's are basic.
use Rattle.std.specs.Prelude.{◌≡◌, ℕ, suc, ◌<◌, ◌≤◌, ◌+◌, ◌-◌, ◌^◌, nat_lt, nat_eq, cond, ℤ, pos, length}
use Rattle.rob_linear.specs.Vectors.{Vector}
use Rattle.rob_linear.specs.Programs.{Program, kept_row}
use Rattle.rob_rows.specs.declared.program.Lp.{Lp}
use Rattle.rob_rows.specs.LinearPrograms.{HasNumbersWithin}
use Rattle.rob_simplex.specs.Dictionaries.{Table, positions, columns_of, rows_of, IsClosed}

-- the place of each column: the structural columns, the auxiliary one, the spare one, the right side, and then the
-- basic ones
abbrev pub start_place : ℕ → ℕ → ℕ → ℕ
start_place n m c =
    cond (nat_lt c n) c (cond (nat_lt c (n + m)) (c + 3)
    (cond (nat_eq c (n + m)) n (cond (nat_eq c (n + m + 1)) (n + 3 + m) (cond (nat_eq c (n + m + 2)) (n + 2) (n + 1)))))

-- the column at each place
abbrev pub start_column : ℕ → ℕ → ℕ → ℕ
start_column n m k = cond (nat_lt k n) k (cond (nat_eq k n) (n + m) (cond (nat_eq k (n + 1)) (n + m + 3) (n + m + 2)))

-- a condensed row: its structural entries, that of the auxiliary column, 0 in the spare one, the right side, and 1 as
-- its own entry
abbrev pub start_entry : ℕ → Vector → ℤ → ℤ → Vector
start_entry n low auxiliary right k =
    cond (nat_lt k n) (low k)
    (cond (nat_eq k n) auxiliary (cond (nat_eq k (n + 1)) (pos 0) (cond (nat_eq k (n + 2)) right (pos 1))))

-- a program's rows can be told into so many numbers: one for each column, of 62 bits
pub record CanTellProgram (width : ℕ) (lp : Lp) : Type 0 where
  pub few : width < 2 ^ 31
  pub columns : width ≡ length lp.c
  pub numbers : HasNumbersWithin (2 ^ 62 - 1) lp

-- the dictionary has the program's starting rows
pub record IsStartingTable (P : Program) (t : Table) : Type 0 where
  pub columns_are : t.columns ≡ P.n
  pub rows_are : positions t ≡ P.m
  pub slacks : (i : ℕ) → i < P.m → columns_of t.basis i ≡ P.n + i
  pub rows : (i c : ℕ) → i ≤ P.m → c ≤ suc (suc (P.n + P.m)) → rows_of t i c ≡ kept_row P i c
  pub closed : IsClosed t
