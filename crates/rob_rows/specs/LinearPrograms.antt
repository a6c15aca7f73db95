-- A linear program as the code holds it: its shape, its numbers, and the program that it stands for.
use Rattle.std.specs.Prelude.{◌≡◌, ℕ, [], All, length, slice_index_or}
use Rattle.rob_linear.specs.Vectors.{at}
use Rattle.rob_linear.specs.Programs.{Program}
use Rattle.rob_rows.specs.declared.program.Lp.{Lp}
use Rattle.rob_rows.specs.PrimitiveParts.{IsWithin}

-- a row for each right side, and in each a number for each column
pub record IsShaped (lp : Lp) : Type 0 where
  pub rows : length lp.a ≡ length lp.b
  pub columns : All (λ row. length row ≡ length lp.c) lp.a

-- no number is over the limit in size
pub record HasNumbersWithin (limit : ℕ) (lp : Lp) : Type 0 where
  pub a : All (λ row. IsWithin limit row) lp.a
  pub b : IsWithin limit lp.b
  pub c : IsWithin limit lp.c

-- the program: maximise c*x subject to A*x <= b and x >= 0
abbrev pub program_of : Lp → Program
program_of lp = record {
  m = length lp.b;
  n = length lp.c;
  a = λ i j. at (slice_index_or lp.a i []) j;
  b = at lp.b;
  c = at lp.c;
}
