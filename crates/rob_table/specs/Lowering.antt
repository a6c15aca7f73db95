-- A row that loses an amount at one place.
use Rattle.std.specs.Prelude.{◌≡◌, ◌≢◌, ℕ, ◌+◌, ◌^◌, ◌<◌, nat_eq, cond, ℤ, pos, ◌-ℤ◌, ◌*ℤ◌, ◌<ℤ◌, List, length}
use Rattle.std.specs.Int.RustNames.{unsigned_abs}
use Rattle.rob_linear.specs.Vectors.{Vector}
use Rattle.rob_linear.specs.Systems.{IsPrimitive}
use Rattle.rob_linear.specs.Stages.{unit_row}
use Rattle.rob_table.specs.declared.lowering.Lowering.{Lowering}
use Rattle.rob_table.specs.Tables.{row_at, HasBounds}

-- the row has a way, where it is 0, and isn't 0 at its own entry; the row behind it is there too
pub record CanLower (limit : ℕ) (there : Lowering) (rows : List ℤ) (bounds : List ℕ) (workspace : ℕ) : Type 0 where
  pub few : there.n < 2 ^ 31
  pub bounded : HasBounds limit (there.n + 4) rows bounds
  pub inside : there.row + 1 < length bounds
  pub workspace_is : workspace ≡ there.n + 4
  pub way_in : there.way < there.n + 3
  pub place_in : there.place < there.n + 3
  pub apart : there.place ≢ there.way
  pub zero : row_at rows (there.n + 4) there.row there.way ≡ pos 0
  pub own : row_at rows (there.n + 4) there.row (there.n + 3) ≢ pos 0

-- the amount is subtracted in that column, up to a positive factor
pub record IsLowered (n column : ℕ) (amount : ℤ) (row new : Vector) : Type 0 where
  pub divisor : ℤ
  pub p : ℤ
  pub divides : pos 0 <ℤ divisor
  pub positive : pos 0 <ℤ p
  pub entries : (k : ℕ) → k < n → divisor *ℤ new k ≡ p *ℤ (row k -ℤ (amount *ℤ unit_row column k))

-- what the row becomes, in lowest terms, has an entry over the limit
abbrev pub IsWideLowered : ℕ → ℕ → ℕ → ℤ → Vector → Type 0
IsWideLowered limit n column amount row =
    (new : Vector) × IsLowered n column amount row new × IsPrimitive n new
    × ((k : ℕ) × (k < n) × (limit < unsigned_abs (new k)))

-- the row that subtracts: 1 at one place, a number at another, and 0 elsewhere
abbrev pub step_row : ℕ → ℕ → ℤ → Vector
step_row one place number k = cond (nat_eq k one) (pos 1) (cond (nat_eq k place) number (pos 0))
