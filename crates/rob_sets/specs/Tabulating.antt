-- The coefficients of an expression, as they are computed: each subexpression in turn, up to the first with a wide one.
use Rattle.std.specs.Prelude.{◌≡◌, ℕ, Result, Ok, Err}
use Rattle.rob_algebra.specs.Fraction.{Fraction}
use Rattle.rob_meaning.specs.Coefficients as meaning
use Rattle.rob_meaning.specs.Expressions.{Expression}
use Rattle.rob_meaning.specs.Places.{Each}
use Rattle.rob_meaning.specs.RobustModel.{RobustModel}
use Rattle.rob_number.specs.Counts.{Rose}
use Rattle.rob_sets.specs.FirstWide.{Some_of}
use Rattle.rob_sets.specs.Stops.{StopsFor}
use Rattle.rob_sets.specs.Subexpressions.{subexpressions, HasWideCoefficient}
use Rattle.rob_sets.specs.Tables.{numbers_of}
use Rattle.rob_sets.specs.declared.error.Stop.{Stop}
use Rattle.rob_sets.specs.declared.table.Table.{Table}

-- the table holds the coefficients of the expression, and no coefficient of a subexpression is wide
pub record IsTableOf {N : Type 0} (value : N → Fraction) (limit : ℕ) (m : RobustModel) (e : Expression) (t : Table N)
    : Type 0 where
  pub coefficients : (k j : ℕ) → numbers_of value t k j ≡ meaning.table m e k j
  pub none_wide : Each (λ s. HasWideCoefficient limit m s → ⊥) (subexpressions e)

-- why there is no such table: a coefficient of a subexpression is wide, which the ledger counted
abbrev pub IsWideWithin : ℕ → RobustModel → Expression → ℕ → ℕ → Type 0
IsWideWithin limit m e before now = Rose before now × Some_of (HasWideCoefficient limit m) (subexpressions e)

-- the call answers the table of the expression, or says why not
abbrev pub Tabulates : {N : Type 0} → (N → Fraction) → ℕ → RobustModel → Expression → ℕ → ℕ → Result (Table N) Stop
    → Type 0
Tabulates value limit m e before now (Ok t) = IsTableOf value limit m e t
Tabulates value limit m e before now (Err stop) = StopsFor (IsWideWithin limit m e before now) stop
