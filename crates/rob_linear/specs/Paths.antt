-- The path of bases that the simplex method passes on a program, in both phases.
-- While the auxiliary column is basic, turns are those of the auxiliary form; once it has left, those of the program
-- itself. The auxiliary column never stays in the basis at value 0 at its optimum, so no rule is needed for that.
-- Dantzig; Chvatal, Linear Programming (1983), chapter 3, with the first improving column as the one that enters.
use Rattle.std.specs.Prelude.{◌≡◌, ℕ, zero, suc, ◌+◌, ◌<◌, ◌⊎◌, nat_eq, cond, pos, ◌≤ℤ◌, ◌<ℤ◌}
use Rattle.rob_linear.specs.Vectors.{Columns, Matrix}
use Rattle.rob_linear.specs.Systems.{IsBasis, EndsOptimal, EndsUnbounded}
use Rattle.rob_linear.specs.Programs.{Program, system_of, auxiliary_of, auxiliary_row, EndsInfeasible}
use Rattle.rob_linear.specs.Turns.{ComesBefore, Enters, own_of, StandsWith, TurnsTo, TurnsFrom}

-- the auxiliary column stands behind the slack columns
abbrev pub auxiliary_column : Program → ℕ
auxiliary_column P = P.n + P.m

-- the start where no right side is negative: the slack columns
pub record StartsAtSlacks (P : Program) (basis : Columns) : Type 0 where
  pub nonnegative : (i : ℕ) → i < P.m → pos 0 ≤ℤ P.b i
  pub slacks : (i : ℕ) → i < P.m → basis i ≡ P.n + i

-- the start where a right side is negative: the slack columns, with the auxiliary column for the row that comes first
pub record StartsAtAuxiliary (P : Program) (basis : Columns) : Type 0 where
  pub row : ℕ
  pub inside : row < P.m
  pub negative : P.b row <ℤ pos 0
  pub first : (i : ℕ) → i < P.m
      → ¬ (ComesBefore (auxiliary_of P) (auxiliary_row P i) (pos 1) (auxiliary_row P row) (pos 1))
  pub exchanged : (i : ℕ) → i < P.m → basis i ≡ cond (nat_eq i row) (auxiliary_column P) (P.n + i)

-- the auxiliary column is basic
abbrev pub HasAuxiliary : Program → Columns → Type 0
HasAuxiliary P basis = (i : ℕ) × (i < P.m) × (auxiliary_column P ≡ basis i)

-- one turn, in the auxiliary form while the auxiliary column is basic, else in the program's own
abbrev pub Steps : Program → Columns → Columns → Type 0
Steps P basis basis' =
    (HasAuxiliary P basis × TurnsTo (auxiliary_of P) basis basis')
    ⊎ (¬ (HasAuxiliary P basis) × TurnsTo (system_of P) basis basis')

-- k turns lead from the program's start to this basis
abbrev pub Turned : Program → ℕ → Columns → Type 0
Turned P zero basis = StartsAtSlacks P basis ⊎ StartsAtAuxiliary P basis
Turned P (suc k) basis = (before : Columns) × Turned P k before × Steps P before basis

-- the basis is on the program's path
abbrev pub Reached : Program → Columns → Type 0
Reached P basis = (k : ℕ) × Turned P k basis

-- and no turn leads on from it
pub record Last (P : Program) (basis : Columns) : Type 0 where
  pub reached : Reached P basis
  pub ends : (next : Columns) → ¬ (Steps P basis next)

-- a basis of the program from which a path can go on: its rows are feasible, by the lexicographic rule too
pub record IsFeasibleBasis (P : Program) (basis : Columns) : Type 0 where
  pub rows : Matrix
  pub stands : StandsWith (system_of P) basis rows

-- the same for the path that begins at a given feasible basis of the program, without a first phase
pub record ReachedFrom (P : Program) (start basis : Columns) : Type 0 where
  pub feasible : IsFeasibleBasis P start
  pub turns : ℕ
  pub turned : TurnsFrom (system_of P) start turns basis

-- and its last basis
pub record LastFrom (P : Program) (start basis : Columns) : Type 0 where
  pub reached : ReachedFrom P start basis
  pub ends : (next : Columns) → ¬ (TurnsTo (system_of P) basis next)

-- ---- how a path ends

-- with a best point, whose rows are those of the program
abbrev pub EndsAtOptimum : Program → Columns → Type 0
EndsAtOptimum P basis =
    (rows : Matrix) × IsBasis (system_of P) (own_of (system_of P) basis) rows × EndsOptimal (system_of P) rows

-- with an entering column in which no row is positive
abbrev pub EndsAtRay : Program → Columns → Type 0
EndsAtRay P basis =
    (rows : Matrix) × (col : ℕ) × IsBasis (system_of P) (own_of (system_of P) basis) rows
    × Enters (system_of P) rows col × EndsUnbounded (system_of P) (own_of (system_of P) basis) rows col

-- in the auxiliary form, with the auxiliary column positive
abbrev pub EndsInFirstPhase : Program → Columns → Type 0
EndsInFirstPhase P basis =
    (rows : Matrix) × HasAuxiliary P basis
    × IsBasis (auxiliary_of P) (own_of (auxiliary_of P) basis) rows × EndsInfeasible P rows
