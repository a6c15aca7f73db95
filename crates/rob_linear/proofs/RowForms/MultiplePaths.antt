-- Paths on rows up to factors: their steps and their endings, from the start of a program or from a given basis.
use Rattle.std.proofs.Common.{ℕ, suc, ◌+◌, ◌<◌, inr}
use lib.IntN.{ℤ, pos}
use lib.Signed.{◌≤ℤ◌}
use Rattle.rob_linear.specs.Systems.{IsBasis, IsNonnegative}
use Rattle.rob_linear.specs.Programs.{Program, system_of}
use Rattle.rob_linear.specs.Turns.{Enters, Leaves, Rises, own_of, TurnsTo}
use Rattle.rob_linear.specs.Paths.{HasAuxiliary, Turned, ReachedFrom, LastFrom, EndsAtOptimum, EndsAtRay}
use Rattle.rob_linear.specs.Multiples.{AreParallel, IsMultiplePivot, StandsMultiple}
use Rattle.rob_linear.proofs.BasisPaths.Starts.{system_tagged}
use Rattle.rob_linear.proofs.Bases.Choices.{lex_feasible, optimal_ends, unbounded_ends}
use Rattle.rob_linear.proofs.RowForms.Multiples.{multiple_rows_exist, rows_parallel, multiple_turn, enters_parallel, optimal_parallel, unbounded_parallel}

pub path_turn : (P : Program) (k : ℕ) (basis next : ℕ → ℕ) (rows rows' : ℕ → ℕ → ℤ) (e col : ℕ) → Turned P k basis
    → ¬ (HasAuxiliary P basis) → StandsMultiple (system_of P) basis rows → Enters (system_of P) rows col
    → Leaves (system_of P) rows col e
    → IsMultiplePivot (system_of P) (own_of (system_of P) basis) (own_of (system_of P) next) rows rows' e col
    → Turned P (suc k) next × StandsMultiple (system_of P) next rows'
path_turn P k basis next rows rows' e col t no_aux s v w p =
    let x : TurnsTo (system_of P) basis next × StandsMultiple (system_of P) next rows'
    × Rises (system_of P) (rows P.m) (rows' P.m) =
    multiple_turn (system_of P) basis next rows rows' e col (system_tagged P) s v w p in
    ((basis, t, inr (no_aux, x.0)), x.1)

pub path_turn_from : (P : Program) (start basis next : ℕ → ℕ) (rows rows' : ℕ → ℕ → ℤ) (e col : ℕ)
    → ReachedFrom P start basis → StandsMultiple (system_of P) basis rows → Enters (system_of P) rows col
    → Leaves (system_of P) rows col e
    → IsMultiplePivot (system_of P) (own_of (system_of P) basis) (own_of (system_of P) next) rows rows' e col
    → ReachedFrom P start next × StandsMultiple (system_of P) next rows'
path_turn_from P start basis next rows rows' e col r s v w p =
    let x : TurnsTo (system_of P) basis next × StandsMultiple (system_of P) next rows'
    × Rises (system_of P) (rows P.m) (rows' P.m) =
    multiple_turn (system_of P) basis next rows rows' e col (system_tagged P) s v w p in
    (record { feasible = r.feasible; turns = suc r.turns; turned = (basis, r.turned, x.0) }, x.1)

pub multiple_optimum : (P : Program) (basis : ℕ → ℕ) (rows : ℕ → ℕ → ℤ) → StandsMultiple (system_of P) basis rows
    → IsNonnegative (P.n + P.m) (rows P.m) → EndsAtOptimum P basis
multiple_optimum P basis rows s n =
    let b : (prim : ℕ → ℕ → ℤ) × IsBasis (system_of P) (own_of (system_of P) basis) prim =
    multiple_rows_exist (system_of P) (own_of (system_of P) basis) rows (system_tagged P) s.multiples in
    let par : AreParallel (system_of P) rows b.0 =
    rows_parallel (system_of P) (own_of (system_of P) basis) b.0 rows b.1 s.multiples in (
      b.0,
      b.1,
      optimal_parallel (system_of P) rows b.0 par record {
        feasible = lex_feasible (system_of P) rows s.feasible;
        no_improving = n;
      },
    )

pub multiple_ray : (P : Program) (basis : ℕ → ℕ) (rows : ℕ → ℕ → ℤ) (col : ℕ) → StandsMultiple (system_of P) basis rows
    → Enters (system_of P) rows col → ((i : ℕ) → i < P.m → rows i col ≤ℤ pos 0) → EndsAtRay P basis
multiple_ray P basis rows col s v z =
    let b : (prim : ℕ → ℕ → ℤ) × IsBasis (system_of P) (own_of (system_of P) basis) prim =
    multiple_rows_exist (system_of P) (own_of (system_of P) basis) rows (system_tagged P) s.multiples in
    let par : AreParallel (system_of P) rows b.0 =
    rows_parallel (system_of P) (own_of (system_of P) basis) b.0 rows b.1 s.multiples in (
      b.0,
      col,
      b.1,
      enters_parallel (system_of P) rows b.0 col par v,
      unbounded_parallel (system_of P) (own_of (system_of P) basis) rows b.0 col par record {
        feasible = lex_feasible (system_of P) rows s.feasible;
        inside = v.inside;
        improving = v.improving;
        no_limit = z;
      },
    )

pub optimum_last_from : (P : Program) (start basis : ℕ → ℕ) → ReachedFrom P start basis → EndsAtOptimum P basis
    → LastFrom P start basis
optimum_last_from P start basis r o = record {
  reached = r;
  ends = λ next. optimal_ends (system_of P) basis next o.0 o.1 o.2.no_improving;
}

pub ray_last_from : (P : Program) (start basis : ℕ → ℕ) → ReachedFrom P start basis → EndsAtRay P basis
    → LastFrom P start basis
ray_last_from P start basis r u =
    record { reached = r; ends = λ next. unbounded_ends (system_of P) basis next u.0 u.1 u.2 u.3 u.4.no_limit }
