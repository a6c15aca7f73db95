-- What a search for the worst case of a form answers: the greatest value with a scenario that has it and amounts that
-- show it, or a ray along which there is none; or why it has no answer.
-- Bertsimas, Dunning, Lubin, Reformulation versus cutting-planes for robust optimization (2016).
use Rattle.std.specs.Prelude.{◌≡◌, ◌⊎◌, ◌≤◌, ℕ, nat_abs, Bool, true, false, List, [], length, map, Result, IfOk, IfErr, ⊤}
use Rattle.rob_algebra.specs.Fraction.{Fraction, of_int}
use Rattle.rob_linear.specs.Paths.{Reached}
use Rattle.rob_linear.specs.Programs.{Program}
use Rattle.rob_linear.specs.WideRows.{IsOwnWideAt}
use Rattle.rob_meaning.specs.RobustModel.{RobustModel}
use Rattle.rob_runs.specs.Searches.{search_at, FindsRay}
use Rattle.rob_runs.specs.Told.{TellsWorst}
use Rattle.rob_runs.specs.Spots.{IsWideSearch, search_row, clearing, cost}
use Rattle.rob_simplex.specs.Dictionaries.{columns_of}
use Rattle.rob_solver.specs.Depths.{deep_limit}
use Rattle.rob_model.specs.declared.place.Spot.{Spot}
use Rattle.rob_model.specs.declared.place.Spot.TheVariants as spot
use Rattle.rob_model.specs.declared.place.Program.TheVariants as program
use Rattle.rob_model.specs.declared.place.Where.TheVariants as where_at
use Rattle.rob_model.specs.View.{scenario_of}
use Rattle.rob_cert.specs.declared.ending.Stop.{Stop}
use Rattle.rob_cert.specs.declared.ending.Stop.TheVariants.{EmptySet, Wide, Memory}
use Rattle.rob_cert.specs.declared.ending.Worst.{Worst}
use Rattle.rob_cert.specs.declared.ending.Worst.TheVariants.{At, Along}
use Rattle.rob_dualize.specs.Refusals.{TellsWideNumber}
use Rattle.rob_dualize.specs.SetSolving.{HasSetCause}
use Rattle.rob_dualize.specs.Solving.{CountsAnswer, HasScenario}

-- ---- the answer

-- it is read off the last basis of the search for form i at z: its scenario and its amounts, or its ray
abbrev pub Tells : {N : Type 0} → (N → Fraction) → RobustModel → ℕ → List Fraction → Worst N → Type 0
Tells value m i z (At denominator peak constant scenario basis amounts) =
    TellsWorst m i z (value denominator) (value peak) (of_int constant) (scenario_of value scenario) basis
    (map value amounts)
Tells value m i z (Along ray basis column) = FindsRay m i z basis column (map value ray)

-- the constant part that it tells is within the limit
abbrev pub HasConstantWithin : {N : Type 0} → ℕ → Worst N → Type 0
HasConstantWithin limit (At denominator peak constant scenario basis amounts) = nat_abs constant ≤ limit
HasConstantWithin limit (Along ray basis column) = ⊤

-- ---- refusals

-- the list is the whole basis, a column for each row of the program; it is on the path, and the program's own row of
-- that position is wide there, or, of the objective's position, a stage: no row of the auxiliary form
pub record TellsWideOwnRow (limit : ℕ) (P : Program) (basis : List ℕ) (p : ℕ) : Type 0 where
  pub whole : length basis ≡ P.m
  pub reached : Reached P (columns_of basis)
  pub wide : IsOwnWideAt limit P (columns_of basis) p

-- why a search is refused for the row of that position. It goes on from the last basis of the set's program, so has no
-- first phase: an entry of its own row, or of a stage of the objective's, is over the limit of deep rows, 2^126 - 1, at
-- that basis on the path of the search's program; or the row is the first that tells a number over the limit
abbrev pub IsRefusedSearch : ℕ → Program → List ℕ → ℕ → Type 0
IsRefusedSearch limit P basis p = TellsWideOwnRow deep_limit P basis p ⊎ TellsWideNumber limit P basis p

-- the number at the spot is wide in the search for form i at the plan z, or by step at the direction z; and where it is
-- one of a row, the search is refused for that row
abbrev pub IsWideAt : ℕ → RobustModel → Bool → ℕ → List Fraction → Spot → Type 0
IsWideAt limit m by_step i z (spot.Dictionary (program.SearchPlan f) basis p) =
    IsWideSearch limit m by_step i z (search_row false f basis p) × IsRefusedSearch limit (search_at m i z) basis p
IsWideAt limit m by_step i z (spot.Dictionary (program.SearchMove f) basis p) =
    IsWideSearch limit m by_step i z (search_row true f basis p) × IsRefusedSearch limit (search_at m i z) basis p
IsWideAt limit m by_step i z (spot.Clearing where_at.Plan) = IsWideSearch limit m by_step i z (clearing false)
IsWideAt limit m by_step i z (spot.Clearing where_at.Move) = IsWideSearch limit m by_step i z (clearing true)
IsWideAt limit m by_step i z (spot.Sum (where_at.Cost f) k) = IsWideSearch limit m by_step i z (cost f k)
IsWideAt limit m by_step i z other = ⊥

-- why a search on the solved program of the set has no answer: a number is wide; memory is free
abbrev pub HasSearchCause : ℕ → RobustModel → Bool → ℕ → List Fraction → Stop → Type 0
HasSearchCause limit m by_step i z (EmptySet weights) = ⊥
HasSearchCause limit m by_step i z (Wide place trace) = IsWideAt limit m by_step i z place × (trace.rounds ≡ [])
HasSearchCause limit m by_step i z Memory = ⊤

-- the cause of the set's program, or, where some scenario is admitted, the search's
abbrev pub HasCause : ℕ → RobustModel → Bool → ℕ → List Fraction → Stop → Type 0
HasCause limit m by_step i z stop = HasSetCause limit m stop ⊎ (HasScenario m × HasSearchCause limit m by_step i z stop)

-- ---- both

-- the answer of a search on the solved program of the set; and how often wide results were counted
pub record Searches {N : Type 0} (value : N → Fraction) (limit : ℕ) (m : RobustModel) (by_step : Bool) (i : ℕ)
    (z : List Fraction) (before now : ℕ) (result : Result (Worst N) Stop) : Type 0 where
  pub found : IfOk result (Tells value m i z)
  pub stopped : IfErr result (HasSearchCause limit m by_step i z)
  pub counted : CountsAnswer before now result

-- the same where the set's program is solved first
pub record FindsWorst {N : Type 0} (value : N → Fraction) (limit : ℕ) (m : RobustModel) (by_step : Bool) (i : ℕ)
    (z : List Fraction) (before now : ℕ) (result : Result (Worst N) Stop) : Type 0 where
  pub found : IfOk result (λ worst. HasScenario m × Tells value m i z worst)
  pub stopped : IfErr result (HasCause limit m by_step i z)
  pub counted : CountsAnswer before now result
