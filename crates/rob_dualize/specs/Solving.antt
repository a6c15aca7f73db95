-- What the reformulation route answers for a model: a certificate that proves, read off the last basis of the model's
-- robust counterpart; or why there is none.
-- Ben-Tal, El Ghaoui, Nemirovski, Robust Optimization (2009), chapter 1.
use Rattle.std.specs.Prelude.{◌≡◌, ℕ, ℤ, ◌≤◌, nat_abs, List, [], map, Result, MatchResult, IfOk, IfErr, ⊤}
use Rattle.rob_algebra.specs.Fraction.{Fraction, of_int}
use Rattle.rob_linear.specs.Vectors.{Matrix, Columns}
use Rattle.rob_linear.specs.Systems.{IsBasis}
use Rattle.rob_linear.specs.Programs.{system_of, auxiliary_of}
use Rattle.rob_linear.specs.Turns.{own_of, Enters}
use Rattle.rob_linear.specs.Paths.{Last}
use Rattle.rob_linear.specs.Optimality.{IsBasicPoint}
use Rattle.rob_bounds.specs.Bounds.{IsNarrow}
use Rattle.rob_meaning.specs.Certificates.{Status, optimal, infeasible, unbounded, Certificate}
use Rattle.rob_meaning.specs.Multipliers.{ShowsEmpty, ShowsEmptyIn}
use Rattle.rob_meaning.specs.Places.{Each}
use Rattle.rob_meaning.specs.Proves.{Proves}
use Rattle.rob_meaning.specs.RobustModel.{RobustModel}
use Rattle.rob_meaning.specs.UncertaintySet.{IsEmptyIn, IsEmptySet}
pub use Rattle.rob_meaning.specs.UncertaintySet.{HasScenario}
use Rattle.rob_counterpart.specs.Counterpart.{set_program, counterpart}
use Rattle.rob_counterpart.specs.Endings.{InfeasibleEnding}
use Rattle.rob_counterpart.specs.ReadCertificates.{scenario_read, weights_read, IsReadOptimal, IsReadInfeasible, IsReadUnbounded}
use Rattle.rob_model.specs.declared.place.Spot.{Spot}
use Rattle.rob_model.specs.declared.place.Spot.TheVariants as spot
use Rattle.rob_model.specs.declared.place.Program.TheVariants as program
use Rattle.rob_number.specs.Counts.{raised}
use Rattle.rob_cert.specs.Shape.{HasShape}
use Rattle.rob_cert.specs.View.{certificate_of}
use Rattle.rob_cert.specs.declared.certificate.Cert.{Cert}
use Rattle.rob_cert.specs.declared.ending.Stop.{Stop}
use Rattle.rob_cert.specs.declared.ending.Stop.TheVariants.{EmptySet, Wide, Memory}
use Rattle.rob_dualize.specs.Refusals.{IsRefusedAt}

-- the certificate is read off the rows of the counterpart at this basis, in the entering column where they are
-- unbounded
abbrev pub IsReadAt : RobustModel → Columns → Matrix → Status → Certificate → Type 0
IsReadAt m basis rows optimal c =
    (x y : ℕ → Fraction) × IsReadOptimal m (own_of (system_of (counterpart m)) basis) rows x y c
IsReadAt m basis rows infeasible c = IsReadInfeasible m (own_of (auxiliary_of (counterpart m)) basis) rows c
IsReadAt m basis rows unbounded c =
    (column : ℕ) × (x r : ℕ → Fraction) × Enters (system_of (counterpart m)) rows column
    × IsReadUnbounded m (own_of (system_of (counterpart m)) basis) rows column x r c

-- the last basis of the counterpart ends it, and the certificate is read off there
pub record IsReadAtEnd (m : RobustModel) (c : Certificate) : Type 0 where
  pub basis : Columns
  pub rows : Matrix
  pub last : Last (counterpart m) basis
  pub read : IsReadAt m basis rows c.status c

-- the scenario is the basic solution of the last basis of the set's program
pub record IsLastScenario (m : RobustModel) (scenario : List Fraction) : Type 0 where
  pub basis : Columns
  pub rows : Matrix
  pub point : ℕ → Fraction
  pub last : Last (set_program m) basis
  pub is_basis : IsBasis (system_of (set_program m)) (own_of (system_of (set_program m)) basis) rows
  pub is_point : IsBasicPoint (system_of (set_program m)) (own_of (system_of (set_program m)) basis) rows point
  pub scenario_is : scenario ≡ scenario_read m point

-- the certificate proves, has its shape, and is read off the last bases
pub record IsSolution (m : RobustModel) (c : Certificate) : Type 0 where
  pub proves : Proves m c
  pub shape : HasShape m c
  pub read : IsReadAtEnd m c
  pub inside : IsLastScenario m c.inside

-- no joint scenario is admitted, as the Farkas weights of the last basis of the set's program show. They belong to rows
-- of one set, which admits nothing itself
pub record IsShownEmpty (m : RobustModel) (weights : List Fraction) : Type 0 where
  pub empty : IsEmptySet m
  pub shows : ShowsEmpty m weights
  pub set : ℕ
  pub shows_in : ShowsEmptyIn m set weights
  pub empty_in : IsEmptyIn m set
  pub basis : Columns
  pub rows : Matrix
  pub last : Last (set_program m) basis
  pub ending : InfeasibleEnding (set_program m) (own_of (auxiliary_of (set_program m)) basis) rows
  pub weights_are : weights ≡ weights_read m rows

-- the weights are told so, in whole numbers, none of them over the limit in size
pub record TellsEmpty (limit : ℕ) (m : RobustModel) (weights : List ℤ) : Type 0 where
  pub shown : IsShownEmpty m (map of_int weights)
  pub fits : Each (λ weight. nat_abs weight ≤ limit) weights

-- the row of that position is wide at the told basis, and for it the set's program is refused, or, where some scenario
-- is admitted, the counterpart
abbrev pub IsWideOnPath : ℕ → RobustModel → Spot → Type 0
IsWideOnPath limit m (spot.Dictionary program.Set basis i) = IsRefusedAt limit (set_program m) basis i
IsWideOnPath limit m (spot.Dictionary program.Reform basis i) =
    HasScenario m × IsRefusedAt limit (counterpart m) basis i
IsWideOnPath limit m other = ⊥

-- each refusal with what stands behind it; memory is free
abbrev pub HasCause : ℕ → RobustModel → Stop → Type 0
HasCause limit m (EmptySet weights) = TellsEmpty limit m weights
HasCause limit m (Wide place trace) = IsWideOnPath limit m place × (trace.rounds ≡ [])
HasCause limit m Memory = ⊤

-- what a refusal has counted of wide results
abbrev pub CountsStop : ℕ → ℕ → Stop → Type 0
CountsStop before now (EmptySet weights) = now ≡ before
CountsStop before now (Wide place trace) = now ≡ raised before
CountsStop before now Memory = before ≤ now

-- what an answer has counted of them: a refusal what is said there, any other none
abbrev pub CountsAnswer : {T : Type 0} → ℕ → ℕ → Result T Stop → Type 0
CountsAnswer before now result = MatchResult result (λ _. now ≡ before) (CountsStop before now)

-- the rows of neither program can be wide
pub record IsNarrowModel (limit : ℕ) (m : RobustModel) : Type 0 where
  pub set : IsNarrow limit (set_program m)
  pub counterpart : IsNarrow limit (counterpart m)

-- the stop isn't for a wide row
abbrev pub IsNotWide : Stop → Type 0
IsNotWide (Wide place trace) = ⊥
IsNotWide other = ⊤

-- the answer of the route for the model: a solution, or a stop with its cause; and how often wide results were counted
pub record Solves {N : Type 0} (value : N → Fraction) (limit : ℕ) (m : RobustModel) (before now : ℕ)
    (result : Result (Cert N) Stop) : Type 0 where
  pub solved : IfOk result (λ cert. IsSolution m (certificate_of value cert))
  pub stopped : IfErr result (HasCause limit m)
  -- a narrow model isn't refused for a wide row
  pub narrow : IsNarrowModel limit m → IfErr result IsNotWide
  pub counted : CountsAnswer before now result
