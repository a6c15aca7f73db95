-- The conditions of the uncertainty set one by one, each taken s times: its constants are multiplied by s. Taken once
-- they say what admission says; taken 0 times they make a ray, a direction in which the set goes on without end. A
-- vector with an s at least 0 that meets them is in the cone over the set. Rockafellar, Convex Analysis (1970), section
-- 8: recession directions, and the cone over a convex set.
use Rattle.std.specs.Prelude.{◌≡◌, ℕ, zero, suc, List, [], ◌∷◌, ◌++◌, length, Option, Some, None, ◌⊎◌}
use Rattle.rob_algebra.specs.Fraction.{Fraction, ◌+ℚ◌, ◌-ℚ◌, ◌*ℚ◌, ◌/ℚ◌, inv_ℚ, ◌≤ℚ◌, ◌<ℚ◌}
use Rattle.rob_meaning.specs.Expressions.{Expression}
use Rattle.rob_meaning.specs.Places.{0ℚ, at, Each}
use Rattle.rob_meaning.specs.RobustModel.{Parameter, Member, SetLine, line, budget, RobustModel}
use Rattle.rob_meaning.specs.UncertaintySet.{abs_ℚ, Relates, Admits}
use Rattle.rob_meaning.specs.Values.{value}
use Rattle.rob_meaning.specs.Vectors.{scale}

-- a set condition: a declared bound of a parameter, or a statement on the set
pub data SetCondition : Type 0 where
  lower_bound : (parameter : ℕ) (bound : Fraction) → SetCondition
  upper_bound : (parameter : ℕ) (bound : Fraction) → SetCondition
  stated : SetLine → SetCondition

-- what stands for a declared bound, or nothing where none is declared
abbrev pub if_declared : {A : Type 0} → (Fraction → A) → Option Fraction → List A
if_declared f None = []
if_declared f (Some b) = f b ∷ []

-- the declared bounds of parameter `k`, lower before upper
abbrev pub bounds_of : ℕ → Parameter → List SetCondition
bounds_of k p = if_declared (lower_bound k) p.lower ++ if_declared (upper_bound k) p.upper

-- the declared bounds of the parameters from number `k` on
abbrev pub bounds_from : ℕ → List Parameter → List SetCondition
bounds_from k [] = []
bounds_from k (p ∷ ps) = bounds_of k p ++ bounds_from (suc k) ps

-- the statements as conditions
abbrev pub all_stated : List SetLine → List SetCondition
all_stated [] = []
all_stated (c ∷ cs) = stated c ∷ all_stated cs

-- the set conditions in order: the declared bounds of the parameters, then the statements
abbrev pub set_conditions : RobustModel → List SetCondition
set_conditions m = bounds_from zero m.parameters ++ all_stated m.set_lines

module _ (m : RobustModel) (s : Fraction) (p : List Fraction) where
  -- an expression taken s times: e(p) - e(0) + s e(0)
  abbrev pub taken : Expression → Fraction
  taken e = value m [] p e -ℚ value m [] [] e +ℚ s *ℚ value m [] [] e

  -- a member's scaled deviation, its centre taken s times: |p_k - s c_k| / h_k
  abbrev pub taken_deviation : Member → Fraction
  taken_deviation h = abs_ℚ (at p h.parameter -ℚ s *ℚ h.centre) /ℚ h.deviation

  -- the sum of these over the members
  abbrev pub total_taken : List Member → Fraction
  total_taken [] = 0ℚ
  total_taken (h ∷ hs) = taken_deviation h +ℚ total_taken hs

  -- a set condition, taken s times, holds at p
  abbrev pub Holds : SetCondition → Type 0
  Holds (lower_bound k l) = s *ℚ l ≤ℚ at p k
  Holds (upper_bound k b) = at p k ≤ℚ s *ℚ b
  Holds (stated (line left relation right)) = Relates relation (taken left) (taken right)
  Holds (stated (budget limit members)) = total_taken members ≤ℚ s *ℚ limit

-- the vector has a number for each parameter, and each set condition, taken s times, holds at it
pub record Meets (m : RobustModel) (s : Fraction) (p : List Fraction) : Type 0 where
  pub numbers : length p ≡ length m.parameters
  pub conditions : Each (Holds m s p) (set_conditions m)

-- the direction meets the set conditions with each constant replaced by 0
abbrev pub IsRay : RobustModel → List Fraction → Type 0
IsRay m r = Meets m 0ℚ r

-- the vector is s times an admitted scenario, or, where s is 0, a ray
abbrev pub IsTaken : RobustModel → Fraction → List Fraction → Type 0
IsTaken m s p = ((0ℚ <ℚ s) × Admits m (scale (inv_ℚ s) p)) ⊎ ((s ≡ 0ℚ) × IsRay m p)
