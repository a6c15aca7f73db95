-- When a model whose named variables take whole numbers is optimal at a value, infeasible, or unbounded.
-- Nemhauser, Wolsey, Integer and Combinatorial Optimization (1988), chapter I.1: mixed-integer programs.
use Rattle.std.specs.Prelude.{ℕ, List}
use Rattle.rob_algebra.specs.Fraction.{Fraction}
use Rattle.rob_meaning.specs.Certificates.{Status, optimal, infeasible, unbounded}
use Rattle.rob_meaning.specs.Guarantee.{IsNoWorse, HasBound}
use Rattle.rob_meaning.specs.Places.{at, Each}
use Rattle.rob_meaning.specs.RobustModel.{RobustModel}
use Rattle.rob_reach.specs.WholeNumbers.{IsWhole}

-- each named variable has a whole number in the plan
abbrev pub IsWholeOn : List ℕ → List Fraction → Type 0
IsWholeOn names plan = Each (λ k. IsWhole (at plan k)) names

-- the plan has bound tau, and whole numbers for the named variables
pub record WholeBound (m : RobustModel) (names : List ℕ) (plan : List Fraction) (tau : Fraction) : Type 0 where
  pub bound : HasBound m plan tau
  pub whole : IsWholeOn names plan

-- the model is optimal at v over such plans: one has bound v, and none has a better one
pub record IsWholeOptimal (m : RobustModel) (names : List ℕ) (v : Fraction) : Type 0 where
  pub attained : (plan : List Fraction) × WholeBound m names plan v
  pub none_better : (plan : List Fraction) (tau : Fraction) → WholeBound m names plan tau → IsNoWorse m.sense v tau

-- no such plan has any bound
abbrev pub IsWholeInfeasible : RobustModel → List ℕ → Type 0
IsWholeInfeasible m names = (plan : List Fraction) (tau : Fraction) → WholeBound m names plan tau → ⊥

-- every number is a bound of some such plan
abbrev pub IsWholeUnbounded : RobustModel → List ℕ → Type 0
IsWholeUnbounded m names = (tau : Fraction) → (plan : List Fraction) × WholeBound m names plan tau

-- the model has the status over such plans, with v as its value where it is optimal
abbrev pub HasWholeStatus : RobustModel → List ℕ → Status → Fraction → Type 0
HasWholeStatus m names optimal v = IsWholeOptimal m names v
HasWholeStatus m names infeasible v = IsWholeInfeasible m names
HasWholeStatus m names unbounded v = IsWholeUnbounded m names
