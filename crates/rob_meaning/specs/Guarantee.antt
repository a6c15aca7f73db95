-- What a plan guarantees, set by set: every row in every scenario that its set admits, every declared bound, and how
-- bad the objective can be. This is the robust counterpart, directly over all scenarios. Ben-Tal, El Ghaoui,
-- Nemirovski, Robust Optimization (2009), chapter 1; affine decision rules: chapter 14.
use Rattle.std.specs.Prelude.{◌≡◌, ◌<◌, ℕ, zero, List, length}
use Rattle.rob_algebra.specs.Fraction.{Fraction, ◌≤ℚ◌}
use Rattle.rob_meaning.specs.Places.{at, EachFrom}
use Rattle.rob_meaning.specs.RobustModel.{Sense, minimise, maximise, Variable, AdaptiveVariable, Row, RobustModel, set_count, row_set, column_count}
use Rattle.rob_meaning.specs.UncertaintySet.{Relates, KeepsBounds, in_each_set, AdmitsIn}
use Rattle.rob_meaning.specs.Values.{value, rule_value}

-- the first number is no worse than the second: at most it for minimise, at least it for maximise
abbrev pub IsNoWorse : Sense → Fraction → Fraction → Type 0
IsNoWorse minimise a b = a ≤ℚ b
IsNoWorse maximise a b = b ≤ℚ a

-- what a plan keeps in one scenario of set S: each row of that set; an objective no worse than tau, where it is of that
-- set; and each declared bound of an adaptive variable, where that is the default set
pub record KeepsIn (m : RobustModel) (plan : List Fraction) (tau : Fraction) (S : ℕ) (u : List Fraction) : Type 0 where
  pub objective : m.objective_set ≡ S → IsNoWorse m.sense (value m plan (in_each_set m u) m.objective) tau
  pub rows :
      EachFrom zero
      (λ i (r : Row). row_set m i ≡ S →
      Relates r.relation (value m plan (in_each_set m u) r.left) (value m plan (in_each_set m u) r.right))
      m.rows
  pub adaptives :
      0 ≡ S →
      EachFrom zero (λ k (y : AdaptiveVariable). KeepsBounds y.lower y.upper (rule_value m plan (in_each_set m u) k))
      m.adaptives

-- the plan has bound tau: it has a number for each decision column, keeps all that in every scenario that a set admits,
-- and keeps each declared bound of a variable
pub record HasBound (m : RobustModel) (plan : List Fraction) (tau : Fraction) : Type 0 where
  pub columns : length plan ≡ column_count m
  pub keeps : (S : ℕ) → S < set_count m → (u : List Fraction) → AdmitsIn m S u → KeepsIn m plan tau S u
  pub variables : EachFrom zero (λ k (x : Variable). KeepsBounds x.lower x.upper (at plan k)) m.variables

-- v is the plan's worst case: it is a bound of the plan, and no better number is one
pub record HasWorstCase (m : RobustModel) (plan : List Fraction) (v : Fraction) : Type 0 where
  pub bound : HasBound m plan v
  pub none_better : (tau : Fraction) → HasBound m plan tau → IsNoWorse m.sense v tau
