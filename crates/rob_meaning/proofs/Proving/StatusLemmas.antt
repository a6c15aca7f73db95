-- At most one status holds, and an optimum is one number.
use Rattle.std.specs.Prelude.{◌≡◌, pos, List, [], ◌∷◌, refl}
use Rattle.std.proofs.Common.{subst}
use Rattle.rob_algebra.specs.Fraction.{Fraction, ◌+ℚ◌, ◌-ℚ◌}
use Rattle.rob_algebra.specs.FractionOrderLaws as Q
use Rattle.rob_algebra.specs.Polynomials.{lit, ◌:+◌, ◌:-◌, v0}
use Rattle.rob_meaning.proofs.Lists.LinearLemmas.{zero_lt_one}
use Rattle.rob_meaning.specs.Guarantee.{HasWorstCase, HasBound, IsNoWorse, KeepsIn}
use Rattle.rob_meaning.specs.Places.{0ℚ, 1ℚ}
use Rattle.rob_meaning.specs.RobustModel.{RobustModel, Sense, maximise, minimise}
use Rattle.rob_meaning.specs.Status.{IsInfeasible, IsOptimal, IsUnbounded}
use Rattle.rob_meaning.specs.UncertaintySet.{AdmitsIn, in_each_set}
use Rattle.rob_meaning.specs.Values.{value}
use Rattle.rob_meaning.specs.WellFormed.{IsModel}

pub no_worse_both : (sense : Sense) (a b : Fraction) → IsNoWorse sense a b → IsNoWorse sense b a → a ≡ b
no_worse_both minimise a b h k = Q.le_antisym_ℚ a b h k
no_worse_both maximise a b h k = Q.le_antisym_ℚ a b k h

pub no_worse_refl : (sense : Sense) (a : Fraction) → IsNoWorse sense a a
no_worse_refl minimise a = Q.le_refl_ℚ a
no_worse_refl maximise a = Q.le_refl_ℚ a

pub no_worse_trans : (sense : Sense) (a b c : Fraction) → IsNoWorse sense a b → IsNoWorse sense b c →
    IsNoWorse sense a c
no_worse_trans minimise a b c h k = Q.le_trans_ℚ a b c h k
no_worse_trans maximise a b c h k = Q.le_trans_ℚ c b a k h

-- a better number
pub better : Sense → Fraction → Fraction
better minimise v = v -ℚ 1ℚ
better maximise v = v +ℚ 1ℚ

pub not_better : (sense : Sense) (v : Fraction) → IsNoWorse sense v (better sense v) → ⊥
unfolding better
not_better minimise v h =
    Q.not_lt_ℚ v (v -ℚ 1ℚ) h (Q.lt_from (v ∷ []) (v0 :- lit (pos 1)) v0 (lit (pos 1)) refl zero_lt_one)
not_better maximise v h =
    Q.not_lt_ℚ (v +ℚ 1ℚ) v h (Q.lt_from (v ∷ []) v0 (v0 :+ lit (pos 1)) (lit (pos 1)) refl zero_lt_one)

pub one_optimum : (m : RobustModel) (v w : Fraction) → IsOptimal m v → IsOptimal m w → v ≡ w
one_optimum m v w h k =
    no_worse_both m.sense v w (h.none_better k.attained.0 w k.attained.1) (k.none_better h.attained.0 v h.attained.1)

pub optimal_not_infeasible : (m : RobustModel) (v : Fraction) → IsOptimal m v → IsInfeasible m → ⊥
optimal_not_infeasible m v h none = none h.attained.0 v h.attained.1

pub optimal_not_unbounded : (m : RobustModel) (v : Fraction) → IsOptimal m v → IsUnbounded m → ⊥
optimal_not_unbounded m v h all =
    not_better m.sense v (h.none_better (all (better m.sense v)).0 (better m.sense v) (all (better m.sense v)).1)

pub infeasible_not_unbounded : (m : RobustModel) → IsInfeasible m → IsUnbounded m → ⊥
infeasible_not_unbounded m none all = none (all 0ℚ).0 0ℚ (all 0ℚ).1

-- a worse number is a bound too
pub bound_weakens : (m : RobustModel) (plan : List Fraction) (v tau : Fraction) → IsNoWorse m.sense v tau →
    HasBound m plan v → HasBound m plan tau
bound_weakens m plan v tau h b =
    record {
      columns = b.columns;
      keeps = λ S some u admitted.
          (let k : KeepsIn m plan v S u = b.keeps S some u admitted in
          record {
            objective = λ e. no_worse_trans m.sense _ v tau (k.objective e) h;
            rows = k.rows;
            adaptives = k.adaptives;
          });
      variables = b.variables;
    }

-- a bound that is the optimum is its plan's worst case
pub optimum_is_worst_case : (m : RobustModel) (plan : List Fraction) (v : Fraction) → IsOptimal m v →
    HasBound m plan v →
    HasWorstCase m plan v
optimum_is_worst_case m plan v h b = record { bound = b; none_better = λ tau k. h.none_better plan tau k }

-- a bound that the objective attains in a scenario that its set admits is the plan's worst case
pub attained_is_worst_case : (m : RobustModel) (plan u : List Fraction) (v : Fraction) → IsModel m → HasBound m plan v →
    AdmitsIn m m.objective_set u →
    value m plan (in_each_set m u) m.objective ≡ v → HasWorstCase m plan v
attained_is_worst_case m plan u v model b admitted e =
    record {
      bound = b;
      none_better = λ tau k.
          subst (λ x. IsNoWorse m.sense x tau) e
          ((k.keeps m.objective_set model.own_objective.0 u admitted).objective refl);
    }

-- a plan has one worst case
pub one_worst_case : (m : RobustModel) (plan : List Fraction) (v w : Fraction) → HasWorstCase m plan v →
    HasWorstCase m plan w → v ≡ w
one_worst_case m plan v w h k =
    no_worse_both m.sense v w (h.none_better w k.bound) (k.none_better v h.bound)
