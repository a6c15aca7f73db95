-- At most one status holds over plans with whole numbers, and an optimum is one number.
use Rattle.std.specs.Prelude.{◌≡◌, ℕ, List}
use Rattle.rob_algebra.specs.Fraction.{Fraction}
use Rattle.rob_meaning.specs.Places.{0ℚ}
use Rattle.rob_meaning.specs.RobustModel.{RobustModel}
use Rattle.rob_reach.specs.WholeStatus.{IsWholeOptimal, IsWholeInfeasible, IsWholeUnbounded}
use Rattle.rob_meaning.proofs.Proving.StatusLemmas.{no_worse_both, better, not_better}

module _ (m : RobustModel) (names : List ℕ) where
  pub one_optimum : (v w : Fraction) → IsWholeOptimal m names v → IsWholeOptimal m names w → v ≡ w
  one_optimum v w h k =
      no_worse_both m.sense v w (h.none_better k.attained.0 w k.attained.1) (k.none_better h.attained.0 v h.attained.1)

  pub optimal_not_infeasible : (v : Fraction) → IsWholeOptimal m names v → IsWholeInfeasible m names → ⊥
  optimal_not_infeasible v h none = none h.attained.0 v h.attained.1

  pub optimal_not_unbounded : (v : Fraction) → IsWholeOptimal m names v → IsWholeUnbounded m names → ⊥
  optimal_not_unbounded v h all =
      not_better m.sense v (h.none_better (all (better m.sense v)).0 (better m.sense v) (all (better m.sense v)).1)

  pub infeasible_not_unbounded : IsWholeInfeasible m names → IsWholeUnbounded m names → ⊥
  infeasible_not_unbounded none all = none (all 0ℚ).0 0ℚ (all 0ℚ).1
