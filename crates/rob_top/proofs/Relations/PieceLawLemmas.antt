-- A call of `cells` and one of `solve` or `prove` on one model: what the one answer says of the other.
use Rattle.std.proofs.Common.{◌≡◌, ℕ, ℤ, List, [], refl, subst, sym}
use Rattle.rob_algebra.specs.Fraction.{Fraction}
use Rattle.rob_meaning.proofs.Scenarios.OneSetLemmas.{joint_alone_law}
use Rattle.rob_meaning.specs.Certificates.{Status, optimal, infeasible, unbounded}
use Rattle.rob_meaning.specs.Guarantee.{IsNoWorse}
use Rattle.rob_meaning.specs.Places.{0ℚ}
use Rattle.rob_meaning.specs.Proves.{HasStatus}
use Rattle.rob_meaning.specs.RobustModel.{RobustModel}
use Rattle.rob_meaning.specs.Status.{IsOptimal, IsUnbounded}
use Rattle.rob_meaning.specs.UncertaintySet.{Admits}
use Rattle.rob_pieces.proofs.PieceLemmas.{never_worse, plan_is_piece}
use Rattle.rob_pieces.specs.Cuts.{Cut}
use Rattle.rob_pieces.specs.Pieces.{IsPieceInfeasible, IsPieceUnbounded, same_in_all}
use Rattle.rob_top.proofs.Coming.SplitAnswerLemmas.{same_piece_status}
use Rattle.rob_top.specs.Calls.{Call}
use Rattle.rob_top.specs.Solved.{IsEmptySet, IsSolved}
use Rattle.rob_top.specs.Split.{IsPieced}
use Rattle.rob_top.proofs.Origins.ReadOnceLemmas.{well}

module _ (m : RobustModel) (cuts : List Cut) where
  -- where no piece has a bound no plan has one
  no_plan : IsPieceInfeasible m cuts → (status : Status) (v : Fraction) → HasStatus m status v → status ≡ infeasible
  no_plan none optimal v h =
      absurd (none (same_in_all m cuts h.attained.0) v (plan_is_piece m cuts h.attained.0 v h.attained.1))
  no_plan none infeasible v h = refl
  no_plan none unbounded v h =
      absurd (none (same_in_all m cuts (h 0ℚ).0) 0ℚ (plan_is_piece m cuts (h 0ℚ).0 0ℚ (h 0ℚ).1))

  -- where each number is a bound of a plan it is one of a piece
  each_number : IsUnbounded m → IsPieceUnbounded m cuts
  each_number h tau = (same_in_all m cuts (h tau).0, plan_is_piece m cuts (h tau).0 tau (h tau).1)

module _ (cutting solving : Call) where
  pub no_worse : (text other : List ℕ) (x : IsPieced cutting optimal text) (y : IsSolved solving optimal other)
      → x.m ≡ y.m
      → IsNoWorse x.m.sense x.c.value y.c.value
  no_worse text other x y same =
      never_worse x.m x.cuts y.c.value x.c.value (subst (λ k. IsOptimal k y.c.value) (sym same) y.holds) x.holds

  pub infeasible_too : (status : Status) (text other : List ℕ) (x : IsPieced cutting infeasible text)
      (y : IsSolved solving status other) → x.m ≡ y.m → status ≡ infeasible
  infeasible_too status text other x y same =
      no_plan x.m x.cuts x.holds status y.c.value (subst (λ k. HasStatus k status y.c.value) (sym same) y.holds)

  pub unbounded_too : (status : Status) (text other : List ℕ) (x : IsPieced cutting status text)
      (y : IsSolved solving unbounded other) → x.m ≡ y.m → status ≡ unbounded
  unbounded_too status text other x y same =
      same_piece_status x.m x.cuts status unbounded x.c.value y.c.value x.holds
      (each_number x.m x.cuts (subst (λ k. IsUnbounded k) (sym same) y.holds))

  pub one_emptiness : (status : Status) (weights : List ℤ) (text other : List ℕ) (x : IsPieced cutting status text)
      (y : IsEmptySet solving weights other) → x.m ≡ y.m → ⊥
  one_emptiness status weights text other x y same =
      let cell = x.sets.covered [] in
      let u = x.admits cell.0 cell.1.0 in
      let has = x.has.has_cuts in
      y.shown.empty u.0
      (subst (λ k. Admits k u.0) same
      ((joint_alone_law x.m (well cutting x.line x.m has.has_word.model) has.alone u.0).1 u.1.0))
