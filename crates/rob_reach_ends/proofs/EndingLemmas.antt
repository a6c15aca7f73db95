-- Each box has a scenario and so a certificate; so a tree grows, and there is a status.
use Rattle.std.specs.Prelude.{ℕ, List, ◌⊎◌}
use Rattle.std.proofs.Common.{inl, inr}
use Rattle.rob_algebra.specs.Fraction.{Fraction}
use Rattle.rob_counterpart.proofs.Proving.CompletenessLemmas.{some_certificate}
use Rattle.rob_meaning.specs.Certificates.{Status, optimal, infeasible, unbounded}
use Rattle.rob_meaning.specs.RobustModel.{RobustModel}
use Rattle.rob_meaning.specs.UncertaintySet.{Admits}
use Rattle.rob_meaning.specs.WellFormed.{IsModel}
use Rattle.rob_reach.proofs.BoxLemmas.{path_model, path_admits}
use Rattle.rob_reach.proofs.GrownLemmas.{grown, grown_true}
use Rattle.rob_reach.specs.Boxes.{box}
use Rattle.rob_reach.specs.Growing.{IsGrown, Solves}
use Rattle.rob_reach.specs.Ranges.{KeepsBothBounds}
use Rattle.rob_reach.specs.Trees.{Tree}
use Rattle.rob_reach.specs.WholeStatus.{IsWholeInfeasible, IsWholeOptimal, IsWholeUnbounded, HasWholeStatus}

module _ (m : RobustModel) (model : IsModel m) (inside : List Fraction) (admitted : Admits m inside) where
  pub solves : Solves m
  solves path =
      let c = some_certificate (box m path) (path_model m path model) inside ((path_admits m path inside).1 admitted) in
      (c.0, c.2)

  pub tree_grows : (names : List ℕ) → KeepsBothBounds m names → (t : Tree) × IsGrown m names t
  tree_grows names bounded = grown m model names bounded solves

  pub whole_status : (names : List ℕ) → KeepsBothBounds m names →
      ((v : Fraction) × IsWholeOptimal m names v) ⊎ (IsWholeInfeasible m names ⊎ IsWholeUnbounded m names)
  whole_status names bounded = by (tree_grows names bounded)
    where
      by_status : (s : Status) (v : Fraction) → HasWholeStatus m names s v →
          ((v : Fraction) × IsWholeOptimal m names v) ⊎ (IsWholeInfeasible m names ⊎ IsWholeUnbounded m names)
      by_status optimal v h = inl (v, h)
      by_status infeasible v h = inr (inl h)
      by_status unbounded v h = inr (inr h)

      by : (t : Tree) × IsGrown m names t →
          ((v : Fraction) × IsWholeOptimal m names v) ⊎ (IsWholeInfeasible m names ⊎ IsWholeUnbounded m names)
      by g = by_status g.0.status g.0.value (grown_true m names g.0 g.1 model bounded)
