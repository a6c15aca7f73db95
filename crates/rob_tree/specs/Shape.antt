-- When a tree has its shape: it keeps what its text keeps, each certificate has the shape of its box, and the parts
-- that its status does not use say nothing.
use Rattle.std.specs.Prelude.{◌≡◌, ◌≢◌, ◌≤◌, ℕ, pos, nat_abs, List, IfSome}
use Rattle.rob_algebra.specs.Fraction.{Fraction}
use Rattle.rob_cert.specs.Shape.{HasShape}
use Rattle.rob_meaning.specs.Certificates.{Status, optimal, infeasible, unbounded}
use Rattle.rob_meaning.specs.Places.{0ℚ, Each}
use Rattle.rob_meaning.specs.RobustModel.{RobustModel}
use Rattle.rob_reach.specs.Ranges.{KeepsBothBounds}
use Rattle.rob_reach.specs.Trees.{Node, leaf, split, left_open, Tree, Leaf, leaves}
use Rattle.rob_reach.specs.Verdicts.{IsTree}

-- the certificate of a leaf that isn't open has the shape of its box
abbrev pub IsShaped : Leaf → Type 0
IsShaped l = IfSome l.certificate (HasShape l.box)

-- each K, and K + 1, is within the limit
abbrev pub BranchesFit : ℕ → Node → Type 0
BranchesFit limit (leaf c) = Unit {0}
BranchesFit limit (split j k below above) =
    ((nat_abs k ≤ limit) × (k ≢ pos limit)) × BranchesFit limit below × BranchesFit limit above
BranchesFit limit left_open = Unit {0}

-- where there is no optimum the value is 0, and where no leaf shows the status its number is 0
abbrev pub KeepsParts : Status → Fraction → ℕ → Type 0
KeepsParts optimal value best = Unit {0}
KeepsParts infeasible value best = (value ≡ 0ℚ) × (best ≡ 0)
KeepsParts unbounded value best = value ≡ 0ℚ

-- the tree has its shape for the model and the named variables
pub record HasTreeShape (limit : ℕ) (m : RobustModel) (names : List ℕ) (t : Tree) : Type 0 where
  pub tree : IsTree names t
  pub shaped : Each IsShaped (leaves m t.root)
  pub numbers : BranchesFit limit t.root
  pub parts : KeepsParts t.status t.value t.best

-- the tree has its shape for some variables with both bounds
pub record IsTreeOf (limit : ℕ) (m : RobustModel) (t : Tree) : Type 0 where
  pub names : List ℕ
  pub bounded : KeepsBothBounds m names
  pub shape : HasTreeShape limit m names t
