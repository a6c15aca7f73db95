-- What a walk along the leaves of a node finds.
use Rattle.std.specs.Prelude.{◌≡◌, ℕ, ◌+◌, ◌<◌, Option, Some, None}
use Rattle.rob_algebra.specs.Fraction.{Fraction}
use Rattle.rob_cert.specs.View.{certificate_of}
use Rattle.rob_meaning.specs.Certificates.{Certificate}
use Rattle.rob_meaning.specs.RobustModel.{RobustModel}
use Rattle.rob_reach.specs.Trees.{Node, Leaf, leaves, leaf_count}
use Rattle.rob_reach.specs.Verdicts.{leaf_at}
use Rattle.rob_tree.specs.declared.walk.Walk.{Walk}
use Rattle.rob_tree.specs.declared.walk.Walk.TheVariants as walk

-- for any box, the node's leaf of the number is there and has that certificate, or is open
abbrev pub LeafHas : Node → ℕ → Option Certificate → Type 0
LeafHas n i o = (box : RobustModel) → (l : Leaf) × (leaf_at (leaves box n) i ≡ Some l) × (l.certificate ≡ o)

-- it has the certificate; or it is open; or there are fewer leaves, and so many are left
abbrev pub IsWalk : {N : Type 0} → (N → Fraction) → Node → ℕ → Walk N → Type 0
IsWalk of n i (walk.Here cert) = LeafHas n i (Some (certificate_of of cert.now))
IsWalk of n i walk.Open = LeafHas n i None
IsWalk of n i (walk.Behind left) = (i ≡ leaf_count n + left) × (0 < left)
