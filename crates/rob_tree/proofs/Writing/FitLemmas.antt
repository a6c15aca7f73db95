-- The numbers of a tree that a program holds fit, and so does the number of the leaf that shows its status.
use Rattle.std.proofs.Common.{ℕ, ◌≤◌, List, arith}
use Rattle.std.specs.Prelude.{Result, Ok}
use Rattle.rob_algebra.specs.Fraction.{Fraction}
use Rattle.rob_algebra.specs.Width.{Fits}
use Rattle.rob_cert.proofs.Writing.FitLemmas.{answer_fits}
use Rattle.rob_cert.specs.declared.certificate.Cert.{Cert}
use Rattle.rob_meaning.specs.Certificates.{Status, optimal, infeasible, unbounded}
use Rattle.rob_meaning.specs.RobustModel.{RobustModel}
use Rattle.rob_reach.proofs.GrowingLemmas.{leaves-branches}
use Rattle.rob_reach.specs.Trees as trees
use Rattle.rob_reach.specs.Verdicts.{KeepsBest}
use Rattle.rob_tree.specs.ClaimLines.{greatest_leaf}
use Rattle.rob_tree.specs.Reading.{NodeFits, TreeFits}
use Rattle.rob_tree.specs.Shape.{HasTreeShape, KeepsParts}
use Rattle.rob_tree.specs.View.{node_of, tree_of}
use Rattle.rob_tree.specs.declared.tree.Node.{Node, Leaf, Split', Open}
use Rattle.rob_tree.specs.declared.tree.Tree.{Tree}

-- a tree has fewer than 1,000 branches, so its leaves have such numbers at any width
pub best_within : (limit : ℕ) (m : RobustModel) (names : List ℕ) (t : trees.Tree) → HasTreeShape limit m names t
    → t.best ≤ greatest_leaf
best_within limit m names t h = by t.status h.tree.best h.parts
  where
    by : (s : Status) → KeepsBest s t.best (trees.leaf_count t.root) → KeepsParts s t.value t.best
        → t.best ≤ greatest_leaf
    by optimal keeps parts = omega (arith, keeps.1, h.tree.few, leaves-branches t.root)
    by infeasible keeps parts = omega (arith, parts.1)
    by unbounded keeps parts = omega (arith, keeps.1, h.tree.few, leaves-branches t.root)

module _ {N : Type 0} (value : N → Fraction) (limit : ℕ) (fits : (x : N) → Fits limit (value x)) (m : RobustModel) where
  node_fit : (n : Node N) → NodeFits limit m (node_of value n)
  node_fit (Leaf cert) =
      let found : Result (Cert N) ℕ = Ok cert in answer_fits value limit fits m found
  node_fit (Split' column k p below q above) = (node_fit below, node_fit above)
  node_fit Open = tt

  pub tree_fits : (names : List ℕ) (t : Tree N) → HasTreeShape limit m names (tree_of value t)
      → TreeFits limit m (tree_of value t)
  tree_fits names t h = record {
    value = fits t.value;
    best = best_within limit m names (tree_of value t) h;
    root = node_fit t.root;
  }
