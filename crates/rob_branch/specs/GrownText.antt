-- The text of a tree that has grown: it is read as that tree alone.
use Rattle.std.specs.Prelude.{◌≡◌, ℕ, List}
use Rattle.rob_algebra.specs.Width.{Fits}
use Rattle.rob_meaning.specs.Places.{Each}
use Rattle.rob_meaning.specs.RobustModel.{RobustModel}
use Rattle.rob_reach.specs.Growing.{IsGrown}
use Rattle.rob_reach.specs.Trees.{Tree, leaves}
use Rattle.rob_tree.specs.Reading.{HasCause, NodeFits, TreeFits}
use Rattle.rob_tree.specs.Shape.{BranchesFit, IsShaped}
use Rattle.rob_tree.specs.TreeText.{IsTextOfTree, tree_text}
use Rattle.rob_tree.specs.declared.error.TreeErr.TheVariants.{Rule}

-- the tree has grown, its certificates have the shape of their boxes, and its numbers fit: the value, each K and K + 1,
-- and those of the certificates
pub record IsGrownWithin (limit : ℕ) (m : RobustModel) (names : List ℕ) (t : Tree) : Type 0 where
  pub grown : IsGrown m names t
  pub shaped : Each IsShaped (leaves m t.root)
  pub value : Fits limit t.value
  pub branches : BranchesFit limit t.root
  pub certificates : NodeFits limit m t.root

-- the tree has a text that breaks no rule and is that of no other tree with numbers that fit
pub record IsReadAgain (limit : ℕ) (m : RobustModel) (names : List ℕ) (t : Tree) : Type 0 where
  pub text : IsTextOfTree limit m names t (tree_text m t)
  pub fits : TreeFits limit m t
  pub breaks_none : (rule line : ℕ) → HasCause limit m names (tree_text m t) (Rule rule line) → ⊥
  pub alone : (u : Tree) → IsTextOfTree limit m names u (tree_text m t) → TreeFits limit m u → u ≡ t
