-- A certificate of a box has the shape of the model, so a tree's text is written with the names of the model.
use Rattle.std.proofs.Common.{ℕ, ◌<◌, ◌≤◌, List, [], ◌∷◌, length, T, sym, subst, arith, inl, inr}
use Rattle.std.specs.Prelude.{pos, ◌+ℤ◌, true, false}
use Rattle.rob_cert.specs.Shape.{HasShape}
use Rattle.rob_meaning.proofs.Lists.EachLemmas.{each_left, each_right}
use Rattle.rob_meaning.proofs.Naming.NameLemmas.{length-column_names}
use Rattle.rob_meaning.proofs.Tables.TauLemmas.{column_grows}
use Rattle.rob_meaning.specs.Certificates.{Certificate}
use Rattle.rob_meaning.specs.Names.{column_names}
use Rattle.rob_meaning.specs.Places.{Each}
use Rattle.rob_meaning.specs.RobustModel.{RobustModel, column_count}
use Rattle.rob_reach.proofs.NameLemmas.{column_names-behind}
use Rattle.rob_reach.proofs.RangeLemmas.{all_inside, bounded_in, changes_bounded}
use Rattle.rob_reach.specs.Boxes.{Branch, behind, box_below, box_above, at_most_branch, at_least_branch}
use Rattle.rob_reach.specs.Ranges.{are_bounded, is_bounded}
use Rattle.rob_reach.specs.Trees.{Node, leaf, split, left_open, leaves, BranchesOn, IsIn}
use Rattle.rob_tree.proofs.BoxShapes.MovedShapes.{flipped, same_behind, shape_moves}
use Rattle.rob_tree.specs.Shape.{BranchesFit, IsShaped, IsTreeOf}
use Rattle.rob_tree.specs.TreeText.{IsSpelledWith}
use Rattle.rob_reach.specs.Trees as trees

module _ (m : RobustModel) (b : Branch) (bounded : T (is_bounded m.variables b.variable)) where
  -- the shape of a box's certificate is that of the model's
  pub shape_out : (c : Certificate) → HasShape (behind m b) c → HasShape m c
  shape_out c h = shape_moves (behind m b) m (flipped m (behind m b) (same_behind m b bounded)) c h

  pub spelled_out : (limit : ℕ) (node : Node) → IsSpelledWith limit (behind m b) node → IsSpelledWith limit m node
  spelled_out limit (leaf c) h = shape_out c h
  spelled_out limit (split j k below above) h = (
    subst (λ names. j < length names) (column_names-behind m b) h.0,
    h.1,
    spelled_out limit below h.2,
    spelled_out limit above h.3,
  )
  spelled_out limit left_open h = tt

-- what holds of each holds of one that is among them
pub in_each : (P : ℕ → Type 0) (names : List ℕ) (j : ℕ) → IsIn j names → Each P names → P j
in_each P [] j h all = absurd h
in_each P (i ∷ names) j (inl e) all = subst P (sym e) all.0
in_each P (i ∷ names) j (inr h) all = in_each P names j h all.1

-- a named variable is a column
pub column_inside : (m : RobustModel) (names : List ℕ) (j : ℕ) → T (are_bounded m.variables names) → IsIn j names
    → j < length (column_names m)
column_inside m names j bounded named =
    let inside : j < length m.variables =
    in_each (λ i. i < length m.variables) names j named (all_inside m.variables names bounded) in
    let grows : length m.variables ≤ column_count m = column_grows (length m.variables) m.adaptives in
    subst (λ n. j < n) (sym (length-column_names m)) (omega arith)

pub spelled : (limit : ℕ) (m : RobustModel) (names : List ℕ) → T (are_bounded m.variables names)
    → (node : Node) → BranchesOn names node
    → Each IsShaped (leaves m node) → BranchesFit limit node → IsSpelledWith limit m node
spelled limit m names bounded (leaf c) on shaped fits = shaped.0
spelled limit m names bounded (split j k below above) on shaped fits = (
  column_inside m names j bounded on.0,
  fits.0.0,
  spelled_out m (at_most_branch j k) (bounded_in m.variables names j on.0 bounded) limit below
      (spelled limit (box_below m j k) names (changes_bounded true k j m.variables names bounded) below on.1
      (each_left IsShaped (leaves (box_below m j k) below) (leaves (box_above m j k) above) shaped) fits.1),
  spelled_out m (at_least_branch j k) (bounded_in m.variables names j on.0 bounded) limit above
      (spelled limit (box_above m j k) names (changes_bounded false (k +ℤ pos 1) j m.variables names bounded) above on.2
      (each_right IsShaped (leaves (box_below m j k) below) (leaves (box_above m j k) above) shaped) fits.2),
)
spelled limit m names bounded left_open on shaped fits = tt

pub tree_spelled : (limit : ℕ) (m : RobustModel) (t : trees.Tree) → IsTreeOf limit m t → IsSpelledWith limit m t.root
tree_spelled limit m t h = spelled limit m h.names h.bounded t.root h.shape.tree.on_names h.shape.shaped h.shape.numbers
