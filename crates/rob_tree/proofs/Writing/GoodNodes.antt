-- What is asked of a tree, and what is read of the lines of its nodes, are the same.
use Rattle.std.proofs.Common.{◌≡◌, ℕ, ◌<◌, List, [], ◌∷◌, T, length, inl, inr, refl, subst, ◌∙◌}
use Rattle.std.specs.Prelude.{ℤ, pos, ◌+ℤ◌, true, false}
use Rattle.rob_meaning.proofs.Lists.EachLemmas.{each_append, each_left, each_right}
use Rattle.rob_meaning.specs.Certificates.{Status, optimal, infeasible, unbounded}
use Rattle.rob_meaning.specs.Names.{column_names}
use Rattle.rob_meaning.specs.Places.{Each}
use Rattle.rob_meaning.specs.RobustModel.{RobustModel}
use Rattle.rob_reach.proofs.RangeLemmas.{bounded_in, changes_bounded}
use Rattle.rob_reach.specs.Boxes.{box_below, box_above, at_most_branch, at_least_branch}
use Rattle.rob_reach.specs.Ranges.{are_bounded}
use Rattle.rob_reach.specs.Trees.{Node, leaf, split, left_open, Tree, leaves, BranchesOn, IsIn, branch_count, leaf_count}
use Rattle.rob_reach.specs.Verdicts.{IsClosed, KeepsBest, KeepsOpen}
use Rattle.rob_tree.proofs.BoxShapes.SpelledLemmas.{column_inside}
use Rattle.rob_tree.proofs.BoxShapes.MovedShapes.{HasCountsOf, flipped, same_behind, same_self, same_through, shape_moves}
use Rattle.rob_tree.specs.Parts.{IsGoodNode}
use Rattle.rob_tree.specs.Reading.{NodeFits}
use Rattle.rob_tree.specs.Shape.{BranchesFit, HasTreeShape, IsShaped, KeepsParts}

-- each named variable has a column
pub columns_inside : (m : RobustModel) (names : List ℕ) → T (are_bounded m.variables names)
    → Each (λ j. j < length (column_names m)) names
columns_inside m names bounded = all_in names (λ j h. column_inside m names j bounded h)
  where
    all_in : (js : List ℕ) → ((j : ℕ) → IsIn j js → j < length (column_names m))
        → Each (λ j. j < length (column_names m)) js
    all_in [] f = tt
    all_in (j ∷ js) f = (f j (inl refl), all_in js (λ i h. f i (inr h)))

-- ---- open leaves
open_in : (s : Status) → KeepsOpen s left_open → s ≡ unbounded
open_in optimal h = absurd h
open_in infeasible h = absurd h
open_in unbounded h = refl

open_both : (s : Status) (j : ℕ) (k : ℤ) (a b : Node) → KeepsOpen s (split j k a b) → KeepsOpen s a × KeepsOpen s b
open_both optimal j k a b h = h
open_both infeasible j k a b h = h
open_both unbounded j k a b h = (tt, tt)

module _ (limit : ℕ) (m : RobustModel) (names : List ℕ) (status : Status) where
  -- a node whose certificates have the shape of their boxes is a good one
  pub good_in : (box : RobustModel) (n : Node) → HasCountsOf m box → T (are_bounded box.variables names)
      → BranchesOn names n → BranchesFit limit n
      → Each IsShaped (leaves box n) → NodeFits limit m n → KeepsOpen status n → IsGoodNode limit m names status n
  good_in box (leaf c) same bounded on fits shaped fit keeps = (shape_moves box m (flipped m box same) c shaped.0, fit)
  good_in box left_open same bounded on fits shaped fit keeps = open_in status keeps
  good_in box (split j k a b) same bounded on fits shaped fit keeps =
      let keep = open_both status j k a b keeps in
      let inside = bounded_in box.variables names j on.0 bounded in (
        on.0,
        fits.0.0,
        fits.0.1,
        good_in (box_below box j k) a
            (same_through m box (box_below box j k) same (same_behind box (at_most_branch j k) inside))
            (changes_bounded true k j box.variables names bounded) on.1 fits.1
            (each_left IsShaped (leaves (box_below box j k) a) (leaves (box_above box j k) b) shaped) fit.0 keep.0,
        good_in (box_above box j k) b
            (same_through m box (box_above box j k) same (same_behind box (at_least_branch j k) inside))
            (changes_bounded false (k +ℤ pos 1) j box.variables names bounded) on.2 fits.2
            (each_right IsShaped (leaves (box_below box j k) a) (leaves (box_above box j k) b) shaped) fit.1 keep.1,
      )

  pub good_tree : (t : Tree) → t.status ≡ status → T (are_bounded m.variables names) → HasTreeShape limit m names t
      → NodeFits limit m t.root
      → IsGoodNode limit m names status t.root
  good_tree t is bounded h fit =
      good_in m t.root (same_self m) bounded h.tree.on_names h.numbers h.shaped fit
      (subst (λ s. KeepsOpen s t.root) is h.tree.closed)

  -- and of a good node all of it is so
  on_names : (n : Node) → IsGoodNode limit m names status n → BranchesOn names n
  on_names (leaf c) h = tt
  on_names left_open h = tt
  on_names (split j k a b) h = (h.0, on_names a h.3, on_names b h.4)

  numbers : (n : Node) → IsGoodNode limit m names status n → BranchesFit limit n
  numbers (leaf c) h = tt
  numbers left_open h = tt
  numbers (split j k a b) h = ((h.1, h.2), numbers a h.3, numbers b h.4)

  pub node_fits : (n : Node) → IsGoodNode limit m names status n → NodeFits limit m n
  node_fits (leaf c) h = h.1
  node_fits left_open h = tt
  node_fits (split j k a b) h = (node_fits a h.3, node_fits b h.4)

  closed : (n : Node) → (status ≡ unbounded → ⊥) → IsGoodNode limit m names status n → IsClosed n
  closed (leaf c) ne h = tt
  closed left_open ne h = absurd (ne h)
  closed (split j k a b) ne h = (closed a ne h.3, closed b ne h.4)

  shaped : (box : RobustModel) (n : Node) → HasCountsOf m box → T (are_bounded box.variables names)
      → IsGoodNode limit m names status n
      → Each IsShaped (leaves box n)
  shaped box (leaf c) same bounded h = (shape_moves m box same c h.0, tt)
  shaped box left_open same bounded h = (tt, tt)
  shaped box (split j k a b) same bounded h =
      let inside = bounded_in box.variables names j h.0 bounded in
      each_append IsShaped (leaves (box_below box j k) a) (leaves (box_above box j k) b)
      (shaped (box_below box j k) a
      (same_through m box (box_below box j k) same (same_behind box (at_most_branch j k) inside))
      (changes_bounded true k j box.variables names bounded) h.3)
      (shaped (box_above box j k) b
      (same_through m box (box_above box j k) same (same_behind box (at_least_branch j k) inside))
      (changes_bounded false (k +ℤ pos 1) j box.variables names bounded) h.4)

  -- the tree of a good root
  pub tree_of_good : (t : Tree) → t.status ≡ status → T (are_bounded m.variables names)
      → IsGoodNode limit m names status t.root → branch_count t.root < 1000
      → KeepsBest t.status t.best (leaf_count t.root) → KeepsParts t.status t.value t.best
      → HasTreeShape limit m names t
  tree_of_good t is bounded good few best parts = record {
    tree = record { on_names = on_names t.root good; few = few; closed = keeps t.status is; best = best };
    shaped = shaped m t.root (same_self m) bounded good;
    numbers = numbers t.root good;
    parts = parts;
  }
    where
      keeps : (s : Status) → s ≡ status → KeepsOpen s t.root
      keeps optimal e = closed t.root (λ f. other_one (e ∙ f)) good
        where
          other_one : optimal ≡ unbounded → ⊥
          other_one e = cc
      keeps infeasible e = closed t.root (λ f. other_one (e ∙ f)) good
        where
          other_one : infeasible ≡ unbounded → ⊥
          other_one e = cc
      keeps unbounded e = tt
