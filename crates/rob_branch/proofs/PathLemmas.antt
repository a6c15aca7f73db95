-- The paths of a node's leaves: the box of each leaf is the one behind its path.
use Rattle.std.proofs.Common.{◌≡◌, ℕ, zero, suc, List, [], ◌∷◌, ◌++◌, refl, ap, sym, ◌∙◌}
use Rattle.std.specs.Prelude.{Some}
use Rattle.rob_meaning.specs.RobustModel.{RobustModel}
use Rattle.rob_reach.specs.Boxes.{Branch, behind, box, box_above, box_below, at_least_branch, at_most_branch}
use Rattle.rob_reach.specs.Trees.{Node, leaf, split, left_open, Leaf, leaves}
use Rattle.rob_reach.specs.Verdicts.{leaf_at}
use Rattle.rob_branch.specs.Verdicts.{path_at, paths}

-- the box behind a path with one branch more
box-longer : (m : RobustModel) (front : List Branch) (b : Branch) → box m (front ++ b ∷ []) ≡ behind (box m front) b
box-longer m [] b = refl
box-longer m (a ∷ front) b = box-longer (behind m a) front b

module _ (m : RobustModel) where
  -- as many paths as leaves, each that of its leaf
  abbrev AreBehind : List Leaf → List (List Branch) → Type 0
  AreBehind [] [] = Unit {0}
  AreBehind [] (p ∷ ps) = ⊥
  AreBehind (l ∷ ls) [] = ⊥
  AreBehind (l ∷ ls) (p ∷ ps) = (l.box ≡ box m p) × AreBehind ls ps

  both_behind : (ks ls : List Leaf) (ps qs : List (List Branch)) → AreBehind ks ps → AreBehind ls qs
      → AreBehind (ks ++ ls) (ps ++ qs)
  both_behind [] ls [] qs h g = g
  both_behind [] ls (p ∷ ps) qs h g = absurd h
  both_behind (k ∷ ks) ls [] qs h g = absurd h
  both_behind (k ∷ ks) ls (p ∷ ps) qs h g = (h.0, both_behind ks ls ps qs h.1 g)

  leaves_behind : (here : RobustModel) (front : List Branch) (n : Node) → here ≡ box m front
      → AreBehind (leaves here n) (paths front n)
  leaves_behind here front (leaf c) e = (e, tt)
  leaves_behind here front (split j k below above) e =
      let a = at_most_branch j k in
      let b = at_least_branch j k in
      both_behind (leaves (box_below here j k) below) (leaves (box_above here j k) above)
      (paths (front ++ a ∷ []) below)
      (paths (front ++ b ∷ []) above)
      (leaves_behind (box_below here j k) (front ++ a ∷ []) below (ap (λ m. behind m a) e ∙ sym (box-longer m front a)))
      (leaves_behind (box_above here j k) (front ++ b ∷ []) above (ap (λ m. behind m b) e ∙ sym (box-longer m front b)))
  leaves_behind here front left_open e = (e, tt)

  at_behind : (ls : List Leaf) (ps : List (List Branch)) (i : ℕ) (l : Leaf) → AreBehind ls ps
      → leaf_at ls i ≡ Some l → l.box ≡ box m (path_at ps i)
  at_behind [] ps i l h e = cc
  at_behind (k ∷ ls) [] i l h e = absurd h
  at_behind (k ∷ ls) (p ∷ ps) zero l h e = cc
  at_behind (k ∷ ls) (p ∷ ps) (suc zero) l h e =
      let same : k ≡ l = cc in
      ap (λ (l : Leaf). l.box) (sym same) ∙ h.0
  at_behind (k ∷ ls) (p ∷ ps) (suc (suc i)) l h e = at_behind ls ps (suc i) l h.1 e

  -- so it is for the leaf of a number
  pub box_at : (n : Node) (i : ℕ) (l : Leaf) → leaf_at (leaves m n) i ≡ Some l → l.box ≡ box m (path_at (paths [] n) i)
  box_at n i l e = at_behind (leaves m n) (paths [] n) i l (leaves_behind m [] n refl) e
