-- The leaf of a number in a list of leaves.
use Rattle.std.proofs.Common.{◌≡◌, ℕ, zero, suc, ◌+◌, ◌<◌, List, [], ◌∷◌, length, arith, refl, subst}
use Rattle.std.specs.Prelude.{Some, None}
use Rattle.rob_reach.specs.Trees as trees
use Rattle.rob_reach.specs.Trees.{HasLeaf}
use Rattle.rob_reach.specs.Verdicts.{leaf_at}

-- a leaf that has a property has a number, and stands there
pub leaf_here : (P : trees.Leaf → Type 0) (ls : List trees.Leaf) (i : ℕ) → HasLeaf P ls i → (l : trees.Leaf)
    × (leaf_at ls i ≡ Some l) × P l
leaf_here P [] i h = absurd h
leaf_here P (l ∷ ls) zero h = absurd h
leaf_here P (l ∷ ls) (suc zero) h = (l, refl, h)
leaf_here P (l ∷ ls) (suc (suc i)) h = leaf_here P ls (suc i) h

pub leaf_has : (P : trees.Leaf → Type 0) (ls : List trees.Leaf) (i : ℕ) (l : trees.Leaf)
    → leaf_at ls i ≡ Some l → P l → HasLeaf P ls i
leaf_has P [] i l e h = absurd (let no : None ≡ Some l = e in cc)
leaf_has P (x ∷ ls) zero l e h = absurd (let no : None ≡ Some l = e in cc)
leaf_has P (x ∷ ls) (suc zero) l e h = let same : l ≡ x = cc in subst P same h
leaf_has P (x ∷ ls) (suc (suc i)) l e h = leaf_has P ls (suc i) l e h

-- its number is one of them
pub leaf_some : (ls : List trees.Leaf) (i : ℕ) (l : trees.Leaf) → leaf_at ls i ≡ Some l → 0 < i
leaf_some [] i l e = absurd (let no : None ≡ Some l = e in cc)
leaf_some (x ∷ ls) zero l e = absurd (let no : None ≡ Some l = e in cc)
leaf_some (x ∷ ls) (suc i) l e = omega arith

pub leaf_within : (ls : List trees.Leaf) (i : ℕ) (l : trees.Leaf) → leaf_at ls i ≡ Some l → (left : ℕ)
    → i ≡ length ls + left → 0 < left → ⊥
leaf_within [] i l e left is some = let no : None ≡ Some l = e in cc
leaf_within (x ∷ ls) zero l e left is some = omega (arith, is)
leaf_within (x ∷ []) (suc zero) l e left is some = omega (arith, is)
leaf_within (x ∷ (y ∷ ls)) (suc zero) l e left is some = omega (arith, is)
leaf_within (x ∷ ls) (suc (suc i)) l e left is some = leaf_within ls (suc i) l e left (omega (arith, is)) some
