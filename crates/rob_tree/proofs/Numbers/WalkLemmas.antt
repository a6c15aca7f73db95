-- The leaf of a number among those of two nodes.
use Rattle.std.proofs.Common.{◌≡◌, ℕ, zero, suc, ◌+◌, ◌<◌, List, [], ◌∷◌, ◌++◌, length, arith, refl, ap, sym, ◌∙◌}
use Rattle.std.specs.Prelude.{ℤ, Option, Some, None}
use Rattle.rob_algebra.specs.Fraction.{Fraction}
use Rattle.rob_cert.specs.View.{certificate_of}
use Rattle.rob_meaning.specs.Certificates.{Certificate}
use Rattle.rob_reach.proofs.GrowingLemmas.{length-leaves}
use Rattle.rob_reach.specs.Boxes.{box_above, box_below}
use Rattle.rob_reach.specs.Trees.{Node, leaf, split, left_open, Leaf, leaf_count, leaves}
use Rattle.rob_reach.specs.Verdicts.{leaf_at}
use Rattle.rob_tree.specs.Walks.{IsWalk, LeafHas}
use Rattle.rob_tree.specs.declared.walk.Walk.{Walk}
use Rattle.rob_tree.specs.declared.walk.Walk.TheVariants as walk

-- a leaf of the first list is at its place in both; one of the second stands behind the first
pub leaf_at_left : (xs ys : List Leaf) (i : ℕ) (l : Leaf) → leaf_at xs i ≡ Some l → leaf_at (xs ++ ys) i ≡ Some l
leaf_at_left [] ys i l e = cc
leaf_at_left (x ∷ xs) ys zero l e = cc
leaf_at_left (x ∷ xs) ys (suc zero) l e = e
leaf_at_left (x ∷ xs) ys (suc (suc i)) l e = leaf_at_left xs ys (suc i) l e

pub leaf_at_right : (xs ys : List Leaf) (i : ℕ) → leaf_at (xs ++ ys) (length xs + suc i) ≡ leaf_at ys (suc i)
leaf_at_right [] ys i =
    let e : 0 + suc i ≡ suc i = omega arith in
    ap (leaf_at ys) e
leaf_at_right (x ∷ []) ys i =
    let e : 1 + suc i ≡ suc (suc i) = omega arith in
    ap (leaf_at (x ∷ ys)) e
leaf_at_right (x ∷ (y ∷ xs)) ys i =
    let e : length (x ∷ (y ∷ xs)) + suc i ≡ suc (suc (length xs + suc i)) = omega arith in
    let f : suc (length xs + suc i) ≡ length (y ∷ xs) + suc i = omega arith in
    ap (leaf_at ((x ∷ (y ∷ xs)) ++ ys)) e ∙ (ap (leaf_at ((y ∷ xs) ++ ys)) f ∙ leaf_at_right (y ∷ xs) ys i)

-- the one leaf of a node without branches
pub first_leaf : (n : Node) (i : ℕ) (c : Certificate) → n ≡ leaf c → i ≡ 1 → LeafHas n i (Some c)
first_leaf n i c e f box = (
  record { box = box; certificate = Some c },
  ap (λ n. leaf_at (leaves box n) i) e ∙ ap (leaf_at (leaves box (leaf c))) f,
  refl,
)

pub first_open : (n : Node) (i : ℕ) → n ≡ left_open → i ≡ 1 → LeafHas n i None
first_open n i e f box = (
  record { box = box; certificate = None },
  ap (λ n. leaf_at (leaves box n) i) e ∙ ap (leaf_at (leaves box left_open)) f,
  refl,
)

module _ (n below above : Node) (j : ℕ) (k : ℤ) (is : n ≡ split j k below above) (i : ℕ) where
  -- what the first node has is what both have
  pub leaf_left : (o : Option Certificate) → LeafHas below i o → LeafHas n i o
  leaf_left o h box =
      let l = h (box_below box j k) in (
        l.0,
        ap (λ n. leaf_at (leaves box n) i) is
            ∙ leaf_at_left (leaves (box_below box j k) below) (leaves (box_above box j k) above) i l.0 l.1,
        l.2,
      )

  at_right : (xs ys : List Leaf) (left : ℕ) → i ≡ length xs + left → 0 < left → leaf_at (xs ++ ys) i ≡ leaf_at ys left
  at_right xs ys zero e some = absurd (omega arith)
  at_right xs ys (suc left) e some = ap (leaf_at (xs ++ ys)) e ∙ leaf_at_right xs ys left

  leaf_right : (left : ℕ) (o : Option Certificate) → i ≡ leaf_count below + left → 0 < left → LeafHas above left o
      → LeafHas n i o
  leaf_right left o e some h box =
      let l = h (box_above box j k) in
      let count = length-leaves (box_below box j k) below in (
        l.0,
        ap (λ n. leaf_at (leaves box n) i) is
            ∙ (at_right (leaves (box_below box j k) below) (leaves (box_above box j k) above) left
            (e ∙ ap (λ c. c + left) (sym count)) some ∙ l.1),
        l.2,
      )

  -- what is left behind the first node is sought in the second
  pub walk_right : {N : Type 0} (of : N → Fraction) (left : ℕ) (w : Walk N) → i ≡ leaf_count below + left → 0 < left
      → IsWalk of above left w
      → IsWalk of n i w
  walk_right of left (walk.Here cert) e some h = leaf_right left (Some (certificate_of of cert.now)) e some h
  walk_right of left walk.Open e some h = leaf_right left None e some h
  walk_right of left (walk.Behind more) e some h = (omega (arith, e, h.0, ap leaf_count is), h.1)
