-- The leaves of a branch's two nodes behind one another, as the check of a tree passes them.
use Rattle.std.proofs.Common.{◌≡◌, ℕ, suc, ◌+◌, List, [], ◌∷◌, ◌++◌, map, length, arith, refl, ap, sym, ◌∙◌, subst, append_assoc, length-append, inl, inr}
use Rattle.std.specs.Prelude.{ℤ, Some}
use Rattle.rob_algebra.specs.Fraction.{Fraction}
use Rattle.rob_meaning.proofs.Lists.EachLemmas.{each_append}
use Rattle.rob_meaning.specs.Certificates.{Certificate, Status}
use Rattle.rob_meaning.specs.RobustModel.{RobustModel}
use Rattle.rob_model.specs.declared.place.Spot.{Spot}
use Rattle.rob_reach.proofs.GrowingLemmas.{length-leaves}
use Rattle.rob_reach.specs.Boxes.{Branch, box_below, box_above, at_most_branch, at_least_branch}
use Rattle.rob_reach.specs.Trees.{Node, leaf, split, left_open, Leaf, leaves, leaf_count}
use Rattle.rob_reach.specs.Verdicts.{leaf_at}
use Rattle.rob_tree.specs.View.{branch_of}
use Rattle.rob_tree.specs.declared.tree.Branch as declared
use Rattle.rob_tree.specs.declared.verdict.LeafFault.{LeafFault}
use Rattle.rob_tree.specs.declared.verdict.TreeVerdict.{TreeVerdict}
use Rattle.rob_tree.specs.declared.verdict.TreeVerdict.TheVariants.{Accepted, Rejected, TooWide, Memory}
use Rattle.rob_branch.specs.Leaves.{FailsAt, IsLeafJudged, IsPassedLeaf, IsPassedNode, Stops, StopsAt, TellsWide}
use Rattle.rob_branch.specs.Verdicts.{IsWideInLeaf, path_at, paths}
use Rattle.rob_branch.specs.declared.leaf.LeafCheck.TheVariants as check

-- ---- places in a list
pub leaf_at_front : (xs : List Leaf) (l : Leaf) (ys : List Leaf) → leaf_at (xs ++ l ∷ ys) (suc (length xs)) ≡ Some l
leaf_at_front [] l ys = refl
leaf_at_front (x ∷ xs) l ys = leaf_at_front xs l ys

pub path_at_front : (xs : List (List Branch)) (p : List Branch) (ys : List (List Branch))
    → path_at (xs ++ p ∷ ys) (suc (length xs)) ≡ p
path_at_front [] p ys = refl
path_at_front (x ∷ xs) p ys = path_at_front xs p ys

-- ---- the paths of a node
pub length-paths : (front : List Branch) (n : Node) → length (paths front n) ≡ leaf_count n
length-paths front (leaf c) = refl
length-paths front (split j k below above) =
    omega (
      arith,
      length-append (paths (front ++ at_most_branch j k ∷ []) below) (paths (front ++ at_least_branch j k ∷ []) above),
      length-paths (front ++ at_most_branch j k ∷ []) below,
      length-paths (front ++ at_least_branch j k ∷ []) above,
    )
length-paths front left_open = refl

module _ (limit : ℕ) (claimed : Status) (value : Fraction) where
  -- ---- one leaf
  pub leaf_stops : (box : RobustModel) (front : List Branch) (c : Certificate) (n : ℕ) (P : Leaf → Type 0)
      → P (record { box = box; certificate = Some c })
      → StopsAt limit claimed value box front (leaf c) n n front P
  leaf_stops box front c n P h = record {
    done = [];
    here = record { box = box; certificate = Some c };
    rest = [];
    order = refl;
    passed = tt;
    number = omega arith;
    paths_before = [];
    paths_after = [];
    paths_order = refl;
    same_place = refl;
    holds = h;
  }

  pub leaf_fails : (box : RobustModel) (front : List Branch) (c : Certificate) (n : ℕ) (told : LeafFault)
      → IsLeafJudged limit claimed value box c (check.Fails told)
      → Stops limit claimed value box front (leaf c) n (Rejected n told)
  leaf_fails box front c n told h = (front, leaf_stops box front c n (FailsAt limit claimed value told) (c, refl, h))

  pub leaf_wide : (box : RobustModel) (path : List declared.Branch) (c : Certificate) (n : ℕ) (spot : Spot)
      (told : TreeVerdict)
      → IsWideInLeaf limit (record { box = box; certificate = Some c }) spot → TellsWide path spot told
      → Stops limit claimed value box (map branch_of path) (leaf c) n told
  leaf_wide box path c n spot told h (inl e) =
      subst (Stops limit claimed value box (map branch_of path) (leaf c) n) (sym e)
      (n, leaf_stops box (map branch_of path) c n (λ l. IsWideInLeaf limit l spot) h)
  leaf_wide box path c n spot told h (inr e) = subst (Stops limit claimed value box (map branch_of path) (leaf c) n)
      (sym e) tt

  -- ---- the two nodes of a branch
  module _ (box : RobustModel) (j : ℕ) (k : ℤ) (below above : Node) where
    pub passed_both : (first middle last : ℕ) → IsPassedNode limit claimed value (box_below box j k) below first middle
        → IsPassedNode limit claimed value (box_above box j k) above middle last
        → IsPassedNode limit claimed value box (split j k below above) first last
    passed_both first middle last h g = record {
      number = omega (arith, h.number, g.number);
      passed = each_append (IsPassedLeaf limit claimed value) (leaves (box_below box j k) below)
          (leaves (box_above box j k) above) h.passed g.passed;
    }

    module _ (front : List Branch) where
      at_below : (first i : ℕ) (path : List Branch) (P : Leaf → Type 0)
          → StopsAt limit claimed value (box_below box j k) (front ++ at_most_branch j k ∷ []) below first i path P
          → StopsAt limit claimed value box front (split j k below above) first i path P
      at_below first i path P h =
          let more = leaves (box_above box j k) above in
          let behind = paths (front ++ at_least_branch j k ∷ []) above in
          record {
            done = h.done;
            here = h.here;
            rest = h.rest ++ more;
            order = ap (λ l. l ++ more) h.order ∙ append_assoc h.done (h.here ∷ h.rest) more;
            passed = h.passed;
            number = h.number;
            paths_before = h.paths_before;
            paths_after = h.paths_after ++ behind;
            paths_order = ap (λ l. l ++ behind) h.paths_order
                ∙ append_assoc h.paths_before (path ∷ h.paths_after) behind;
            same_place = h.same_place;
            holds = h.holds;
          }

      at_above : (first middle i : ℕ) (path : List Branch) (P : Leaf → Type 0)
          → IsPassedNode limit claimed value (box_below box j k) below first middle
          → StopsAt limit claimed value (box_above box j k) (front ++ at_least_branch j k ∷ []) above middle i path P
          → StopsAt limit claimed value box front (split j k below above) first i path P
      at_above first middle i path P passed h =
          let before = leaves (box_below box j k) below in
          let ahead = paths (front ++ at_most_branch j k ∷ []) below in
          let count = length-leaves (box_below box j k) below in
          record {
            done = before ++ h.done;
            here = h.here;
            rest = h.rest;
            order = ap (λ l. before ++ l) h.order ∙ sym (append_assoc before h.done (h.here ∷ h.rest));
            passed = each_append (IsPassedLeaf limit claimed value) before h.done passed.passed h.passed;
            number = omega (arith, passed.number, h.number, count, length-append before h.done);
            paths_before = ahead ++ h.paths_before;
            paths_after = h.paths_after;
            paths_order = ap (λ l. ahead ++ l) h.paths_order
                ∙ sym (append_assoc ahead h.paths_before (path ∷ h.paths_after));
            same_place = omega (
              arith,
              h.same_place,
              count,
              length-paths (front ++ at_most_branch j k ∷ []) below,
              length-append ahead h.paths_before,
              length-append before h.done,
            );
            holds = h.holds;
          }

      pub stops_below : (first : ℕ) (v : TreeVerdict)
          → Stops limit claimed value (box_below box j k) (front ++ at_most_branch j k ∷ []) below first v
          → Stops limit claimed value box front (split j k below above) first v
      stops_below first Accepted h = h
      stops_below first (Rejected i told) h = (h.0, at_below first i h.0 (FailsAt limit claimed value told) h.1)
      stops_below first (TooWide path spot) h =
          (h.0, at_below first h.0 (map branch_of path) (λ l. IsWideInLeaf limit l spot) h.1)
      stops_below first Memory h = h

      pub stops_above : (first middle : ℕ) (v : TreeVerdict)
          → IsPassedNode limit claimed value (box_below box j k) below first middle
          → Stops limit claimed value (box_above box j k) (front ++ at_least_branch j k ∷ []) above middle v
          → Stops limit claimed value box front (split j k below above) first v
      stops_above first middle Accepted passed h = h
      stops_above first middle (Rejected i told) passed h =
          (h.0, at_above first middle i h.0 (FailsAt limit claimed value told) passed h.1)
      stops_above first middle (TooWide path spot) passed h =
          (h.0, at_above first middle h.0 (map branch_of path) (λ l. IsWideInLeaf limit l spot) passed h.1)
      stops_above first middle Memory passed h = h
