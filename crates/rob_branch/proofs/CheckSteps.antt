-- The check of a branch's two nodes, one step at a time: what is asked of each, and what both together answer.
use Rattle.std.proofs.Common.{◌≡◌, ℕ, suc, ◌+◌, ◌-◌, ◌^◌, ◌<◌, ◌≤◌, List, [], ◌∷◌, ◌++◌, ap, ap₂, sym, ◌∙◌, subst, arith, to_z, of_z, w64}
use Rattle.std.proofs.lemmas.List.{map-append}
use Rattle.std.specs.Prelude.{ℤ, nat_abs, map, Result, Ok, Err, IfOk, IfErr}
use Rattle.rob_algebra.specs.Fraction.{Fraction}
use Rattle.rob_meaning.proofs.Lists.EachLemmas.{each_left, each_right}
use Rattle.rob_meaning.specs.Certificates.{Status}
use Rattle.rob_meaning.specs.RobustModel.{RobustModel}
use Rattle.rob_number.proofs.CastLemmas.{seen_small}
use Rattle.rob_reach.proofs.RangeLemmas.{changes_bounded}
use Rattle.rob_reach.specs.Boxes.{Branch, behind, box_above, box_below, at_most_branch, at_least_branch}
use Rattle.rob_reach.specs.Ranges.{KeepsBothBounds}
use Rattle.rob_reach.specs.Trees.{Node, split, leaf_count, leaves, node_count}
use Rattle.rob_tree.specs.Shape.{IsShaped}
use Rattle.rob_tree.specs.View.{branch_of}
use Rattle.rob_tree.specs.declared.tree.Branch as declared
use Rattle.rob_tree.specs.declared.verdict.TreeVerdict.{TreeVerdict}
use Rattle.rob_branch.proofs.LeafLemmas.{passed_both, stops_above, stops_below}
use Rattle.rob_branch.proofs.SideLemmas.{above_read, below_read, next_within}
use Rattle.rob_branch.specs.Leaves.{IsBoxNode, IsPassedNode, MayCheck, Stops}

-- a branch whose nodes are told otherwise
pub split_told : {n below above x y : Node} {j : ℕ} {k : ℤ} → n ≡ split j k below above → x ≡ below → y ≡ above
    → n ≡ split j k x y
split_told {x = x} {y = y} {j = j} {k = k} is first second =
    is ∙ ap₂ (λ (a b : Node). split j k a b) (sym first) (sym second)

-- what is asked of the box behind a branch, told otherwise
pub side_checks : {limit : ℕ} {box side : RobustModel} {names : List ℕ} {b : Branch} {node : Node}
    → MayCheck limit box names b node → side ≡ behind box b → KeepsBothBounds box names
    → KeepsBothBounds side names × IsBoxNode limit side names node
side_checks {limit = limit} {box = box} {names = names} {b = b} {node = node} may tight bounded =
    let P : RobustModel → Type 0 = λ (n : RobustModel). KeepsBothBounds n names × IsBoxNode limit n names node in
    subst P (sym tight) (changes_bounded b.is_upper b.bound b.variable box.variables names bounded, may.node_is)

-- ---- what is answered of that box holds of the one behind the branch
pub passed_told : {box side : RobustModel} (limit : ℕ) (claimed : Status) (value : Fraction) (node : Node) (first : ℕ)
    (r : Result ℕ TreeVerdict) → side ≡ box → IfOk r (IsPassedNode limit claimed value side node first)
    → IfOk r (IsPassedNode limit claimed value box node first)
passed_told limit claimed value node first r =
    subst (λ (n : RobustModel). IfOk r (IsPassedNode limit claimed value n node first))

pub stopped_told : {box side : RobustModel} (limit : ℕ) (claimed : Status) (value : Fraction) (node : Node)
    (first : ℕ) (r : Result ℕ TreeVerdict) (list path : List declared.Branch) (b : declared.Branch)
    → side ≡ box → list ≡ path ++ b ∷ []
    → IfErr r (Stops limit claimed value side (map branch_of list) node first)
    → IfErr r (Stops limit claimed value box (map branch_of path ++ branch_of b ∷ []) node first)
stopped_told {box = box} limit claimed value node first r list path b tight longer h =
    subst (λ front. IfErr r (Stops limit claimed value box front node first))
    (ap (map branch_of) longer ∙ map-append branch_of path (b ∷ []))
    (subst (λ (n : RobustModel). IfErr r (Stops limit claimed value n (map branch_of list) node first)) tight h)

-- ---- a branch
module _ {n below above : Node} {j : ℕ} {k : ℤ} (is : n ≡ split j k below above) where
  -- the node has more parts, and the leaves of both
  pub fewer_below : node_count below < node_count n
  fewer_below = let e : node_count n ≡ suc (node_count below + node_count above) = ap node_count is in omega arith

  pub fewer_above : node_count above < node_count n
  fewer_above = let e : node_count n ≡ suc (node_count below + node_count above) = ap node_count is in omega arith

  leaves_both : leaf_count n ≡ leaf_count below + leaf_count above
  leaves_both = ap leaf_count is

  -- so the numbers of each one's leaves are small where those of its leaves are
  pub few_of_below : (first : ℕ) → first + leaf_count n < 2 ^ 32 → first + leaf_count below < 2 ^ 32
  few_of_below first few = omega (arith, leaves_both)

  pub few_of_above : (first middle : ℕ) → first + leaf_count n < 2 ^ 32 → middle ≡ first + leaf_count below
      → middle + leaf_count above < 2 ^ 32
  few_of_above first middle few behind_first = omega (arith, leaves_both)

  module _ {limit : ℕ} {box : RobustModel} {names : List ℕ} (h : IsBoxNode limit box names n)
      (high : limit ≤ 2 ^ 62 - 1) where
    parts : IsBoxNode limit box names (split j k below above)
    parts = subst (IsBoxNode limit box names) is h

    small : nat_abs k < 2 ^ 62
    small = let size : nat_abs k ≤ limit = parts.numbers.0.0 in omega arith

    -- K as it is read is small
    pub split_small : nat_abs (to_z w64 (of_z w64 k)) < 2 ^ 62
    split_small = seen_small k small

    -- what is asked behind the two branches that the code makes of K
    pub below_checks : {b : Branch} → b ≡ at_most_branch j (to_z w64 (of_z w64 k)) → MayCheck limit box names b below
    below_checks {b = b} e =
        subst (λ (b : Branch). MayCheck limit box names b below) (sym (below_read j k b small e)) record {
          named = parts.on_names.0;
          within = parts.numbers.0.0;
          node_is = record {
            on_names = parts.on_names.1;
            numbers = parts.numbers.1;
            shaped = each_left IsShaped (leaves (box_below box j k) below) (leaves (box_above box j k) above)
                parts.shaped;
          };
        }

    pub above_checks : {b : Branch} → b ≡ at_least_branch j (to_z w64 (of_z w64 k)) → MayCheck limit box names b above
    above_checks {b = b} e =
        subst (λ (b : Branch). MayCheck limit box names b above) (sym (above_read j k b small e)) record {
          named = parts.on_names.0;
          within = next_within limit k parts.numbers.0.0 parts.numbers.0.1;
          node_is = record {
            on_names = parts.on_names.2;
            numbers = parts.numbers.2;
            shaped = each_right IsShaped (leaves (box_below box j k) below) (leaves (box_above box j k) above)
                parts.shaped;
          };
        }

    module _ (claimed : Status) (value : Fraction) where
      -- both nodes are passed
      pub split_passed : {a b : Branch} (first middle : ℕ) (r : Result ℕ TreeVerdict)
          → a ≡ at_most_branch j (to_z w64 (of_z w64 k)) → b ≡ at_least_branch j (to_z w64 (of_z w64 k))
          → IsPassedNode limit claimed value (behind box a) below first middle
          → IfOk r (IsPassedNode limit claimed value (behind box b) above middle)
          → IfOk r (IsPassedNode limit claimed value box n first)
      split_passed {a = a} {b = b} first middle (Ok last) e f passed g =
          subst (λ n. IsPassedNode limit claimed value box n first last) (sym is)
          (passed_both limit claimed value box j k below above first middle last
          (subst (λ (a : Branch). IsPassedNode limit claimed value (behind box a) below first middle)
          (below_read j k a small e) passed)
          (subst (λ (b : Branch). IsPassedNode limit claimed value (behind box b) above middle last)
          (above_read j k b small f) g))
      split_passed {a = a} {b = b} first middle (Err v) e f passed g = tt

      -- the first one stops
      pub split_below : {a : Branch} (front : List Branch) (first : ℕ) (v : TreeVerdict)
          → a ≡ at_most_branch j (to_z w64 (of_z w64 k))
          → Stops limit claimed value (behind box a) (front ++ a ∷ []) below first v
          → Stops limit claimed value box front n first v
      split_below {a = a} front first v e stops =
          subst (λ n. Stops limit claimed value box front n first v) (sym is)
          (stops_below limit claimed value box j k below above front first v
          (subst (λ (a : Branch). Stops limit claimed value (behind box a) (front ++ a ∷ []) below first v)
          (below_read j k a small e) stops))

      -- or the second one, where the first is passed
      pub split_above : {a b : Branch} (front : List Branch) (first middle : ℕ) (r : Result ℕ TreeVerdict)
          → a ≡ at_most_branch j (to_z w64 (of_z w64 k)) → b ≡ at_least_branch j (to_z w64 (of_z w64 k))
          → IsPassedNode limit claimed value (behind box a) below first middle
          → IfErr r (Stops limit claimed value (behind box b) (front ++ b ∷ []) above middle)
          → IfErr r (Stops limit claimed value box front n first)
      split_above {a = a} {b = b} front first middle (Ok last) e f passed g = tt
      split_above {a = a} {b = b} front first middle (Err v) e f passed g =
          subst (λ n. Stops limit claimed value box front n first v) (sym is)
          (stops_above limit claimed value box j k below above front first middle v
          (subst (λ (a : Branch). IsPassedNode limit claimed value (behind box a) below first middle)
          (below_read j k a small e) passed)
          (subst (λ (b : Branch). Stops limit claimed value (behind box b) (front ++ b ∷ []) above middle v)
          (above_read j k b small f) g))
