-- How a tree grows, one step at a time: what is asked of the two boxes of a
-- branch, and what is answered of both together.
use Rattle.std.proofs.Common.{◌≡◌, ℕ, ◌+◌, ◌<◌, ◌≤◌, suc, List, [], ◌∷◌, ◌++◌, T, Bool, true, false, ap, sym, ◌∙◌, subst, arith, append_assoc, ◌⊎◌, inl, inr}
use Rattle.std.specs.Prelude.{ℤ, Option, Some, None}
use Rattle.rob_meaning.proofs.Lists.EachLemmas.{each_append}
use Rattle.rob_meaning.specs.Certificates.{Certificate, Status, optimal, infeasible, unbounded}
use Rattle.rob_meaning.specs.Places.{Each}
use Rattle.rob_meaning.specs.RobustModel.{RobustModel}
use Rattle.rob_meaning.specs.WellFormed.{IsModel}
use Rattle.rob_reach.proofs.GrowingLemmas.{allows_branch, leaves_bounded, measure_falls, measure_splits}
use Rattle.rob_reach.specs.Boxes.{Branch, behind, box_below, box_above, at_most_branch, at_least_branch}
use Rattle.rob_reach.specs.Growing.{Search, ends, branches, counted, improved, shown_endless, Decides, Grows, IsAllowed, is_beaten, first_broken, outcome_by}
use Rattle.rob_reach.specs.Ranges.{are_bounded, product_of_ranges}
use Rattle.rob_reach.specs.Trees.{Node, leaf, split, left_open, leaves, leaf_count}
use Rattle.rob_tree.specs.Shape.{IsShaped}
use Rattle.rob_tree.specs.declared.error.TreeStop.{TreeStop}
use Rattle.rob_tree.specs.declared.error.TreeStop.TheVariants.{Rule, EmptySet, Wide, Memory}
use Rattle.rob_branch.specs.Growth.{HasCauseBehind}
use Rattle.rob_elab.specs.Written.{IsWritten}

-- ---- the leaves of both boxes of a branch are few
module _ (m : RobustModel) (names : List ℕ) (before : Search) (c : Certificate) (j : ℕ) (k : ℤ)
    (h : Decides m names before c (branches j k)) where
  module _ (model : IsModel m) (bounded : T (are_bounded m.variables names)) where
    -- behind each of them they are few
    pub few_below : (n : ℕ) → n + product_of_ranges m.variables names ≤ 1000
        → n + product_of_ranges (box_below m j k).variables names ≤ 1000
    few_below n few =
        omega (arith, (measure_falls m model names bounded c j k (allows_branch m names before c j k h)).0)

    pub few_above : (n middle : ℕ) → n + product_of_ranges m.variables names ≤ 1000
        → middle ≤ n + product_of_ranges (box_below m j k).variables names
        → middle + product_of_ranges (box_above m j k).variables names ≤ 1000
    few_above n middle few some =
        omega (arith, measure_splits m model names bounded c j k (allows_branch m names before c j k h))

-- ---- the measure falls behind an allowed branch
pub falls_behind : (m : RobustModel) → IsModel m → (names : List ℕ) → T (are_bounded m.variables names)
    → (b : Branch) → IsAllowed m names b
    → product_of_ranges (behind m b).variables names < product_of_ranges m.variables names
falls_behind m model names bounded b h = by h.side
  where
    by : (b ≡ at_most_branch h.variable h.k) ⊎ (b ≡ at_least_branch h.variable h.k) →
        product_of_ranges (behind m b).variables names < product_of_ranges m.variables names
    by (inl e) =
        subst (λ b. product_of_ranges (behind m b).variables names < product_of_ranges m.variables names) (sym e)
        (measure_falls m model names bounded h.certificate h.variable h.k h.allows).0
    by (inr e) =
        subst (λ b. product_of_ranges (behind m b).variables names < product_of_ranges m.variables names) (sym e)
        (measure_falls m model names bounded h.certificate h.variable h.k h.allows).1

-- ---- how many leaves there are behind a node
one_more : (names : List ℕ) (m : RobustModel) (before after : Search) (c : Certificate)
    → Decides m names before c (ends after)
    → after.count ≡ suc before.count
one_more names m before after c h =
    by c.status (is_beaten m.sense before.best c.value) (first_broken names c.plan) h.decides
  where
    same : (s : Search) → ends s ≡ ends after → after.count ≡ s.count
    same s e = let p : s ≡ after = cc in ap (λ (x : Search). x.count) (sym p)

    by : (status : Status) (beaten : Bool) (broken : Option ℕ) → outcome_by before c status beaten broken ≡ ends after
        → after.count ≡ suc before.count
    by infeasible beaten broken e = same (counted before) e
    by optimal true broken e = same (counted before) e
    by optimal false None e = same (improved before c.value) e
    by optimal false (Some i) e = cc
    by unbounded beaten None e = same (shown_endless before) e
    by unbounded beaten (Some i) e = cc

pub grows_count : (m : RobustModel) (names : List ℕ) (before after : Search) (node : Node)
    → Grows m names before node after
    → after.count ≡ before.count + leaf_count node
grows_count m names before after (leaf c) h = omega (arith, one_more names m before after c h)
grows_count m names before after left_open h =
    let more : after.count ≡ suc before.count = ap (λ (s : Search). s.count) h.1 in omega arith
grows_count m names before after (split j k below above) h =
    let first : h.1.0.count ≡ before.count + leaf_count below =
    grows_count (box_below m j k) names before h.1.0 below h.1.1.0 in
    let second : after.count ≡ h.1.0.count + leaf_count above =
    grows_count (box_above m j k) names h.1.0 after above h.1.1.1 in
    omega arith

pub count_within : (m : RobustModel) → IsModel m → (names : List ℕ) → T (are_bounded m.variables names)
    → (before after : Search) (node : Node)
    → Grows m names before node after → after.count ≤ before.count + product_of_ranges m.variables names
count_within m model names bounded before after node h =
    omega (arith, grows_count m names before after node h, leaves_bounded m model names bounded before after node h)

-- ---- a node with its two boxes
pub shaped_both : (m : RobustModel) (j : ℕ) (k : ℤ) (below above : Node)
    → Each IsShaped (leaves (box_below m j k) below)
    → Each IsShaped (leaves (box_above m j k) above) → Each IsShaped (leaves m (split j k below above))
shaped_both m j k below above h g =
    each_append IsShaped (leaves (box_below m j k) below) (leaves (box_above m j k) above) h g

-- ---- why a box has not grown
-- a cause behind one of the two boxes of a branch is one behind the box
module _ (limit : ℕ) (m : RobustModel) (names : List ℕ) (before : Search) (front : List Branch)
    (c : Certificate) (j : ℕ) (k : ℤ)
    (decides : Decides m names before c (branches j k)) (written : IsWritten limit m) where
  pub cause_below : (b : Branch) (stop : TreeStop) → b ≡ at_most_branch j k
      → HasCauseBehind limit (behind m b) names before (front ++ b ∷ []) stop
      → HasCauseBehind limit m names before front stop
  cause_below b (Rule rule) is h = h
  cause_below b (EmptySet weights) is h = h
  cause_below b (Wide path spot) is h = (
    b ∷ h.0,
    h.1 ∙ append_assoc front (b ∷ []) h.0,
    (h.2.0, (c, j, k, decides, inl (is, h.2.1))),
    (written, h.3),
    h.4,
  )
  cause_below b Memory is h = h

  pub cause_above : (a b : Branch) (stop : TreeStop) (below : Node) (middle : Search) → a ≡ at_most_branch j k
      → b ≡ at_least_branch j k
      → Grows (behind m a) names before below middle
      → HasCauseBehind limit (behind m b) names middle (front ++ b ∷ []) stop
      → HasCauseBehind limit m names before front stop
  cause_above a b (Rule rule) below middle first is grows h = h
  cause_above a b (EmptySet weights) below middle first is grows h = h
  cause_above a b (Wide path spot) below middle first is grows h =
      let grown : Grows (box_below m j k) names before below middle =
      subst (λ (a : Branch). Grows (behind m a) names before below middle) first grows in (
        b ∷ h.0,
        h.1 ∙ append_assoc front (b ∷ []) h.0,
        (h.2.0, (c, j, k, decides, inr (is, (below, middle, grown, h.2.1)))),
        (written, h.3),
        h.4,
      )
  cause_above a b Memory below middle first is grows h = h
