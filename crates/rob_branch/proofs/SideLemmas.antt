-- The two sides of a branch at K: their numbers, what is asked of the boxes behind them, and what both give together.
use Rattle.std.proofs.Common.{◌≡◌, ◌≢◌, ℕ, ◌+◌, ◌-◌, ◌<◌, ◌≤◌, ◌^◌, List, [], ◌∷◌, ◌++◌, true, ap, sym, ◌∙◌, subst, arith, to_z, of_z, w64}
use Rattle.std.proofs.lemmas.Int.{ints}
use Rattle.std.specs.Prelude.{ℤ, pos, negsuc, ◌+ℤ◌, nat_abs, Result, Ok, Err, IfOk}
use Rattle.rob_algebra.specs.Fraction.{Fraction}
use Rattle.rob_meaning.specs.RobustModel.{RobustModel}
use Rattle.rob_meaning.specs.WellFormed.{IsModel}
use Rattle.rob_number.proofs.CastLemmas.{seen, seen_small}
use Rattle.rob_reach.proofs.BoxLemmas.{model_behind}
use Rattle.rob_reach.proofs.GrowingLemmas.{allowed_above, allowed_below}
use Rattle.rob_reach.proofs.RangeLemmas.{changes_bounded}
use Rattle.rob_reach.specs.Boxes.{Branch, behind, box_below, at_most_branch, at_least_branch}
use Rattle.rob_reach.specs.Growing.{Search}
use Rattle.rob_reach.specs.Ranges.{product_of_ranges}
use Rattle.rob_reach.specs.Trees.{split}
use Rattle.rob_tree.specs.View.{node_of}
use Rattle.rob_tree.specs.declared.error.TreeStop.{TreeStop}
use Rattle.rob_branch.proofs.GrowthLemmas.{cause_above, cause_below, count_within, few_above, few_below}
use Rattle.rob_branch.proofs.GrownTreeLemmas.{grown_joined}
use Rattle.rob_branch.specs.Growth.{CanGrow, HasCauseBehind, IsBranchedAt, IsGrownTo, MayGrow}
use Rattle.rob_branch.specs.View.{search_of}
use Rattle.rob_branch.specs.declared.grow.Grown.{Grown}

-- ---- K + 1
pub next_seen : (z : ℤ) → nat_abs z < 2 ^ 62 → to_z w64 (of_z w64 (to_z w64 (of_z w64 z) +ℤ pos 1)) ≡ z +ℤ pos 1
next_seen z h = omega (arith, ints)

pub next_within : (limit : ℕ) (k : ℤ) → nat_abs k ≤ limit → (k ≢ pos limit) → nat_abs (k +ℤ pos 1) ≤ limit
next_within limit (pos n) h other =
    let different : n ≢ limit = λ (e : n ≡ limit). other (ap pos e) in
    omega (arith, ints)
next_within limit (negsuc n) h other = omega (arith, ints)

-- ---- the branches that the code makes of K, whose number is read back
pub below_read : (j : ℕ) (k : ℤ) (b : Branch) → nat_abs k < 2 ^ 62 → b ≡ at_most_branch j (to_z w64 (of_z w64 k))
    → b ≡ at_most_branch j k
below_read j k b small e = e ∙ ap (at_most_branch j) (seen k small)

pub above_read : (j : ℕ) (k : ℤ) (b : Branch) → nat_abs k < 2 ^ 62 → b ≡ at_least_branch j (to_z w64 (of_z w64 k))
    → b ≡ at_least_branch j k
above_read j k b small e = e ∙ ap (at_least_branch j) (seen k small)

-- ---- of a box that is branched at K
module _ {limit : ℕ} {m : RobustModel} {names : List ℕ} {before : Search} {j : ℕ} {k : ℤ}
    (branched : IsBranchedAt limit m names before j k) (high : limit ≤ 2 ^ 62 - 1) where
  small : nat_abs k < 2 ^ 62
  small = let size : nat_abs k ≤ limit = branched.within.0 in omega arith

  -- K as it is read is small
  pub small_read : nat_abs (to_z w64 (of_z w64 k)) < 2 ^ 62
  small_read = seen_small k small

  -- what is asked of the boxes behind the two branches that the code makes of K
  module _ (model : IsModel m) (ready : CanGrow m names before) where
    pub below_may : {b : Branch} → b ≡ at_most_branch j (to_z w64 (of_z w64 k))
        → MayGrow limit m names before.count b
    below_may {b = b} e =
        subst (MayGrow limit m names before.count) (sym (below_read j k b small e)) record {
          allowed = allowed_below m names before branched.decides.0 j k branched.decides.1;
          within = branched.within.0;
          few = few_below m names before branched.decides.0 j k branched.decides.1 model ready.bounded before.count
              ready.few;
        }

    -- the other one, behind what the first has grown into
    pub above_may : {N : Type 0} {value : N → Fraction} {a b : Branch} {first : Grown N}
        → a ≡ at_most_branch j (to_z w64 (of_z w64 k)) → b ≡ at_least_branch j (to_z w64 (of_z w64 k))
        → IsGrownTo value limit (behind m a) names before first → MayGrow limit m names first.after.count b
    above_may {value = value} {a = a} {b = b} {first = first} is same h =
        let box = box_below m j k in
        let below : IsGrownTo value limit box names before first =
        subst (λ (a : Branch). IsGrownTo value limit (behind m a) names before first) (below_read j k a small is) h
        in
        let some : first.after.count ≤ before.count + product_of_ranges box.variables names =
        count_within box (model_behind m (at_most_branch j k) model) names
        (changes_bounded true k j m.variables names ready.bounded) before (search_of value first.after)
        (node_of value first.node) below.grows
        in
        subst (MayGrow limit m names first.after.count) (sym (above_read j k b small same)) record {
          allowed = allowed_above m names before branched.decides.0 j k branched.decides.1;
          within = next_within limit k branched.within.0 branched.within.1;
          few = few_above m names before branched.decides.0 j k branched.decides.1 model ready.bounded before.count
              first.after.count ready.few some;
        }

  -- the node of both
  pub joined_grown : {N : Type 0} {value : N → Fraction} {a b : Branch} {first second : Grown N}
      (r : Result (Grown N) TreeStop)
      → a ≡ at_most_branch j (to_z w64 (of_z w64 k)) → b ≡ at_least_branch j (to_z w64 (of_z w64 k))
      → IsGrownTo value limit (behind m a) names before first
      → IsGrownTo value limit (behind m b) names (search_of value first.after) second
      → IfOk r (λ (grown : Grown N). (grown.after ≡ second.after) × (node_of value grown.node
      ≡ split j (to_z w64 (of_z w64 k)) (node_of value first.node) (node_of value second.node)))
      → IfOk r (IsGrownTo value limit m names before)
  joined_grown {value = value} {a = a} {b = b} {first = first} {second = second} (Ok grown) is same h g both =
      grown_joined value limit m names before branched.decides.0 j k first second grown branched.decides.1
      branched.within branched.written
      (subst (λ (a : Branch). IsGrownTo value limit (behind m a) names before first) (below_read j k a small is) h)
      (subst (λ (b : Branch). IsGrownTo value limit (behind m b) names (search_of value first.after) second)
      (above_read j k b small same) g)
      both.0 (both.1 ∙ ap (λ n. split j n (node_of value first.node) (node_of value second.node)) (seen k small))
  joined_grown {value = value} {a = a} {b = b} {first = first} {second = second} (Err stop) is same h g both = tt

  -- and it stops where one of them does
  pub stopped_below : {b : Branch} (front : List Branch) (stop : TreeStop)
      → b ≡ at_most_branch j (to_z w64 (of_z w64 k))
      → HasCauseBehind limit (behind m b) names before (front ++ b ∷ []) stop
      → HasCauseBehind limit m names before front stop
  stopped_below {b = b} front stop is h =
      cause_below limit m names before front branched.decides.0 j k branched.decides.1 branched.written b stop
      (below_read j k b small is) h

  pub stopped_above : {N : Type 0} {value : N → Fraction} {a b : Branch} {first : Grown N} (front : List Branch)
      (stop : TreeStop)
      → a ≡ at_most_branch j (to_z w64 (of_z w64 k)) → b ≡ at_least_branch j (to_z w64 (of_z w64 k))
      → IsGrownTo value limit (behind m a) names before first
      → HasCauseBehind limit (behind m b) names (search_of value first.after) (front ++ b ∷ []) stop
      → HasCauseBehind limit m names before front stop
  stopped_above {value = value} {a = a} {b = b} {first = first} front stop is same h g =
      cause_above limit m names before front branched.decides.0 j k branched.decides.1 branched.written a b stop
      (node_of value first.node) (search_of value first.after) (below_read j k a small is) (above_read j k b small same)
      h.grows g
