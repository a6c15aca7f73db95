-- What the program's searches stand for.
use Rattle.std.specs.Prelude.{◌≢◌, ◌≤◌, ℕ, pos, nat_abs, option_map}
use Rattle.rob_algebra.specs.Fraction.{Fraction}
use Rattle.rob_reach.specs.Growing as growing
use Rattle.rob_branch.specs.declared.search.Best.{Best}
use Rattle.rob_branch.specs.declared.search.Outcome.{Outcome}
use Rattle.rob_branch.specs.declared.search.Outcome.TheVariants.{Ends, Branches}
use Rattle.rob_branch.specs.declared.search.Search.{Search}

module _ {N : Type 0} (value : N → Fraction) where
  -- the best whole plan that a `Best` is
  abbrev pub best_of : Best N → growing.Best
  best_of b = record { number = b.number; value = value b.value }

  -- the search that a `Search` is
  abbrev pub search_of : Search N → growing.Search
  search_of s = record { count = s.count; best = option_map best_of s.best; endless = s.endless }

  -- what comes of a box
  abbrev pub outcome_of : Outcome N → growing.Outcome
  outcome_of (Ends s) = growing.ends (search_of s)
  outcome_of (Branches column k) = growing.branches column k

-- the K of a branch, and K + 1, are within the limit
abbrev pub BranchesWithin : ℕ → growing.Outcome → Type 0
BranchesWithin limit (growing.ends s) = Unit {0}
BranchesWithin limit (growing.branches column k) = (nat_abs k ≤ limit) × (k ≢ pos limit)
