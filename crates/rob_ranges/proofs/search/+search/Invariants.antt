use Rattle.std.proofs.Common.{◌≡◌, length, ◌+◌, ◌*◌, ◌∷◌}
use Rattle.rob_index.specs.Search.{search, search_each}
use Rattle.rob_ranges.specs.Seeking.{seek}
use Rattle.rob_ranges.proofs.search.+search.Given as goal

abbrev pub decreases-search : goal.decreases-search
decreases-search l = 2 * length l.ranges.now + 1

abbrev pub decreases-search_each : goal.decreases-search_each
decreases-search_each l = 2 * length l.ranges.now

-- what is left to be tried, with what is left to be spent, is the whole search
abbrev pub invariant-search_each-upwards : goal.invariant-search_each-upwards
invariant-search_each-upwards l = record {
  price : l.purse.price ≡ l.fn.purse.price;
  stands :
      search_each (λ v left. search l.fn.purse.price l.inner (v ∷ l.values) l.form l.bound left) l.fn.purse.price
      l.run l.purse.left
      ≡ seek l.fn.purse.price l.ranges l.values l.form l.bound l.fn.purse.left;
}

abbrev pub decreases-search_each-upwards : goal.decreases-search_each-upwards
decreases-search_each-upwards l = length l.run
