use Rattle.std.proofs.Common.{◌≡◌, drop}
use Rattle.std.specs.Prelude.{◌+ℤ◌}
use Rattle.rob_index.specs.Forms.{weighed}
use Rattle.rob_ranges.specs.Values.{spread}
use Rattle.rob_ranges.proofs.values.short_spread.Given as goal

-- the products from this place on are still to be added
abbrev pub invariant-loop-place : goal.invariant-loop-place
invariant-loop-place l =
    l.sum +ℤ weighed l.rest (spread (drop l.place-index l.near) l.far)
    ≡ l.number +ℤ weighed l.factors (spread l.near l.far)
