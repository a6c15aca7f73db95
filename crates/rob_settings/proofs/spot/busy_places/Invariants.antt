use Rattle.std.proofs.Common.{◌≡◌, ◌++◌, List, drop}
use Rattle.std.specs.Prelude.{ℤ}
use Rattle.rob_ranges.specs.Spans.{IsIn}
use Rattle.rob_settings.specs.Spots.{busy, picks}
use Rattle.rob_settings.proofs.spot.busy_places.Given as goal

abbrev pub invariant-loop-k : goal.invariant-loop-k
invariant-loop-k l =
    (vs : List ℤ) → IsIn l.span vs
    → busy l.short (picks l.items l.places ++ picks l.items (drop l.k-index l.kept)) vs
    ≡ busy l.short (picks l.items l.kept) vs
