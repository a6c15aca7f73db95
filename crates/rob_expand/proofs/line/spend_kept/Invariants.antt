use Rattle.std.proofs.Common.{◌≡◌, true, drop}
use Rattle.rob_expand.specs.Lines.{items_left}
use Rattle.rob_settings.specs.Spots.{picks}
use Rattle.rob_expand.proofs.line.spend_kept.Given as goal

abbrev pub invariant-loop-k : goal.invariant-loop-k
invariant-loop-k l =
    items_left l.first (picks l.items (drop l.k-index l.kept)) l.values l.left
    ≡ items_left true (picks l.items l.kept) l.values l.room
