use Rattle.std.proofs.Common.{◌≡◌, ◌≤◌, ◌-◌, length, take}
use Rattle.rob_settings.specs.Spots.{picks}
use Rattle.rob_settings.proofs.spot.all_places.Given as goal

abbrev pub invariant-upwards : goal.invariant-upwards
invariant-upwards l = record {
  within : l.k ≤ length l.items;
  so_far : picks l.items l.places ≡ take l.k l.items;
}

abbrev pub decreases-upwards : goal.decreases-upwards
decreases-upwards l = length l.items - l.k
