use Rattle.std.proofs.Common.{◌≤◌, ◌-◌, length}
use Rattle.rob_settings.proofs.spot.middle.Given as goal

abbrev pub invariant-apart : goal.invariant-apart
invariant-apart l = record {
  upwards : l.half ≤ l.upwards;
  within : l.upwards ≤ length l.settings;
  downwards : l.downwards ≤ l.half;
}

abbrev pub decreases-apart : goal.decreases-apart
decreases-apart l = length l.settings - l.upwards
