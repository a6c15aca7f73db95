use Rattle.std.proofs.Common.{◌≡◌, ◌+◌, ◌*◌, ◌++◌, length}
use Rattle.rob_index.specs.Settings.{count as span}
use Rattle.rob_settings.specs.Room.{left_of}
use Rattle.rob_settings.specs.Settings.{between}
use Rattle.rob_settings.proofs.settings.+walk.Given as goal

abbrev pub invariant-append_values-values : goal.invariant-append_values-values
invariant-append_values-values l = record {
  appended :
      l.settings ++ between l.value l.fn.ends.upto l.inner l.values
      ≡ l.fn.settings ++ between l.fn.ends.from l.fn.ends.upto l.inner l.values;
  left :
      left_of (length (between l.value l.fn.ends.upto l.inner l.values)) l.left
      ≡ left_of (length (between l.fn.ends.from l.fn.ends.upto l.inner l.values)) l.room;
}

abbrev pub decreases-append_values-values : goal.decreases-append_values-values
decreases-append_values-values l = span l.value l.fn.ends.upto

abbrev pub decreases-append_settings : goal.decreases-append_settings
decreases-append_settings l = 3 * length l.ranges.now

abbrev pub decreases-append_values : goal.decreases-append_values
decreases-append_values l = 3 * length l.inner.now + 2

abbrev pub decreases-append_at : goal.decreases-append_at
decreases-append_at l = 3 * length l.inner.now + 1
