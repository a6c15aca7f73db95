use Rattle.std.proofs.Common.{◌≡◌, ◌++◌, ◌∷◌, [], length}
use Rattle.rob_index.specs.Settings.{count as span}
use Rattle.rob_settings.specs.Room.{left_of}
use Rattle.rob_settings.specs.Settings.{between}
use Rattle.rob_settings.proofs.settings.append_run.Given as goal

abbrev pub invariant-values : goal.invariant-values
invariant-values l = record {
  appended :
      l.settings ++ between l.value l.fn.ends.upto [] (l.around ∷ l.values)
      ≡ l.fn.settings ++ between l.fn.ends.from l.fn.ends.upto [] (l.around ∷ l.values);
  left :
      left_of (length (between l.value l.fn.ends.upto [] (l.around ∷ l.values))) l.left
      ≡ left_of (length (between l.fn.ends.from l.fn.ends.upto [] (l.around ∷ l.values))) l.room;
}

abbrev pub decreases-values : goal.decreases-values
decreases-values l = span l.value l.fn.ends.upto
