use Rattle.std.proofs.Common.{◌≡◌, drop, map}
use Rattle.std.specs.Prelude.{fold}
use Rattle.rob_write.specs.Pages.{put_line}
use Rattle.rob_write.specs.StatementWords.{declared_set_words}
use Rattle.rob_write.proofs.over.put_declared_sets.Given as goal

abbrev pub invariant-loop-set : goal.invariant-loop-set
invariant-loop-set l =
    fold put_line l.page (map declared_set_words (drop l.set-index l.sets))
    ≡ fold put_line l.fn.page (map declared_set_words l.sets)
