use Rattle.std.proofs.Common.{◌≡◌, drop, map}
use Rattle.std.specs.Prelude.{fold}
use Rattle.rob_model.specs.View.{adaptive_of, robust}
use Rattle.rob_write.specs.Pages.{put_line}
use Rattle.rob_write.specs.ExpressionWords.{naming_of}
use Rattle.rob_write.specs.StatementWords.{adaptive_words}
use Rattle.rob_write.proofs.writer.put_adaptives.Given as goal

abbrev pub invariant-loop-adaptive : goal.invariant-loop-adaptive
invariant-loop-adaptive g l =
    fold put_line l.page
    (map (adaptive_words (naming_of (robust g.N.Exact.value l.model)))
    (map (adaptive_of g.N.Exact.value) (drop l.adaptive-index l.adaptives)))
    ≡ fold put_line l.fn.page
    (map (adaptive_words (naming_of (robust g.N.Exact.value l.model)))
    (map (adaptive_of g.N.Exact.value) l.adaptives))
