use Rattle.std.proofs.Common.{◌≡◌, drop, map}
use Rattle.std.specs.Prelude.{fold}
use Rattle.rob_meaning.specs.RobustModel.{written_count}
use Rattle.rob_model.specs.View.{set_line_of, robust}
use Rattle.rob_write.specs.Pages.{put_line}
use Rattle.rob_write.specs.WrittenModel.{line_written}
use Rattle.rob_write.specs.ExpressionWords.{naming_of}
use Rattle.rob_write.specs.StatementWords.{lines_over, set_words}
use Rattle.rob_write.proofs.set_writer.put_set_lines.Given as goal

abbrev pub invariant-loop-i : goal.invariant-loop-i
invariant-loop-i g l =
    fold put_line l.page (lines_over (set_words (naming_of (robust g.N.Exact.value l.model))) l.model.sets
    (map (line_written (written_count (robust g.N.Exact.value l.model)))
    (map (set_line_of g.N.Exact.value) (drop l.i l.set_lines))) (drop l.i l.of_lines))
    ≡ fold put_line l.fn.page (lines_over (set_words (naming_of (robust g.N.Exact.value l.model))) l.model.sets
    (map (line_written (written_count (robust g.N.Exact.value l.model)))
    (map (set_line_of g.N.Exact.value) l.set_lines)) l.of_lines)
